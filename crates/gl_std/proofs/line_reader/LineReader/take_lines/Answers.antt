use Rattle.std.proofs.Common.{◌≡◌, ◌<◌, ℕ, get_or, ◌++◌, Err, length, map, sym, ap, ◌+◌, subst, ◌∙◌, arith}
use Rattle.std.proofs.lemmas.Grind.{common_steps}
use Rattle.std.proofs.lemmas.Result.{err_from_is_err_and}
use Rattle.gl_std.specs.Line.{Shape, shape_of}
use Rattle.gl_std.specs.Lines.{lines}
use Rattle.gl_std.specs.bodies.Blocks.{between, shapes_of}
use Rattle.gl_std.specs.bodies.Judgements.{AreApart}
use Rattle.gl_std.specs.declared.faults.ReadFault.TheVariants.{Line}
use Rattle.gl_std.specs.declared.line_reader.TheConstants.{KEPT}
use Rattle.gl_std.proofs.LineByLine.{few_kept, fault_ended}
use Rattle.gl_std.proofs.NumberedLines.{go_on_then, right_among, shapes_apart}
use Rattle.gl_std.proofs.PieceByPiece.{first_end, with_end}
use Rattle.gl_std.proofs.PiecesAhead.{between_few, between_is, end_parts, failed_lines, fault_front, taken_lines}
use Rattle.gl_std.proofs.line_reader.LineReader.take_lines.Goals as goal

pub end_line-requires-clause-one_line : goal.end_line-requires-clause-one_line
end_line-requires-clause-one_line c = (first_end c.args.piece.now c.args.end.now c.args.after.now c.requires.parts).1

-- the line that ends is at fault
pub returns-in_err-judged-clause-judges : goal.returns-in_err-judged-clause-judges
returns-in_err-judged-clause-judges c =
    let old = c.args.self.now in
    let cut = (first_end c.args.piece.now c.args.end.now c.args.after.now c.requires.parts).0 in
    let p = err_from_is_err_and c.from_residual.result c.from_residual.ensures.1 in
    record {
      tells = rw p.1 tt;
      fault = λ number kind is seen told reaches listed.
          let failed : c.end_line.result ≡ Err (Line number kind) = let was = c.in_err-judged.was in let of = c.from_residual.ensures in grind (arith, common_steps, was, of, is) in
          fault_front old.judge.limits (with_end seen c.args.end.now) (seen ++ c.args.piece.now) c.args.after.now number kind (end_parts seen c.args.piece.now c.args.end.now c.args.after.now cut)
          (fault_ended old.judge c.end_line.new.judge old.unfinished.items c.end_line.new.unfinished.items c.args.end.now seen told c.end_line.result number kind failed c.end_line.ensures.ends reaches);
      only = rw p.1 tt;
    }

pub take_block-requires-clause-apart : goal.take_block-requires-clause-apart
take_block-requires-clause-apart c =
    subst (λ shapes. (k : ℕ) (d : Shape) → k < length shapes → AreApart (get_or shapes k d)) (sym c.requires.block.says) (shapes_apart (lines (between c.args.piece.now)))

pub take_block-requires-clause-right : goal.take_block-requires-clause-right
take_block-requires-clause-right c = right_among c.args.block.now.names c.args.self.now.judge.names c.end_line.new.judge.names c.args.block.now.known c.in_ok-judged.ensures.grows c.requires.right

pub take_block-requires-clause-countable : goal.take_block-requires-clause-countable
take_block-requires-clause-countable c =
    let few = between_few c.args.piece.now c.args.end.now c.args.after.now c.requires.parts in
    omega (arith, few, c.requires.block.count, c.in_ok-judged.ensures.ends.line, c.requires.can.countable)

-- a line of the block is at fault
pub returns-in_err-take_block-clause-judges : goal.returns-in_err-take_block-clause-judges
returns-in_err-take_block-clause-judges c =
    let piece = c.args.piece.now in
    let end = c.args.end.now in
    let after = c.args.after.now in
    let mid = record c.args.self.now { judge = c.end_line.new.judge; unfinished = c.end_line.new.unfinished } in
    let p = err_from_is_err_and c.from_residual-in_err-take_block.result c.from_residual-in_err-take_block.ensures.1 in
    record {
      tells = rw p.1 tt;
      fault = λ number kind is seen told reaches listed.
          let failed : c.take_block.result ≡ Err (Line number kind) = let was = c.in_err-take_block.was in let of = c.from_residual-in_err-take_block.ensures in grind (arith, common_steps, was, of, is) in
          failed_lines c.args.self.now mid c.args.lists.now c.add.new.self piece end after c.in_ok-judged.judged (shapes_of c.args.block.now) seen told number kind c.take_block.result
          (first_end piece end after c.requires.parts).0 (c.requires.block.says ∙ ap (λ t. map shape_of (lines t)) (between_is piece end after c.requires.parts))
          c.in_ok-judged.ensures.ends (λ t same. rw c.names.ensures at (c.in_ok-add.ensures t same)) c.take_block.ensures.fault c.end_line.ensures.limits failed reaches listed;
      only = rw p.1 tt;
    }

pub returns-clause-judges : goal.returns-clause-judges
returns-clause-judges c =
    let piece = c.args.piece.now in
    let end = c.args.end.now in
    let after = c.args.after.now in
    let mid = record c.args.self.now { judge = c.end_line.new.judge; unfinished = c.end_line.new.unfinished } in
    let few = between_few c.args.piece.now c.args.end.now c.args.after.now c.requires.parts in
    record {
      tells = taken_lines c.args.self.now mid _ c.args.lists.now c.add.new.self c.take_block.new.lists piece end after c.unended.result.now c.in_ok-judged.judged (shapes_of c.args.block.now)
          (first_end piece end after c.requires.parts).0 c.unended.ensures.parts c.unended.ensures.unended (c.requires.block.says ∙ ap (λ t. map shape_of (lines t)) (between_is piece end after c.requires.parts))
          c.in_ok-judged.ensures.ends (λ t same. rw c.names.ensures at (c.in_ok-add.ensures t same)) c.in_ok-take_block.ensures.tells c.take_block.ensures.limits
          (c.in_ok-take_block.ensures.line ∙ ap (λ n. c.end_line.new.judge.line + n) (c.requires.block.count ∙ ap (λ t. length (lines t)) (between_is piece end after c.requires.parts)))
          c.in_ok-keep.ensures.kept;
      fault = λ number kind is. cc;
      only = record {
        sound = c.in_ok-take_block.ensures.sound;
        few = few_kept KEPT _ _ c.in_ok-keep.ensures.kept;
        same_limits = c.take_block.ensures.limits ∙ c.end_line.ensures.limits;
        lines = omega (arith, few, c.requires.block.count, c.in_ok-judged.ensures.ends.line, c.in_ok-take_block.ensures.line);
        grows = go_on_then c.args.self.now.judge.names c.end_line.new.judge.names c.take_block.new.self.names c.in_ok-judged.ensures.grows c.in_ok-take_block.ensures.grows;
      };
    }
