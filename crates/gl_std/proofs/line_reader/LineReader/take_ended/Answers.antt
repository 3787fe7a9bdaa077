use Rattle.std.proofs.Common.{◌≡◌, [], ◌∷◌, Err, length, length-append, ap, subst, append_assoc, arith}
use Rattle.std.proofs.lemmas.Grind.{common_steps}
use Rattle.std.proofs.lemmas.Result.{err_from_is_err_and}
use Rattle.gl_std.specs.Lines.{LF}
use Rattle.gl_std.specs.Pieces.{IsFaulty}
use Rattle.gl_std.specs.declared.faults.ReadFault.TheVariants.{Line}
use Rattle.gl_std.proofs.LineByLine.{fault_ended}
use Rattle.gl_std.proofs.PiecesAhead.{taken_line}
use Rattle.gl_std.proofs.line_reader.LineReader.take_ended.Goals as goal

-- it is at fault
pub returns-in_err-judged : goal.returns-in_err-judged
returns-in_err-judged c =
    let old = c.args.self.now in
    let p = err_from_is_err_and c.from_residual.result c.from_residual.ensures.1 in
    record {
      tells = rw p.1 tt;
      fault = λ number kind is seen told reaches listed.
          let failed : c.end_line.result ≡ Err (Line number kind) = let was = c.in_err-judged.was in let of = c.from_residual.ensures in grind (arith, common_steps, was, of, is) in
          subst (λ t. IsFaulty old.judge.limits t number kind) (append_assoc seen c.args.end.now (LF ∷ []))
          (fault_ended old.judge c.end_line.new.judge old.unfinished.items c.end_line.new.unfinished.items c.args.end.now seen told c.end_line.result number kind failed c.end_line.ensures.ends reaches);
      only = rw p.1 tt;
    }

pub returns : goal.returns
returns c =
    let mid = record c.args.self.now { judge = c.end_line.new.judge; unfinished = c.end_line.new.unfinished } in
    record {
      tells = taken_line c.args.self.now mid c.args.lists.now c.add.new.self c.args.end.now c.in_ok-judged.judged c.in_ok-judged.ensures.ends (λ t same. rw c.names.ensures at (c.in_ok-add.ensures t same));
      fault = λ number kind is. cc;
      only = record {
        sound = c.in_ok-judged.ensures.ends.sound;
        few = omega (arith, ap length c.in_ok-judged.ensures.ends.empty);
        same_limits = c.end_line.ensures.limits;
        lines = omega (arith, c.in_ok-judged.ensures.ends.line, length-append c.args.end.now (LF ∷ []));
        grows = c.in_ok-judged.ensures.grows;
      };
    }
