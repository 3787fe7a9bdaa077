use Rattle.std.proofs.Common.{rules, sym, subst}
use Rattle.std.specs.Prelude.{IfSome}
use Rattle.gl_std.specs.bodies.Ahead.{AreRight}
use Rattle.gl_std.specs.bodies.Blocks.{IsRight}
use Rattle.gl_std.proofs.PiecesAhead.{read_on_piece, right_push}
use Rattle.gl_std.proofs.line_reader.LineReader.read_piece.Goals as goal

pub returns-clause-adds : goal.returns-clause-adds
returns-clause-adds g c =
    let filled = c.in_ok-ending.ensures.filled in
    record {
      reads = read_on_piece _ _ c.args.self.now c.read_into.new.self c.args.pieces.now.items c.push.new.self.items c.empty-piece.result c.read_into.new.piece _ c.in_ok-ending.ending c.empty-piece.ensures.none filled.reads c.in_ok-push.ensures.items;
      only = filled.only;
      short = search rules;
      fewer = filled.fewer;
    }

pub returns-clause-right : goal.returns-clause-right
returns-clause-right g c = λ names spare pieces.
    let taken = c.empty-piece.ensures.right names spare in
    let one = subst (λ block. IfSome block (IsRight names)) (sym c.read_into.ensures.block) taken.0 in
    (taken.1, subst (AreRight names) (sym c.in_ok-push.ensures.items) (right_push names c.args.pieces.now.items c.read_into.new.piece pieces one))
