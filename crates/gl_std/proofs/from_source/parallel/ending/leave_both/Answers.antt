use Rattle.std.proofs.Common.{◌≡◌, Err, sym, ap, subst, ◌∙◌}
use Rattle.std.specs.Prelude.{IfOk}
use Rattle.gl_std.specs.bodies.Ahead.{text_of, CanReadAhead, HearsEnding}
use Rattle.gl_std.specs.declared.faults.ReadFault.TheVariants.{Line}
use Rattle.gl_std.proofs.HeardAhead.{can_last, ending_both, ending_faulty, judged_on}
use Rattle.gl_std.proofs.PiecesAhead.{right_pieces}
use Rattle.gl_std.proofs.from_source.parallel.ending.leave_both.Goals as goal

pub leave-requires : goal.leave-requires
leave-requires g c =
    let only = c.in-Ok.ensures.judges.only in
    let cut = c.cut_pieces.ensures in
    let front = text_of c.args.ahead.now.items in
    record {
      can = can_last c.args.judge c.take_pieces.new.self front c.args.next.now.items c.cut_pieces.new.pieces.items c.requires.next only cut;
      right = right_pieces c.args.judge.judge.names c.take_pieces.new.self.judge.names c.cut_pieces.new.pieces.items only.grows (cut.right c.args.judge.judge.names c.requires.next.right);
      on = λ is. subst (CanReadAhead c.args.reader c.take_pieces.new.self) (sym cut.same) (judged_on c.args.reader c.args.judge c.take_pieces.new.self front (text_of c.args.next.now.items) (c.requires.on is) only);
      not_failed = c.requires.not_failed;
    }

-- the others are left
pub returns-in-Ok : goal.returns-in-Ok
returns-in-Ok g c =
    let now = g.R.Source.position c.args.input.now in
    let failed = g.R.Source.failed c.args.input.now in
    let judge = c.take_pieces.new.self in
    let lists = c.take_pieces.new.lists in
    let taken = c.in-Ok.ensures.judges in
    ending_both now (g.R.Source.position c.leave.new.input) failed (g.R.Source.failed c.leave.new.input) c.args.reader c.args.judge judge c.args.lists lists (text_of c.args.ahead.now.items) (text_of c.args.next.now.items) c.args.ending c.leave.result taken.tells taken.only.same_limits
    (subst (λ t. IfOk c.leave.result (HearsEnding c.args.ending now failed c.args.reader judge lists t (g.R.Source.position c.leave.new.input) (g.R.Source.failed c.leave.new.input))) c.cut_pieces.ensures.same c.leave.ensures)

-- one of their lines is at fault
pub returns-in-Err-Line : goal.returns-in-Err-Line
returns-in-Err-Line g c =
    let is : c.take_pieces.result ≡ Err (Line c.in-Err-Line.line c.in-Err-Line.kind) = c.in-Err-Line.is ∙ ap (λ f. Err f) c.in-Err-Line.field-0-is in
    ending_faulty (g.R.Source.position c.args.input.now) (g.R.Source.position c.stop_ahead.new.input) (g.R.Source.failed c.args.input.now) (g.R.Source.failed c.stop_ahead.new.input) c.args.reader c.args.judge c.args.lists (text_of c.args.ahead.now.items) (text_of c.args.next.now.items) c.args.ending c.take_pieces.result c.in-Err-Line.line _ c.in-Err-Line.kind _ c.stop_ahead.result
    c.take_pieces.ensures.judges.fault is c.in-Err-Line.line-is c.in-Err-Line.kind-is c.stop_ahead.ensures
