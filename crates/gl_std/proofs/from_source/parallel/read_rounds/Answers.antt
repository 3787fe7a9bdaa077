use Rattle.std.proofs.Common.{◌≡◌, ◌++◌, [], length, Err, sym, ap, subst, arith}
use Rattle.std.specs.Prelude.{IfOk, OnOk}
use Rattle.std.proofs.lemmas.Grind.{common_steps}
use Rattle.std.proofs.lemmas.Result.{err_from_is_err_and}
use Rattle.gl_std.specs.bodies.Ahead.{text_of, AreRight, CanReadAhead, HasReadOn, HasReadPieces, HearsEnding, OnlyJudges, ReadsAhead, TakesPiece}
use Rattle.gl_std.specs.declared.faults.ReadFault.TheVariants.{Line}
use Rattle.gl_std.proofs.HeardAhead.{ahead_more, can_leave, can_more, can_take, countable_both, no_piece_cut, no_piece_right, no_piece_short, rest_faulty, rest_last}
use Rattle.gl_std.proofs.PiecesAhead.{right_pieces}
use Rattle.gl_std.proofs.from_source.parallel.read_rounds.Goals as goal

pub loop-pieces-init : goal.loop-pieces-init
loop-pieces-init g c =
    let none = ap (λ ps. text_of ps ++ text_of c.args.next.items) (sym c.new-ahead.ensures.items) in
    let names = c.args.judge.judge.names in
    record {
      still = λ limits turns start was. subst (λ t. ReadsAhead limits turns start (g.R.Source.position c.args.input.now) c.args.reader c.args.judge c.args.lists t) none was;
      can = subst (λ t. CanReadAhead c.args.reader c.args.judge t) none c.requires.can;
      short = no_piece_short c.new-ahead.result.items c.new-ahead.ensures.items;
      cut = no_piece_cut c.new-ahead.result.items c.new-ahead.ensures.items;
      right = no_piece_right names c.new-ahead.result.items c.new-ahead.ensures.items;
      spare_right = no_piece_right names c.new-spare.result.items c.new-spare.ensures.items;
      next_short = c.requires.short;
      next_right = c.requires.right;
      not_failed = c.requires.not_failed;
    }

pub judge_beside_list-taken-requires-clause-can : goal.judge_beside_list-taken-requires-clause-can
judge_beside_list-taken-requires-clause-can g c κs within =
    let so_far = c.loop-pieces.invariant in
    can_take c.loop-pieces.reader c.loop-pieces.judge c.loop-pieces.ahead.items (text_of c.loop-pieces.next.items) so_far.can so_far.short so_far.cut

-- there may be more
pub loop-pieces-preserved : goal.loop-pieces-preserved
loop-pieces-preserved g c =
    let so_far = c.loop-pieces.invariant in
    let call = c.judge_beside_list-taken in
    let f = c.loop-pieces.reader in
    let j = c.loop-pieces.judge in
    let f2 = call.new.reader in
    let j2 = call.new.judge in
    let front = text_of c.loop-pieces.ahead.items in
    let rest = text_of c.loop-pieces.next.items in
    let now = g.R.Source.position c.loop-pieces.input in
    let later = g.R.Source.position call.new.input in
    let failed = g.R.Source.failed call.new.input in
    let read = subst (λ r. IfOk r (HasReadPieces now f later failed f2 call.new.pieces.items)) c.in_ok-ending.was call.ensures.read in
    let pieces = text_of call.new.pieces.items in
    let on = subst (HasReadOn now f [] later failed f2 pieces) (c.goes_on.ensures c.if-not-goes_on.false) read.reads in
    let tells = subst (λ r. OnOk r (TakesPiece j c.loop-pieces.lists front j2 call.new.lists)) c.in-Ok.is call.ensures.taken.tells in
    let only = subst (λ r. OnOk r (OnlyJudges j j2 (length front))) c.in-Ok.is call.ensures.taken.only in
    let cut = call.ensures.cut in
    let same = ap (λ t. t ++ pieces) (sym cut.same) in
    let still = so_far.still in
    let right = subst (λ r. OnOk r (AreRight j2.judge.names call.new.pieces.items)) c.in_ok-ending.was (subst (λ r. OnOk r (OnOk call.result.1 (AreRight j2.judge.names call.new.pieces.items))) c.in-Ok.is call.ensures.right) in
    record {
      still = λ limits turns start was. subst (ReadsAhead limits turns start later f2 j2 call.new.lists) same (ahead_more limits turns start now later failed f f2 j j2 c.loop-pieces.lists call.new.lists front rest pieces (still limits turns start was) on tells only.same_limits);
      can = subst (CanReadAhead f2 j2) same (can_more now later failed f f2 j j2 front rest pieces so_far.can only read.same_size on);
      short = cut.short;
      cut = cut.cut;
      right = right_pieces j.judge.names j2.judge.names call.new.next.items only.grows (cut.right j.judge.names so_far.next_right);
      spare_right = subst (λ r. OnOk r (AreRight j2.judge.names call.new.ahead.items)) c.in-Ok.is call.ensures.judged;
      next_short = read.short;
      next_right = right;
      not_failed = on.gives.0;
    }

-- a line of what was read ahead is at fault
pub returns-in-Err-Line : goal.returns-in-Err-Line
returns-in-Err-Line g c =
    let so_far = c.loop-pieces.invariant in
    let call = c.judge_beside_list-taken in
    let f = c.loop-pieces.reader in
    let j = c.loop-pieces.judge in
    let f2 = call.new.reader in
    let front = text_of c.loop-pieces.ahead.items in
    let rest = text_of c.loop-pieces.next.items in
    let now = g.R.Source.position c.loop-pieces.input in
    let later = g.R.Source.position call.new.input in
    let failed = g.R.Source.failed call.new.input in
    let read = subst (λ r. IfOk r (HasReadPieces now f later failed f2 call.new.pieces.items)) c.in_ok-ending.was call.ensures.read in
    let still = so_far.still in
    let is : call.result.0 ≡ Err (Line c.in-Err-Line.line c.in-Err-Line.kind) = let was = c.in-Err-Line.is in let parts = c.in-Err-Line.field-0-is in grind (arith, common_steps, was, parts) in
    rest_faulty (g.R.Source.position c.args.input.now) now later (g.R.Source.position c.stop_ahead.new.input) failed (g.R.Source.failed c.stop_ahead.new.input) c.args.reader c.args.judge c.args.lists (text_of c.args.next.items) f f2 j c.loop-pieces.lists front rest (text_of call.new.pieces.items) c.in_ok-ending.ending call.result.0 c.in-Err-Line.line _ c.in-Err-Line.kind _ c.stop_ahead.result
    still read.reads call.ensures.taken.fault is c.in-Err-Line.line-is c.in-Err-Line.kind-is c.stop_ahead.ensures

-- no more is read ahead
pub leave_both-requires-clause-can : goal.leave_both-requires-clause-can
leave_both-requires-clause-can g c κs within =
    let so_far = c.loop-pieces.invariant in
    let call = c.judge_beside_list-taken in
    let f = c.loop-pieces.reader in
    let j = c.loop-pieces.judge in
    let f2 = call.new.reader in
    let j2 = call.new.judge in
    let front = text_of c.loop-pieces.ahead.items in
    let rest = text_of c.loop-pieces.next.items in
    let pieces = text_of call.new.pieces.items in
    let now = g.R.Source.position c.loop-pieces.input in
    let later = g.R.Source.position call.new.input in
    let failed = g.R.Source.failed call.new.input in
    let only = subst (λ r. OnOk r (OnlyJudges j j2 (length front))) c.in-Ok.is call.ensures.taken.only in
    let cut = call.ensures.cut in
    can_leave f j j2 front call.new.next.items (subst (λ t. CanReadAhead f j (front ++ t)) (sym cut.same) so_far.can) only cut.short cut.cut

pub leave_both-requires-clause-right : goal.leave_both-requires-clause-right
leave_both-requires-clause-right g c κs within =
    let so_far = c.loop-pieces.invariant in
    let call = c.judge_beside_list-taken in
    let f = c.loop-pieces.reader in
    let j = c.loop-pieces.judge in
    let f2 = call.new.reader in
    let j2 = call.new.judge in
    let front = text_of c.loop-pieces.ahead.items in
    let rest = text_of c.loop-pieces.next.items in
    let pieces = text_of call.new.pieces.items in
    let now = g.R.Source.position c.loop-pieces.input in
    let later = g.R.Source.position call.new.input in
    let failed = g.R.Source.failed call.new.input in
    let only = subst (λ r. OnOk r (OnlyJudges j j2 (length front))) c.in-Ok.is call.ensures.taken.only in
    right_pieces j.judge.names j2.judge.names call.new.next.items only.grows (call.ensures.cut.right j.judge.names so_far.next_right)

pub leave_both-requires-clause-next : goal.leave_both-requires-clause-next
leave_both-requires-clause-next g c κs within =
    let so_far = c.loop-pieces.invariant in
    let call = c.judge_beside_list-taken in
    let f = c.loop-pieces.reader in
    let j = c.loop-pieces.judge in
    let f2 = call.new.reader in
    let j2 = call.new.judge in
    let front = text_of c.loop-pieces.ahead.items in
    let rest = text_of c.loop-pieces.next.items in
    let pieces = text_of call.new.pieces.items in
    let now = g.R.Source.position c.loop-pieces.input in
    let later = g.R.Source.position call.new.input in
    let failed = g.R.Source.failed call.new.input in
    let read = subst (λ r. IfOk r (HasReadPieces now f later failed f2 call.new.pieces.items)) c.in_ok-ending.was call.ensures.read in
    let only = subst (λ r. OnOk r (OnlyJudges j j2 (length front))) c.in-Ok.is call.ensures.taken.only in
    record {
      countable = let most = countable_both now later failed f f2 j j2 front rest pieces c.in_ok-ending.ending so_far.can only read.reads in omega (arith, most, ap (λ t. length (t ++ pieces)) call.ensures.cut.same);
      short = read.short;
      right = subst (λ r. OnOk r (AreRight j2.judge.names call.new.pieces.items)) c.in_ok-ending.was (subst (λ r. OnOk r (OnOk call.result.1 (AreRight j2.judge.names call.new.pieces.items))) c.in-Ok.is call.ensures.right);
    }

pub leave_both-requires-clause-room : goal.leave_both-requires-clause-room
leave_both-requires-clause-room g c κs within =
    let so_far = c.loop-pieces.invariant in
    let call = c.judge_beside_list-taken in
    let f = c.loop-pieces.reader in
    let j = c.loop-pieces.judge in
    let f2 = call.new.reader in
    let j2 = call.new.judge in
    let front = text_of c.loop-pieces.ahead.items in
    let rest = text_of c.loop-pieces.next.items in
    let pieces = text_of call.new.pieces.items in
    let now = g.R.Source.position c.loop-pieces.input in
    let later = g.R.Source.position call.new.input in
    let failed = g.R.Source.failed call.new.input in
    let read = subst (λ r. IfOk r (HasReadPieces now f later failed f2 call.new.pieces.items)) c.in_ok-ending.was call.ensures.read in
    let size = read.same_size in
    let room = so_far.can.room in
    omega (arith, size, room)

pub leave_both-requires-clause-on : goal.leave_both-requires-clause-on
leave_both-requires-clause-on g c κs within =
    let so_far = c.loop-pieces.invariant in
    let call = c.judge_beside_list-taken in
    let f = c.loop-pieces.reader in
    let j = c.loop-pieces.judge in
    let f2 = call.new.reader in
    let j2 = call.new.judge in
    let front = text_of c.loop-pieces.ahead.items in
    let rest = text_of c.loop-pieces.next.items in
    let pieces = text_of call.new.pieces.items in
    let now = g.R.Source.position c.loop-pieces.input in
    let later = g.R.Source.position call.new.input in
    let failed = g.R.Source.failed call.new.input in
    let read = subst (λ r. IfOk r (HasReadPieces now f later failed f2 call.new.pieces.items)) c.in_ok-ending.was call.ensures.read in
    let only = subst (λ r. OnOk r (OnlyJudges j j2 (length front))) c.in-Ok.is call.ensures.taken.only in
    λ is. subst (λ t. CanReadAhead f2 j2 (t ++ pieces)) (sym call.ensures.cut.same) (can_more now later failed f f2 j j2 front rest pieces so_far.can only read.same_size (subst (HasReadOn now f [] later failed f2 pieces) is read.reads))

pub leave_both-requires-clause-not_failed : goal.leave_both-requires-clause-not_failed
leave_both-requires-clause-not_failed g c κs within =
    let so_far = c.loop-pieces.invariant in
    let call = c.judge_beside_list-taken in
    let f = c.loop-pieces.reader in
    let j = c.loop-pieces.judge in
    let f2 = call.new.reader in
    let j2 = call.new.judge in
    let front = text_of c.loop-pieces.ahead.items in
    let rest = text_of c.loop-pieces.next.items in
    let pieces = text_of call.new.pieces.items in
    let now = g.R.Source.position c.loop-pieces.input in
    let later = g.R.Source.position call.new.input in
    let failed = g.R.Source.failed call.new.input in
    let read = subst (λ r. IfOk r (HasReadPieces now f later failed f2 call.new.pieces.items)) c.in_ok-ending.was call.ensures.read in
    λ is. let on = subst (HasReadOn now f [] later failed f2 pieces) is read.reads in on.gives.0

pub returns-then-not-goes_on : goal.returns-then-not-goes_on
returns-then-not-goes_on g c =
    let so_far = c.loop-pieces.invariant in
    let call = c.judge_beside_list-taken in
    let f = c.loop-pieces.reader in
    let j = c.loop-pieces.judge in
    let f2 = call.new.reader in
    let j2 = call.new.judge in
    let front = text_of c.loop-pieces.ahead.items in
    let rest = text_of c.loop-pieces.next.items in
    let now = g.R.Source.position c.loop-pieces.input in
    let later = g.R.Source.position call.new.input in
    let failed = g.R.Source.failed call.new.input in
    let read = subst (λ r. IfOk r (HasReadPieces now f later failed f2 call.new.pieces.items)) c.in_ok-ending.was call.ensures.read in
    let tells = subst (λ r. OnOk r (TakesPiece j c.loop-pieces.lists front j2 call.new.lists)) c.in-Ok.is call.ensures.taken.tells in
    let only = subst (λ r. OnOk r (OnlyJudges j j2 (length front))) c.in-Ok.is call.ensures.taken.only in
    let still = so_far.still in
    let pieces = text_of call.new.pieces.items in
    let last = g.R.Source.position c.leave_both.new.input in
    let ended = g.R.Source.failed c.leave_both.new.input in
    rest_last (g.R.Source.position c.args.input.now) now later last failed ended c.args.reader c.args.judge c.args.lists (text_of c.args.next.items) f f2 j j2 c.loop-pieces.lists call.new.lists front rest pieces c.in_ok-ending.ending c.leave_both.result
    still read.reads tells only.same_limits
    (subst (λ t. IfOk c.leave_both.result (HearsEnding c.in_ok-ending.ending later failed f2 j2 call.new.lists (t ++ pieces) last ended)) call.ensures.cut.same c.leave_both.ensures)

-- memory was refused
pub returns-in_err-ending : goal.returns-in_err-ending
returns-in_err-ending g c =
    let p = err_from_is_err_and c.from_residual.result c.from_residual.ensures.1 in
    rw p.1 tt
