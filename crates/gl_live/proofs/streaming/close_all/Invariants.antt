use Rattle.std.proofs.Common.{◌≡◌, ◌+◌, ◌≤◌, List, length}
use Rattle.std.specs.List.{All}
use Rattle.std.specs.Vec.{vec_len, vec_capacity}
use Rattle.std.specs.Vec.Iter.{into_iter_items, into_iter_len}
use Rattle.gl_event.specs.declared.events.Event.{Event}
use Rattle.gl_live.specs.bodies.Rosters.{Roster, IsReceiptOf}
use Rattle.gl_live.specs.bodies.Streams.{HasTaken}
use Rattle.gl_live.proofs.streaming.close_all.Given as goal

-- the receipts so far are of the session, and so are the recorders that are left
abbrev pub invariant-loop-recorder : goal.invariant-loop-recorder
invariant-loop-recorder g l = record {
  next : (goal.iterator-loop-recorder g).can_next l.recorder-iterator;
  finite : (goal.iterator-loop-recorder g).is_finite l.recorder-iterator;
  counted : into_iter_len l.recorder-iterator ≡ length (into_iter_items l.recorder-iterator);
  room : vec_len l.receipts + length (into_iter_items l.recorder-iterator) ≤ vec_capacity l.receipts;
  left : (s : Roster) (lists : List (List Event)) → All (HasTaken s lists) l.fn.recorders.items → All (HasTaken s lists) (into_iter_items l.recorder-iterator);
  kept : (s : Roster) (lists : List (List Event)) → All (HasTaken s lists) l.fn.recorders.items → All (IsReceiptOf s lists) l.fn.receipts.items → All (IsReceiptOf s lists) l.receipts.items;
}
