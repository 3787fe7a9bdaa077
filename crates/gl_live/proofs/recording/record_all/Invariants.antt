use Rattle.std.proofs.Common.{◌≡◌, ◌+◌, ◌≤◌, length}
use Rattle.std.specs.List.{All}
use Rattle.std.specs.Vec.{vec_len, vec_capacity}
use Rattle.std.specs.Vec.Iter.{into_iter_items, into_iter_len}
use Rattle.gl_event.specs.Lawful.{lists_of}
use Rattle.gl_live.specs.bodies.Rosters.{Roster, IsRecorderOf, IsReceiptOf}
use Rattle.gl_live.proofs.recording.record_all.Given as goal

-- the receipts so far are of the session, and so are the recorders that are left
abbrev pub invariant-loop-recorder : goal.invariant-loop-recorder
invariant-loop-recorder g l = record {
  next : (goal.iterator-loop-recorder g).can_next l.recorder-iterator;
  finite : (goal.iterator-loop-recorder g).is_finite l.recorder-iterator;
  counted : into_iter_len l.recorder-iterator ≡ length (into_iter_items l.recorder-iterator);
  room : vec_len l.receipts + length (into_iter_items l.recorder-iterator) ≤ vec_capacity l.receipts;
  left : (s : Roster) → All (IsRecorderOf s) l.fn.workload.recorders.items → All (IsRecorderOf s) (into_iter_items l.recorder-iterator);
  kept : (s : Roster) → All (IsRecorderOf s) l.fn.workload.recorders.items → All (IsReceiptOf s (lists_of l.lists)) l.fn.workload.receipts.items → All (IsReceiptOf s (lists_of l.lists)) l.receipts.items;
}
