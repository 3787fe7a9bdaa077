use Rattle.std.proofs.Common.{◌≡◌, List}
use Rattle.std.specs.List.{All}
use Rattle.std.specs.Vec.Iter.{into_iter_items}
use Rattle.gl_event.specs.declared.events.Event.{Event}
use Rattle.gl_event.specs.Lawful.{lists_of}
use Rattle.gl_engine.specs.Collecting.{Collecting}
use Rattle.gl_live.specs.bodies.Rosters.{roster_of, IsReceiptOf}
use Rattle.gl_live.proofs.recording.join_recorders.Given as goal

-- the receipts so far are of the session, and so is what the threads that are left promise
abbrev pub invariant-loop-recorder : goal.invariant-loop-recorder
invariant-loop-recorder g l = record {
  next : (goal.iterator-loop-recorder g).can_next l.recorder-iterator;
  finite : (goal.iterator-loop-recorder g).is_finite l.recorder-iterator;
  left : (c : Collecting) (lists : List (List Event)) → All (λ h. (h.promise.collector.value ≡ c) × (lists_of h.promise.lists.now ≡ lists)) l.fn.recorders.items → All (λ h. (h.promise.collector.value ≡ c) × (lists_of h.promise.lists.now ≡ lists)) (into_iter_items l.recorder-iterator);
  kept : (c : Collecting) (lists : List (List Event)) → All (λ h. (h.promise.collector.value ≡ c) × (lists_of h.promise.lists.now ≡ lists)) l.fn.recorders.items → All (IsReceiptOf (roster_of c) lists) l.fn.receipts.items → All (IsReceiptOf (roster_of c) lists) l.receipts.items;
}
