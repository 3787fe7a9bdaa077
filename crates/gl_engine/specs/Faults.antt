-- What a recorder answers to an event, and where it gives no receipt.
use Rattle.std.specs.Prelude.{◌≡◌, ℕ, ◌<◌, None, Some, Result, length, IfErr, IfOk, IsOk}
use Rattle.gl_event.specs.declared.events.Event.{Event}
use Rattle.gl_engine.specs.Recording.{Recording, recorded, refusal_of, seen_full, HasTaken}
use Rattle.gl_engine.specs.declared.recorder.RecordFault.{RecordFault}
use Rattle.gl_engine.specs.declared.recorder.RecordFault.TheVariants as record_fault
use Rattle.gl_engine.specs.declared.recorder.CloseFault.{CloseFault}
use Rattle.gl_engine.specs.declared.recorder.CloseFault.TheVariants as close_fault

-- why an event wasn't recorded: it may not come next, and nothing changed; or it may, and the lane is full
abbrev pub IsNotRecorded : Recording → Event → RecordFault → Recording → Type 0
IsNotRecorded old event (record_fault.Refused why) new =
    (refusal_of old event ≡ Some why) × (new ≡ old)
IsNotRecorded old event (record_fault.Full back) new =
    (refusal_of old event ≡ None) × (back ≡ event) × (new ≡ seen_full old)

-- the recorder was asked to take this event, and this is its answer: the event's place, or why it wasn't taken; and it was, where it may come
-- next and there is certainly room for it
pub record HasTried (old : Recording) (event : Event) (tried : Result ℕ RecordFault)
    (new : Recording) : Type 0 where
  pub taken : IfOk tried (λ place. HasTaken old event place new)
  pub refused : IfErr tried (λ fault. IsNotRecorded old event fault new)
  pub succeeds : 0 < old.room → refusal_of old event ≡ None → IsOk tried

-- why a recorder gave no receipt: its lane is full, and it is handed back; or nobody is left to collect
abbrev pub IsNotClosed : Recording → CloseFault → Type 0
IsNotClosed old (close_fault.Full back) = back ≡ seen_full old
IsNotClosed old (close_fault.Unconfirmed thread taken) =
    (thread ≡ old.thread) × (taken ≡ length (recorded old))

-- the recorder's end mark was pushed, and nobody is left to collect
abbrev pub IsUnconfirmed : CloseFault → Type 0
IsUnconfirmed (close_fault.Full back) = ⊥
IsUnconfirmed (close_fault.Unconfirmed thread taken) = Unit {0}
