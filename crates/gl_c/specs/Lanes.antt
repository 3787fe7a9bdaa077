-- What the calls on a lane do.
use Rattle.std.specs.Prelude.{◌≡◌, ℕ, ◌+◌, ◌<◌, ◌≤◌, [], ◌∷◌, Option, Some, None, length}
use Rattle.gl_event.specs.Lawful.{refusal}
use Rattle.gl_event.specs.declared.events.Event.{Event}
use Rattle.gl_event.specs.declared.events.Refusal.{Refusal}
use Rattle.gl_engine.specs.Recording.{Recording, recorded, next_note, with_pushed, seen_full, closed_of}
use Rattle.gl_c.specs.Calls.{IsOneOf}
use Rattle.gl_c.specs.Numbered.{event_of_kind, refusal_code}
use Rattle.gl_c.specs.declared.codes.TheConstants.{OK, FULL, MISUSE, RANGE, UNCONFIRMED}
use Rattle.gl_c.specs.declared.lane_state.LaneState.{LaneState}
use Rattle.gl_c.specs.declared.lane_state.LaneState.TheVariants.{Recording as Runs, Closed as HasClosed, Lost}

-- what recording an event answers: it is recorded, which takes one of the certain room at most; or there is no room; or
-- it may not come next. In each case the place that it has in the thread's list, or would have had, is told
pub record IsRecordOn (old : Recording) (event : Event) (answer : ℕ) (told : ℕ)
    (new : Recording) : Type 0 where
  pub place : told ≡ length (recorded old)
  pub done : answer ≡ OK → (refusal old.limits old.thread (recorded old) event ≡ None)
      × (new ≡ with_pushed old (next_note old event) new.room)
      × (old.room ≤ new.room + 1)
  pub full : answer ≡ FULL → (refusal old.limits old.thread (recorded old) event ≡ None)
      × (new ≡ seen_full old)
  pub refused : (why : Refusal) → refusal old.limits old.thread (recorded old) event ≡ Some why
      → (answer ≡ refusal_code why) × (new ≡ old)
  pub else : refusal old.limits old.thread (recorded old) event ≡ None
      → IsOneOf answer (OK ∷ FULL ∷ [])
  pub sure : 0 < old.room → refusal old.limits old.thread (recorded old) event ≡ None → answer ≡ OK

-- the event is recorded, if there is a kind of event with this number; and else nothing is told
abbrev pub IsRecordOfKind : Recording → Option Event → ℕ → ℕ → ℕ → Recording → Type 0
IsRecordOfKind old None was answer told new = (answer ≡ RANGE) × (told ≡ was) × (new ≡ old)
IsRecordOfKind old (Some event) was answer told new = IsRecordOn old event answer told new

-- an event is recorded on a lane that is recorded on, and on no other
abbrev pub IsRecordOfState : LaneState → ℕ → ℕ → ℕ → ℕ → ℕ → ℕ → LaneState → Type 0
IsRecordOfState (Runs old) kind operand place was answer told (Runs new) =
    IsRecordOfKind old (event_of_kind kind operand place) was answer told new
IsRecordOfState (Runs old) kind operand place was answer told (HasClosed new) = ⊥
IsRecordOfState (Runs old) kind operand place was answer told Lost = ⊥
IsRecordOfState (HasClosed old) kind operand place was answer told new =
    (answer ≡ MISUSE) × (told ≡ was) × (new ≡ HasClosed old)
IsRecordOfState Lost kind operand place was answer told new =
    (answer ≡ MISUSE) × (told ≡ was) × (new ≡ Lost)

-- a lane that is recorded on ends; where there is certainly room it is closed, unless nobody is left to pull; and no other lane changes
abbrev pub IsClose : LaneState → ℕ → LaneState → Type 0
IsClose (Runs old) answer (HasClosed new) = (answer ≡ OK) × (new ≡ closed_of old)
IsClose (Runs old) answer (Runs new) = (answer ≡ FULL) × (new ≡ seen_full old) × (0 < old.room → ⊥)
IsClose (Runs old) answer Lost = answer ≡ UNCONFIRMED
IsClose (HasClosed old) answer new = (answer ≡ MISUSE) × (new ≡ HasClosed old)
IsClose Lost answer new = (answer ≡ MISUSE) × (new ≡ Lost)
