-- What a recorder of one thread knows of the events that it took, and what it answers the next.
use Rattle.std.specs.Prelude.{◌≡◌, ◌==◌, ℕ, List, length, Option, Some, None, Result, Ok, Err, nat_le, if◌then◌else◌}
use Rattle.std.specs.Option.{option_map_or}
use Rattle.gl_event.specs.Bounds.{Bounds}
use Rattle.gl_event.specs.Lawful.{refusal, IsLawful}
use Rattle.gl_event.specs.States.{State, StandsAfter}
use Rattle.gl_event.specs.declared.events.Event.{Event}
use Rattle.gl_event.specs.declared.events.Refusal.{Refusal}
use Rattle.gl_event.specs.declared.events.Refusal.TheVariants.{NoSuchThread, OnItself}
use Rattle.gl_event.specs.declared.notes.Note.{Note}
use Rattle.gl_event.specs.declared.notes.Body.TheVariants.{Happened, Ended}

-- a recorder's thread and limits, and what is known of the thread after the events that it took
pub record Taking : Type 0 where
  pub thread : ℕ
  pub limits : Bounds
  pub state : State

-- a recorder of this thread, under these limits, took exactly these events
pub record Tracks (limits : Bounds) (thread : ℕ) (es : List Event) (t : Taking) : Type 0 where
  pub its_thread : t.thread ≡ thread
  pub its_limits : t.limits ≡ limits
  pub lawful : IsLawful limits thread es
  pub stands : StandsAfter es t.state

-- this holds of each list of events that the recorder may have taken, with its thread and limits
abbrev pub ForEachTracked : Taking → (Bounds → ℕ → List Event → Type 0) → Type 0
ForEachTracked t P =
    (limits : Bounds) (thread : ℕ) (es : List Event) → Tracks limits thread es t
    → P limits thread es

-- the note of an event that comes after these
abbrev pub event_note : ℕ → List Event → Event → Note
event_note thread es e = record { thread = thread; place = length es; body = Happened e }

-- the end mark of a thread that had so many events
abbrev pub end_note : ℕ → ℕ → Note
end_note thread count = record { thread = thread; place = count; body = Ended count }

-- what the thread's recorder answers an event after these: its note, or the first reason why it may not come next
abbrev pub answer_to : Bounds → ℕ → List Event → Event → Result Note Refusal
answer_to limits thread es e =
    option_map_or Err (refusal limits thread es e) (Ok (event_note thread es e))

-- why a thread can't fork or join the other one
abbrev pub partner_refusal : Bounds → ℕ → ℕ → Option Refusal
partner_refusal limits thread other =
    if nat_le limits.threads other then Some NoSuchThread
    else (if other == thread then Some OnItself else None)
