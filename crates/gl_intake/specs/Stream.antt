-- The stream of notes that a collector accepted, and which note may come next in it.
use Rattle.std.specs.Prelude.{◌≡◌, ◌≢◌, ◌⊎◌, ◌==◌, ◌&&◌, ℕ, ◌<◌, Bool, true, false, List, [], ◌∷◌, ◌++◌, length, map, Option, Some, None, Result, take, slice_get, slice_index_or, nat_le, ◌↔◌, if◌then◌else◌, IfErr, IfOk, OnErr, OnOk}
use Rattle.std.specs.List.{filter_map, list_any, range_with_len}
use Rattle.std.specs.Option.{option_map}
use Rattle.gl_event.specs.Bounds.{Bounds}
use Rattle.gl_event.specs.Lawful.{refusal}
use Rattle.gl_event.specs.declared.events.Event.{Event}
use Rattle.gl_event.specs.declared.notes.Note.{Note}
use Rattle.gl_event.specs.declared.notes.Body.{Body}
use Rattle.gl_event.specs.declared.notes.Body.TheVariants.{Happened, Ended}
use Rattle.gl_intake.specs.declared.notes.Refused.{Refused}
use Rattle.gl_intake.specs.declared.notes.Refused.TheVariants.{Stranger, Late, Misplaced, WrongCount, Unlawful, Memory}
use Rattle.gl_intake.specs.declared.notes.Accepted.{Accepted}
use Rattle.gl_intake.specs.declared.notes.Accepted.TheVariants as accepted

-- the event that the body tells
abbrev pub event_of : Body → Option Event
event_of (Happened e) = Some e
event_of (Ended count) = None

-- the body is an end mark
abbrev pub is_end : Body → Bool
is_end (Happened e) = false
is_end (Ended count) = true

-- the event that the note tells of this thread
abbrev pub event_in : ℕ → Note → Option Event
event_in thread note = if note.thread == thread then event_of note.body else None

-- the events of this thread's notes, in order
unfoldable pub events_of : ℕ → List Note → List Event
events_of thread stream = filter_map (event_in thread) stream

-- the stream has this thread's end mark
unfoldable pub has_ended : ℕ → List Note → Bool
has_ended thread stream = list_any (λ note. (note.thread == thread) && is_end note.body) stream

-- the lists of all threads' events, in the order of their numbers
abbrev pub logs_of : ℕ → List Note → List (List Event)
logs_of threads stream = map (λ thread. events_of thread stream) (range_with_len 0 threads)

-- what a body must be after these events of its thread: an end mark counts them, and an event is lawful next
abbrev pub FitsAfter : Bounds → ℕ → List Event → Body → Type 0
FitsAfter limits thread es (Happened e) = refusal limits thread es e ≡ None
FitsAfter limits thread es (Ended count) = count ≡ length es

-- the note is its thread's next one
pub record IsNext (limits : Bounds) (stream : List Note) (note : Note) : Type 0 where
  pub known : note.thread < limits.threads
  pub running : has_ended note.thread stream ≡ false
  pub in_place : note.place ≡ length (events_of note.thread stream)
  pub fits : FitsAfter limits note.thread (events_of note.thread stream) note.body

-- each note of the stream is its thread's next one after the notes before it
pub record AreInOrder (limits : Bounds) (stream : List Note) : Type 0 where
  pub each : (place : ℕ) (note : Note) → slice_get stream place ≡ Some note
      → IsNext limits (take place stream) note

-- why a body may not come after these events of its thread
abbrev pub body_refusal : Bounds → ℕ → List Event → Body → Option Refused
body_refusal limits thread es (Happened e) = option_map Unlawful (refusal limits thread es e)
body_refusal limits thread es (Ended count) =
    if count == length es then None else Some (WrongCount (length es) count)

-- why a known thread's note may not come after these events of it, where `late` tells whether the thread has ended
abbrev pub refusal_after : Bounds → List Event → Bool → Note → Option Refused
refusal_after limits es late note =
    if late then Some Late
    else (if note.place == length es then body_refusal limits note.thread es note.body
    else Some (Misplaced (length es) note.place))

-- why the note may not come next: the first reason that fits
unfoldable pub note_refusal : Bounds → List Note → Note → Option Refused
note_refusal limits stream note =
    if nat_le limits.threads note.thread then Some Stranger
    else refusal_after limits (events_of note.thread stream) (has_ended note.thread stream) note

-- the note may not come next, for this reason, and not for want of memory
abbrev pub IsRefusal : Bounds → List Note → Note → Refused → Type 0
IsRefusal limits stream note why = note_refusal limits stream note ≡ Some why

-- what a note that isn't accepted is answered: why it may not come next, or that there is no memory for one that may
abbrev pub IsRefusedFor : Bounds → List Note → Note → Refused → Type 0
IsRefusedFor limits stream note why =
    IsRefusal limits stream note why ⊎ ((note_refusal limits stream note ≡ None) × (why ≡ Memory))

-- what an accepted note of this place and body is answered
abbrev pub accepted_as : ℕ → Body → Accepted
accepted_as place (Happened e) = accepted.Event place
accepted_as place (Ended count) = accepted.Ended count

-- the note was offered where the stream was the one before, and is the one after: it was accepted as
-- the next one, or refused and the stream left as it was
pub record HasOffered (limits : Bounds) (before after : List Note) (note : Note)
    (offered : Result Accepted Refused) : Type 0 where
  pub next : OnOk offered (note_refusal limits before note ≡ None)
  pub answer : IfOk offered (λ accepted. accepted ≡ accepted_as note.place note.body)
  pub grown : OnOk offered (after ≡ before ++ note ∷ [])
  pub refused : IfErr offered (λ why. IsRefusedFor limits before note why)
  pub unchanged : OnErr offered (after ≡ before)

-- the limits, the notes accepted so far in the order of acceptance, and for each thread how many of its notes there is memory for
pub record Collected : Type 0 where
  pub limits : Bounds
  pub stream : List Note
  pub spare : List ℕ

-- how many notes of this thread there is memory for
abbrev pub spare_of : Collected → ℕ → ℕ
spare_of collected thread = slice_index_or collected.spare thread 0

-- a note has no refusal exactly where it is its thread's next one
abbrev pub IsRefusedUnlessNext : Type 0
IsRefusedUnlessNext =
    (limits : Bounds) (stream : List Note) (note : Note)
    → (note_refusal limits stream note ≡ None) ↔ IsNext limits stream note

-- no note is refused for want of memory where it may not come next
abbrev pub IsNeverForMemory : Type 0
IsNeverForMemory =
    (limits : Bounds) (stream : List Note) (note : Note) (why : Refused)
    → IsRefusal limits stream note why → why ≢ Memory
