-- What an intake keeps of each thread beside the stream.
use Rattle.std.specs.Prelude.{◌≡◌, ℕ, ◌<◌, ◌≤◌, ◌-◌, min, false, List, length, map, Vec, slice_index_or}
use Rattle.std.specs.Vec.{vec_len, vec_capacity}
use Rattle.std.specs.declared.alloc.Global.{Global}
use Rattle.gl_event.specs.Bounds.{Bounds, AreWithinRange}
use Rattle.gl_event.specs.declared.events.Event.{Event}
use Rattle.gl_event.specs.declared.notes.Note.{Note}
use Rattle.gl_recorder.specs.Taking.{Tracks}
use Rattle.gl_intake.specs.Stream.{events_of, has_ended, AreInOrder}
use Rattle.gl_intake.specs.declared.intake.ThreadCursor.{ThreadCursor}

-- there is one log for each thread, with the events of its notes
pub record AreLogs (threads : ℕ) (stream : List Note)
    (logs : List (Vec Event Global)) : Type 0 where
  pub count : length logs ≡ threads
  pub each : (thread : ℕ) (d : Vec Event Global) → thread < threads
      → (slice_index_or logs thread d).items ≡ events_of thread stream

-- there is one cursor for each thread, which tracks the events of its notes and knows whether it has ended
pub record AreCursors (limits : Bounds) (stream : List Note)
    (cursors : List ThreadCursor) : Type 0 where
  pub count : length cursors ≡ limits.threads
  pub tracks : (thread : ℕ) (d : ThreadCursor) → thread < limits.threads
      → Tracks limits thread (events_of thread stream) (slice_index_or cursors thread d).taker
  pub ended : (thread : ℕ) (d : ThreadCursor) → thread < limits.threads
      → (slice_index_or cursors thread d).has_ended ≡ has_ended thread stream

-- an intake's logs and cursors are those of its stream, which has each note in its order and no end mark of an unknown thread
pub record IsKept (limits : Bounds) (stream : List Note) (logs : List (Vec Event Global))
    (cursors : List ThreadCursor) : Type 0 where
  pub logs_are : AreLogs limits.threads stream logs
  pub cursors_are : AreCursors limits stream cursors
  pub no_stranger : (thread : ℕ) → limits.threads ≤ thread → has_ended thread stream ≡ false
  pub in_order : AreInOrder limits stream
  pub range : AreWithinRange limits

-- how many elements more the list has memory for
abbrev pub unused : {X : Type 0} → Vec X Global → ℕ
unused v = vec_capacity v - vec_len v

-- for each thread, how many of its notes there is memory for: in the stream, and in the thread's log
abbrev pub spares : Vec Note Global → List (Vec Event Global) → List ℕ
spares stream logs = map (λ log. min (unused stream) (unused log)) logs
