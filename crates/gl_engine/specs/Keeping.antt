-- What holds of recorders, receipts and collectors between calls.
use Rattle.std.specs.Prelude.{◌≡◌, ℕ, ◌<◌, true, false, List, [], ◌∷◌, length, map, Some, slice_get}
use mathlib.Core.List.{IsPrefix}
use Rattle.gl_event.specs.Bounds.{Bounds, AreWithinRange}
use Rattle.gl_event.specs.declared.notes.Note.{Note}
use Rattle.gl_edges.specs.declared.edge.Edge.{Edge}
use Rattle.gl_edges.specs.declared.edge.Sample.{Sample}
use Rattle.gl_intake.specs.Stream.{events_of, has_ended, note_refusal, AreInOrder}
use Rattle.gl_intake.specs.declared.notes.Refused.{Refused}
use Rattle.gl_lane.specs.OwnLanes.{OwnLaneId, OwnPopping}
use Rattle.gl_recorder.specs.Taking.{Taking, Tracks}
use Rattle.gl_world.specs.Keeping.{notes_of, AreMade}
use Rattle.gl_engine.specs.Collecting.{Pulling, Side, as_of}
use Rattle.gl_engine.specs.Dealing.{made_by}
use Rattle.gl_engine.specs.declared.lane_input.LaneInput.{LaneInput}

-- these notes are of the thread alone, and each is its next one after those before it
pub record AreNotesOf (limits : Bounds) (thread : ℕ) (notes : List Note) : Type 0 where
  pub own : (place : ℕ) (note : Note) → slice_get notes place ≡ Some note → note.thread ≡ thread
  pub in_order : AreInOrder limits notes

-- a recorder pushed its thread's notes into its thread's lane, in order and no end mark, and tracks the events that they tell
pub record IsRecorder (limits : Bounds) (thread : ℕ) (lane : OwnLaneId) (pushed : List Note)
    (taker : Taking) : Type 0 where
  pub known : thread < limits.threads
  pub whose : lane.thread ≡ thread
  pub tracks : Tracks limits thread (events_of thread pushed) taker
  pub notes : AreNotesOf limits thread pushed
  pub running : has_ended thread pushed ≡ false

-- a recorder that has closed pushed its thread's notes, in order up to the end mark, which counts them
pub record IsReceipt (limits : Bounds) (thread : ℕ) (pushed : List Note) (taken : ℕ) : Type 0 where
  pub notes : AreNotesOf limits thread pushed
  pub ended : has_ended thread pushed ≡ true
  pub counted : taken ≡ length (events_of thread pushed)

-- what contracts see of an input
abbrev pub pulling_of : LaneInput → Pulling
pulling_of input =
    record { lane = input.lane.lane; popped = input.lane.popped; broken = input.broken }

-- the side of a thread with this input, beside these notes collected and edges made
abbrev pub side_at : LaneInput → List Note → List (Edge × Sample) → Side
side_at input stream made = record { input = pulling_of input; stream = stream; made = made }

-- the lane's front note, read as one of the thread, may not come next, for this reason
pub record IsStuck (limits : Bounds) (thread : ℕ) (stream : List Note) (lane : OwnPopping)
    (why : Refused) : Type 0 where
  pub note : Note
  pub front : IsPrefix (note ∷ []) lane.left
  pub refused : note_refusal limits stream (as_of thread note) ≡ Some why

-- where the input has its lane broken, the front note is the cause
abbrev pub BreaksForCause : Bounds → ℕ → List Note → LaneInput → Type 0
BreaksForCause limits thread stream input =
    (why : Refused) → input.broken ≡ Some why → IsStuck limits thread stream input.lane why

-- the inputs are the threads': the stream has of each thread what was popped off its lane, and a lane breaks for cause
pub record AreInputs (limits : Bounds) (inputs : List LaneInput) (stream : List Note) : Type 0 where
  pub count : length inputs ≡ limits.threads
  pub told : (thread : ℕ) (input : LaneInput) → slice_get inputs thread ≡ Some input
      → notes_of thread stream ≡ map (as_of thread) input.lane.popped
  pub cause : (thread : ℕ) (input : LaneInput) → slice_get inputs thread ≡ Some input
      → BreaksForCause limits thread stream input

-- a collector's inputs and edges made are those of its stream, which has each thread's notes in order
pub record IsCollector (limits : Bounds) (inputs : List LaneInput) (stream : List Note)
    (made : List (Edge × Sample)) (collecting : Bounds) : Type 0 where
  pub inputs_are : AreInputs limits inputs stream
  pub in_order : AreInOrder limits stream
  pub made_are : AreMade limits.threads stream made
  pub made_is : made ≡ made_by stream
  pub same_limits : collecting ≡ limits
  pub range : AreWithinRange limits
