-- The collector of all threads' notes, and what a pull does.
use Rattle.std.specs.Prelude.{◌≡◌, ◌⊎◌, ℕ, ◌≤◌, List, [], ◌∷◌, ◌++◌, length, map, Option, Some, None, Result, Ok, Err, slice_get, slice_set}
use Rattle.gl_event.specs.Bounds.{Bounds}
use Rattle.gl_event.specs.declared.notes.Note.{Note}
use Rattle.gl_edges.specs.declared.edge.Edge.{Edge}
use Rattle.gl_edges.specs.declared.edge.Sample.{Sample}
use Rattle.gl_intake.specs.Stream.{note_refusal, accepted_as, IsNext}
use Rattle.gl_intake.specs.declared.notes.Accepted.{Accepted}
use Rattle.gl_intake.specs.declared.notes.Accepted.TheVariants as accepted
use Rattle.gl_intake.specs.declared.notes.Refused.{Refused}
use Rattle.gl_lane.specs.OwnLanes.{OwnLaneId}
use Rattle.gl_engine.specs.Dealing.{edges_of_next}
use Rattle.gl_engine.specs.Recording.{Recording, IsFresh}
use Rattle.gl_engine.specs.declared.pulled.Pulled.{Pulled}
use Rattle.gl_engine.specs.declared.pulled.Pulled.TheVariants.{Empty, Event, Ended}
use Rattle.gl_engine.specs.declared.pulled.PullFault.{PullFault}
use Rattle.gl_engine.specs.declared.pulled.PullFault.TheVariants.{Broken, Memory}

-- the collector's end of a thread's lane: the notes popped off it, oldest first, and why its front note was refused, if it was
pub record Pulling : Type 0 where
  pub lane : OwnLaneId
  pub popped : List Note
  pub broken : Option Refused

-- the session and the limits, each thread's lane in the order of thread numbers, the notes collected so far, and the edges that they made
pub record Collecting : Type 0 where
  pub session : ℕ
  pub limits : Bounds
  pub inputs : List Pulling
  pub stream : List Note
  pub made : List (Edge × Sample)

-- the threads' lanes, in the order of thread numbers
abbrev pub lanes_of : Collecting → List OwnLaneId
lanes_of c = map (λ input. input.lane) c.inputs

-- the collector's end of a new lane
abbrev pub fresh_input : OwnLaneId → Pulling
fresh_input lane = record { lane = lane; popped = []; broken = None }

-- the collector of a session whose recorders have these lanes, before the first pull
abbrev pub fresh_collecting : ℕ → Bounds → List OwnLaneId → Collecting
fresh_collecting session limits lanes =
    record {
      session = session;
      limits = limits;
      inputs = map fresh_input lanes;
      stream = [];
      made = [];
    }

-- a new session: a recorder for each thread, in order, and a collector that has the other ends of their lanes
pub record IsOpened (session : ℕ) (limits : Bounds) (recorders : List Recording)
    (collector : Collecting) : Type 0 where
  pub count : length recorders ≡ limits.threads
  pub fresh : (thread : ℕ) (r : Recording) → slice_get recorders thread ≡ Some r
      → IsFresh session limits thread r
  pub collects : collector ≡ fresh_collecting session limits (map (λ r. r.lane) recorders)

-- the note as one of this thread, whichever it names
abbrev pub as_of : ℕ → Note → Note
as_of thread note = record note { thread = thread }

-- a turn of the thread, with so many pulls at most: these notes were pulled off its lane, and joined those collected before
pub record IsTurn (most thread : ℕ) (before after : List Note) : Type 0 where
  pub notes : List Note
  pub few : length notes ≤ most
  pub joined : before ++ map (as_of thread) notes ≡ after

-- the input with one note more popped
abbrev pub with_popped : Pulling → Note → Pulling
with_popped input note = record input { popped = input.popped ++ note ∷ [] }

-- the input whose front note was refused
abbrev pub break_input : Pulling → Refused → Pulling
break_input input why = record input { broken = Some why }

-- what a pull from a thread's lane can change of a collector: the thread's input, the stream and the edges made
pub record Side : Type 0 where
  pub input : Pulling
  pub stream : List Note
  pub made : List (Edge × Sample)

-- the collector from the side of a thread with this input
abbrev pub side_of : Collecting → Pulling → Side
side_of c input = record { input = input; stream = c.stream; made = c.made }

-- the collector with this at the side of the thread, and all else as it was
abbrev pub with_side : Collecting → ℕ → Side → Collecting
with_side c thread side =
    record c {
      inputs = slice_set c.inputs thread side.input;
      stream = side.stream;
      made = side.made;
    }

-- this note is popped, joins the stream as one of the thread, and its edges join those made
abbrev pub with_pulled : ℕ → Side → Note → Side
with_pulled thread side note =
    let own = as_of thread note in
    record {
      input = with_popped side.input note;
      stream = side.stream ++ own ∷ [];
      made = side.made ++ edges_of_next side.stream own;
    }

-- the lane is broken
abbrev pub break_lane : Side → Refused → Side
break_lane side why = record side { input = break_input side.input why }

-- what the pull of an accepted note is answered
abbrev pub pulled_of : Accepted → Pulled
pulled_of (accepted.Event place) = Event place
pulled_of (accepted.Ended count) = Ended count

-- a note was pulled off the thread's lane: its thread's next one
pub record HasPulled (limits : Bounds) (thread : ℕ) (old : Side) (answer : Pulled)
    (new : Side) : Type 0 where
  pub running : old.input.broken ≡ None
  pub note : Note
  pub next : IsNext limits old.stream (as_of thread note)
  pub answer_is : answer ≡ pulled_of (accepted_as note.place note.body)
  pub moved : new ≡ with_pulled thread old note

-- the lane's front note was refused, and stays
pub record HasRefused (limits : Bounds) (thread : ℕ) (old : Side) (why : Refused)
    (new : Side) : Type 0 where
  pub running : old.input.broken ≡ None
  pub note : Note
  pub refused : note_refusal limits old.stream (as_of thread note) ≡ Some why
  pub moved : new ≡ break_lane old why

-- what the answer to a pull from the thread's lane tells
abbrev pub IsSidePull : Bounds → ℕ → Side → Result Pulled PullFault → Side → Type 0
IsSidePull limits thread old (Ok Empty) new = (old.input.broken ≡ None) × (new ≡ old)
IsSidePull limits thread old (Ok (Event place)) new = HasPulled limits thread old (Event place) new
IsSidePull limits thread old (Ok (Ended count)) new = HasPulled limits thread old (Ended count) new
IsSidePull limits thread old (Err (Broken why)) new =
    ((old.input.broken ≡ Some why) × (new ≡ old)) ⊎ HasRefused limits thread old why new
IsSidePull limits thread old (Err Memory) new = (old.input.broken ≡ None) × (new ≡ old)

-- a pull from the thread's lane, which has this input, changes its side of the collector alone, and that as the answer tells
pub record IsPull (old : Collecting) (thread : ℕ) (input : Pulling)
    (answer : Result Pulled PullFault) (new : Collecting) : Type 0 where
  pub side : Side
  pub tells : IsSidePull old.limits thread (side_of old input) answer side
  pub moved : new ≡ with_side old thread side

-- where a lane is broken, the answer is that it is; and where it is, or where a pull finds no note or no memory, nothing changes
pub record UnpulledIsUnchanged : Type 0 where
  pub broken : (old : Collecting) (thread : ℕ) (input : Pulling) (answer : Result Pulled PullFault)
      (new : Collecting) (why : Refused) → slice_get old.inputs thread ≡ Some input
      → input.broken ≡ Some why
      → IsPull old thread input answer new → (answer ≡ Err (Broken why)) × (new ≡ old)
  pub empty : (old : Collecting) (thread : ℕ) (input : Pulling) (new : Collecting)
      → slice_get old.inputs thread ≡ Some input → IsPull old thread input (Ok Empty) new
      → new ≡ old
  pub memory : (old : Collecting) (thread : ℕ) (input : Pulling) (new : Collecting)
      → slice_get old.inputs thread ≡ Some input → IsPull old thread input (Err Memory) new
      → new ≡ old
