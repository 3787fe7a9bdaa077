-- Why a run stops: what was sent until then, and that whatever comes off a broken lane later changes nothing of its fault.
use Rattle.std.specs.Prelude.{◌≡◌, ℕ, Bool, true, false, List, [], ◌∷◌, ◌++◌, length, map, Option, Some, Result, Ok, Err, slice_get}
use Rattle.std.specs.Option.{option_map}
use mathlib.Core.List.{IsPrefix}
use Rattle.gl_event.specs.Bounds.{Bounds}
use Rattle.gl_event.specs.declared.notes.Note.{Note}
use Rattle.gl_edges.specs.declared.edge.Edge.{Edge}
use Rattle.gl_edges.specs.declared.edge.Sample.{Sample}
use Rattle.gl_intake.specs.Stream.{note_refusal}
use Rattle.gl_intake.specs.declared.notes.Refused.{Refused}
use Rattle.gl_lane.specs.OwnLanes.{OwnPopping}
use Rattle.gl_world.specs.Keeping.{notes_of}
use Rattle.gl_engine.specs.Collecting.{as_of, IsTurn}
use Rattle.gl_engine.specs.Dealing.{dealt, made_by, AreDue}
use Rattle.gl_engine.specs.Gathering.{IsStoppedAt}
use Rattle.gl_engine.specs.declared.gathered.RunFault.{RunFault}
use Rattle.gl_engine.specs.declared.gathered.RunFault.TheVariants as kept
use Rattle.gl_engine.specs.declared.pulled.Pulled.{Pulled}
use Rattle.gl_engine.specs.declared.pulled.Pulled.TheVariants.{Empty, Event, Ended}
use Rattle.gl_engine.specs.declared.pulled.PullFault.{PullFault}
use Rattle.gl_engine.specs.declared.pulled.PullFault.TheVariants.{Broken, Memory}
use Rattle.gl_engine.specs.declared.lane_input.LaneInput.{LaneInput}

-- the notes that a lane has handed over so far, oldest first: those popped, and those seen in it
abbrev pub handed : OwnPopping → List Note
handed lane = lane.popped ++ lane.left

-- the thread's lane has handed over these notes first
pub record HasHanded (inputs : List LaneInput) (thread : ℕ) (notes : List Note) : Type 0 where
  pub input : LaneInput
  pub here : slice_get inputs thread ≡ Some input
  pub first : IsPrefix notes (handed input.lane)

-- the lanes stay where they are and hand over more, at most
abbrev pub HandOver : List LaneInput → List LaneInput → Type 0
HandOver before after =
    (thread : ℕ) (input : LaneInput) → slice_get before thread ≡ Some input
    → HasHanded after thread (handed input.lane)

-- after the notes that were collected of the thread, its lane handed over one that may not come next, for this reason
pub record IsBroken (limits : Bounds) (inputs : List LaneInput) (stream : List Note) (thread : ℕ)
    (why : Refused) : Type 0 where
  pub taken : List Note
  pub note : Note
  pub told : notes_of thread stream ≡ map (as_of thread) taken
  pub came : HasHanded inputs thread (taken ++ note ∷ [])
  pub refused : note_refusal limits stream (as_of thread note) ≡ Some why

-- where a lane is broken, there is a note to blame
abbrev pub IsBlamed : Bounds → List LaneInput → List Note → RunFault → Type 0
IsBlamed limits inputs stream kept.Memory = Unit {0}
IsBlamed limits inputs stream (kept.Gone shard) = Unit {0}
IsBlamed limits inputs stream (kept.Broken thread why) = IsBroken limits inputs stream thread why

-- what goes wrong in pulls off the thread's lane: it is broken, and there is a note to blame, or there is no memory
abbrev pub IsPullFault : ℕ → Bounds → List LaneInput → List Note → RunFault → Type 0
IsPullFault thread limits inputs stream kept.Memory = Unit {0}
IsPullFault thread limits inputs stream (kept.Gone shard) = ⊥
IsPullFault thread limits inputs stream (kept.Broken number why) =
    (number ≡ thread) × IsBroken limits inputs stream number why

-- the edges due were shipped up to one whose shard this is, and through each outlet this was sent
pub record HasStopped (due : List (Edge × Sample)) (sent : List (List (Edge × Sample)))
    (shard : ℕ) : Type 0 where
  pub shipped : List (Edge × Sample)
  pub stopped : IsStoppedAt (length sent) due shipped shard
  pub dealt_are : sent ≡ dealt (length sent) shipped

-- a worker is gone, and shipping stopped at its shard
abbrev pub IsGoneAt : List (Edge × Sample) → List (List (Edge × Sample)) → RunFault → Type 0
IsGoneAt due sent kept.Memory = ⊥
IsGoneAt due sent (kept.Gone shard) = HasStopped due sent shard
IsGoneAt due sent (kept.Broken thread why) = ⊥

-- through each outlet this was sent: the edges due of all notes but of those that a turn of the thread had pulled last, after these first notes
pub record HasLagged (spares : Bool) (first stream : List Note)
    (sent : List (List (Edge × Sample))) (thread : ℕ) : Type 0 where
  pub before : List Note
  pub later : IsPrefix first before
  pub turn : IsTurn 64 thread before stream
  pub due : List (Edge × Sample)
  pub are_due : AreDue spares (made_by before) due
  pub dealt_are : sent ≡ dealt (length sent) due

-- the edges of the stream that are due were shipped up to one whose shard this is, and through each outlet this was sent
pub record HasStoppedIn (spares : Bool) (stream : List Note) (sent : List (List (Edge × Sample)))
    (shard : ℕ) : Type 0 where
  pub due : List (Edge × Sample)
  pub are_due : AreDue spares (made_by stream) due
  pub stopped : HasStopped due sent shard

-- through each outlet this was sent where the run stopped with this fault, which began with these first notes
abbrev pub StopsWith : Bool → List Note → List Note → List (List (Edge × Sample)) → RunFault
    → Type 0
StopsWith spares first stream sent kept.Memory =
    (thread : ℕ) × HasLagged spares first stream sent thread
StopsWith spares first stream sent (kept.Gone shard) = HasStoppedIn spares stream sent shard
StopsWith spares first stream sent (kept.Broken thread why) =
    HasLagged spares first stream sent thread

-- what went wrong first: what did as all was gathered, or else the first worker that was gone as the feeds were ended
abbrev pub first_of : Result (Unit {0}) RunFault → Option ℕ → Option RunFault
first_of (Err fault) at_end = Some fault
first_of (Ok done) at_end = option_map kept.Gone at_end

-- a pull went well, and this is whether it took a note
abbrev pub TellsTaken : Result Pulled PullFault → Bool → Type 0
TellsTaken (Ok Empty) taken = taken ≡ false
TellsTaken (Ok (Event place)) taken = taken ≡ true
TellsTaken (Ok (Ended count)) taken = taken ≡ true
TellsTaken (Err fault) taken = ⊥

-- what a run keeps of a pull from the thread's lane that took no note
abbrev pub IsKeptFor : ℕ → Result Pulled PullFault → RunFault → Type 0
IsKeptFor thread pulled kept.Memory = pulled ≡ Err Memory
IsKeptFor thread pulled (kept.Gone shard) = ⊥
IsKeptFor thread pulled (kept.Broken number why) = (number ≡ thread) × (pulled ≡ Err (Broken why))
