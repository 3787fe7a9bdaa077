-- What holds of what was gathered.
use Rattle.std.specs.Prelude.{◌≡◌, ℕ, ◌<◌, Bool, true, false, List, [], length, map, Option, Some, None, Result, slice_get, IfSome, IfOk, IfErr, OnOk}
use mathlib.Core.List.{IsPrefix}
use Rattle.gl_event.specs.Bounds.{Bounds}
use Rattle.gl_event.specs.declared.notes.Note.{Note}
use Rattle.gl_edges.specs.Edges.{once}
use Rattle.gl_edges.specs.declared.edge.Edge.{Edge}
use Rattle.gl_edges.specs.declared.edge.Sample.{Sample}
use Rattle.gl_intake.specs.Stream.{has_ended, AreInOrder, Collected}
use Rattle.gl_lane.specs.OwnLanes.{OwnLaneId}
use Rattle.gl_shards.specs.Feeds.{AllSent, Sending}
use Rattle.gl_world.specs.Keeping.{notes_of, AreMade}
use Rattle.gl_engine.specs.bodies.Breaking.{IsBlamed, IsPullFault, StopsWith}
use Rattle.gl_engine.specs.Gathering.{ReachShards}
use Rattle.gl_engine.specs.bodies.Shipping.{HaveShipped}
use Rattle.gl_engine.specs.bodies.Sparing.{AddsEdges, NotesMade}
use Rattle.gl_engine.specs.Collecting.{as_of, IsTurn}
use Rattle.gl_engine.specs.Keeping.{AreNotesOf, IsCollector}
use Rattle.gl_engine.specs.Recording.{Closed}
use Rattle.gl_engine.specs.Dealing.{dealt, made_by, AreDue}
use Rattle.gl_engine.specs.declared.gathered.RunFault.{RunFault}
use Rattle.gl_engine.specs.declared.making.Making.{Making}
use Rattle.gl_engine.specs.declared.lane_input.LaneInput.{LaneInput}

-- an input's lane
abbrev pub lane_of : LaneInput → OwnLaneId
lane_of input = input.lane.lane

-- what a collector keeps of the notes collected
abbrev pub KeepsNotes : Collected → List LaneInput → Type 0
KeepsNotes c inputs = IsCollector c.limits inputs c.stream (made_by c.stream) c.limits

-- a run has kept up so far: what a collector keeps of the notes collected, and to each shard the edges due were shipped that are its own
pub record KeepsUp (spares : Bool) (limits : Bounds) (inputs : List LaneInput) (stream : List Note)
    (outlets : List Sending) : Type 0 where
  pub collector : IsCollector limits inputs stream (made_by stream) limits
  pub due : List (Edge × Sample)
  pub are_due : AreDue spares (made_by stream) due
  pub shipped : HaveShipped outlets due

-- whether there are more notes than before; if not, they are the same ones
abbrev pub HasMoved : List Note → List Note → Bool → Type 0
HasMoved before after true = length before < length after
HasMoved before after false = after ≡ before

-- pulls off the thread's lane, at most so many, went on from there: the collector's inputs and edges
-- are those of what was collected, and the edges were added to those made; lanes and limits stay, what
-- was collected stays, and where something goes wrong that is to blame: never a worker
pub record PullsOn {A : Type 0} (most thread : ℕ) (before after : Collected)
    (inputs later : List LaneInput) (making more : Making) (result : Result A RunFault)
    : Type 0 where
  pub keeps : IsCollector before.limits later after.stream (made_by after.stream) before.limits
  pub added : AddsEdges before.stream making after.stream more
  pub limits : after.limits ≡ before.limits
  pub lanes : map lane_of later ≡ map lane_of inputs
  pub grown : IsTurn most thread before.stream after.stream
  pub blamed : IfErr result (IsPullFault thread before.limits later after.stream)

-- a run went on from there: as long as nothing goes wrong it keeps up; lanes, feeds and limits stay, what was collected stays, and
-- where something goes wrong that is to blame, and it is known what was sent until then
pub record GoesOn {A : Type 0} (spares : Bool) (before after : Collected)
    (inputs later : List LaneInput) (outlets shipped : List Sending) (result : Result A RunFault)
    : Type 0 where
  pub keeps : OnOk result (KeepsUp spares before.limits later after.stream shipped)
  pub limits : after.limits ≡ before.limits
  pub lanes : map lane_of later ≡ map lane_of inputs
  pub feeds : map (λ o. o.feed) shipped ≡ map (λ o. o.feed) outlets
  pub grown : IsPrefix before.stream after.stream
  pub blamed : IfErr result (IsBlamed before.limits later after.stream)
  pub stopped : IfErr result
      (StopsWith spares before.stream after.stream (map (λ o. o.sent) shipped))

-- no edge that was made waits to be shipped, and of the acquires that are known the edges were made
pub record HasNoneLeft (stream : List Note) (making : Making) : Type 0 where
  pub none : making.made.items ≡ []
  pub notes : NotesMade stream making

-- a run can take turns: no edge waits to be shipped, there is an outlet for each shard, and the run has kept up
pub record CanTakeTurns (before : Collected) (inputs : List LaneInput) (making : Making)
    (outlets : List Sending) : Type 0 where
  pub left : HasNoneLeft before.stream making
  pub shards : ReachShards outlets
  pub kept : KeepsUp making.spares before.limits inputs before.stream outlets

-- a run took turns, and answers whether a note was pulled: it went on from there, and unless something went wrong no edge waits to
-- be shipped
pub record HasTakenTurns (before after : Collected) (inputs later : List LaneInput)
    (making more : Making) (outlets shipped : List Sending) (result : Result Bool RunFault)
    : Type 0 where
  pub goes_on : GoesOn making.spares before after inputs later outlets shipped result
  pub moved : IfOk result (HasMoved before.stream after.stream)
  pub left : OnOk result (HasNoneLeft after.stream more)
  pub spares : more.spares ≡ making.spares

-- all was collected: each thread's notes in order and as they were popped, up to its end mark
pub record IsCollected (limits : Bounds) (inputs : List LaneInput)
    (stream : List Note) : Type 0 where
  pub told : (thread : ℕ) (input : LaneInput) → slice_get inputs thread ≡ Some input
      → notes_of thread stream ≡ map (as_of thread) input.lane.popped
  pub in_order : AreInOrder limits stream
  pub ended : (thread : ℕ) → thread < limits.threads → has_ended thread stream ≡ true

-- all was collected, and shipped: to each shard those of some edges that are its own, of which each edge made is one, with its least sample
pub record IsWhole (limits : Bounds) (inputs : List LaneInput) (stream : List Note)
    (sent : List AllSent) : Type 0 where
  pub collected : IsCollected limits inputs stream
  pub made_are : AreMade limits.threads stream (made_by stream)
  pub some : 0 < length sent
  pub due : List (Edge × Sample)
  pub table : once due ≡ once (made_by stream)
  pub shipped : map (λ s. s.sent) sent ≡ dealt (length sent) due

-- there is an input for each thread; all was collected and shipped unless something went wrong, and where a lane broke, there is a note to blame
pub record IsGathered (limits : Bounds) (inputs : List LaneInput) (stream : List Note)
    (collecting : Bounds) (sent : List AllSent) (fault : Option RunFault) : Type 0 where
  pub count : length inputs ≡ limits.threads
  pub same_limits : collecting ≡ limits
  pub whole : fault ≡ None → IsWhole limits inputs stream sent
  pub blamed : IfSome fault (IsBlamed limits inputs stream)

-- a receipt's notes are its thread's, in order, and what its lane has handed over begins them
pub record IsConfirmed (came : List Note) (r : Closed) : Type 0 where
  pub notes : AreNotesOf r.limits r.thread r.pushed
  pub begins : IsPrefix came r.pushed
