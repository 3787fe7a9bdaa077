-- What a world keeps of each thread, and what holds of its state between steps.
use Rattle.std.specs.Prelude.{◌≡◌, ◌==◌, ℕ, ◌≤◌, Bool, List, [], ◌∷◌, ◌++◌, length, map, take, Some, slice_get}
use Rattle.std.specs.List.{filter}
use Rattle.gl_event.specs.Bounds.{Bounds, AreWithinRange}
use Rattle.gl_event.specs.declared.events.Event.{Event}
use Rattle.gl_event.specs.declared.notes.Note.{Note}
use Rattle.gl_event.specs.declared.notes.Body.{Body}
use Rattle.gl_event.specs.declared.notes.Body.TheVariants.{Happened, Ended}
use Rattle.gl_edges.specs.Edges.{once, edges_made}
use Rattle.gl_edges.specs.Laws.{AreAmong}
use Rattle.gl_edges.specs.Tracking.{Follows, IsNextFor}
use Rattle.gl_edges.specs.declared.edge.Edge.{Edge}
use Rattle.gl_edges.specs.declared.edge.Sample.{Sample}
use Rattle.gl_edges.specs.declared.tracker.Tracker.{Tracker}
use Rattle.gl_recorder.specs.Taking.{Taking, Tracks}
use Rattle.gl_intake.specs.Stream.{events_of, has_ended, logs_of, IsNext, AreInOrder}
use Rattle.gl_shards.specs.Tables.{of_shard}
use Rattle.gl_shards.specs.declared.shard.TheConstants.{MAX_SHARDS}
use Rattle.gl_world.specs.Dispatch.{Dispatch, Shard}
use Rattle.gl_world.specs.Machine.{Lane, State}

-- a thread's part: its number, the limits and its lane
pub record Keeper : Type 0 where
  pub thread : ℕ
  pub limits : Bounds
  pub lane : Lane

-- a thread's recorder took the events of the pushed notes, which are listed, it is known whether the end mark was pushed, and a tracker
-- follows the events of the popped notes
pub record IsKept (limits : Bounds) (thread : ℕ) (pushed : List Note) (popped : ℕ)
    (taken : List Event) (closed : Bool) (taker : Taking) (tracker : Tracker) : Type 0 where
  pub tracks : Tracks limits thread (events_of thread pushed) taker
  pub listed : taken ≡ events_of thread pushed
  pub known : closed ≡ has_ended thread pushed
  pub within : popped ≤ length pushed
  pub follows : Follows thread (events_of thread (take popped pushed)) tracker
  pub range : AreWithinRange limits

-- the note is popped next off the thread's lane, and is the thread's next one after those popped before
pub record IsFrontOf (limits : Bounds) (thread : ℕ) (lane : Lane) (note : Note) : Type 0 where
  pub at : slice_get lane.pushed lane.popped ≡ Some note
  pub own : note.thread ≡ thread
  pub next : IsNext limits (take lane.popped lane.pushed) note

-- a thread's events with that of this body, if it has one
abbrev pub with_body : List Event → Body → List Event
with_body es (Happened e) = es ++ e ∷ []
with_body es (Ended count) = es

-- the tracker may take the event of this body, if it has one
abbrev pub MayTake : Tracker → Body → Type 0
MayTake tracker (Happened e) = IsNextFor tracker e
MayTake tracker (Ended count) = Unit {0}

-- the notes of this thread, in order
unfoldable pub notes_of : ℕ → List Note → List Note
notes_of thread notes = filter (λ note. note.thread == thread) notes

-- a lane holds its thread's notes, in order, and what was popped of them is what the stream has of the thread
pub record IsLaneOf (limits : Bounds) (thread : ℕ) (stream : List Note) (lane : Lane) : Type 0 where
  pub own : (place : ℕ) (note : Note) → slice_get lane.pushed place ≡ Some note
      → note.thread ≡ thread
  pub in_order : AreInOrder limits lane.pushed
  pub within : lane.popped ≤ length lane.pushed
  pub told : notes_of thread stream ≡ take lane.popped lane.pushed

-- the edges made are those that the threads make in the lists of what was collected
pub record AreMade (threads : ℕ) (stream : List Note) (made : List (Edge × Sample)) : Type 0 where
  pub from : AreAmong made (edges_made (logs_of threads stream))
  pub all : AreAmong (edges_made (logs_of threads stream)) made

-- what was shipped are the first of the edges made, as many as were sent: to each shard those that belong to it, in their order
pub record AreShipped (d : Dispatch) : Type 0 where
  pub within : d.sent ≤ length d.made
  pub some : 1 ≤ d.sent → 1 ≤ length d.shards
  pub each : (k : ℕ) (shard : Shard) → slice_get d.shards k ≡ Some shard
      → shard.shipped ≡ of_shard (length d.shards) (take d.sent d.made) k

-- what holds of a state after any steps from a new world
pub record IsSound (s : State) : Type 0 where
  pub count : length s.lanes ≡ s.limits.threads
  pub lanes : (thread : ℕ) (lane : Lane) → slice_get s.lanes thread ≡ Some lane
      → IsLaneOf s.limits thread s.stream lane
  pub in_order : AreInOrder s.limits s.stream
  pub made : AreMade s.limits.threads s.stream s.dispatch.made
  pub shipped : AreShipped s.dispatch

-- a shard's table has the edges that were worked, and no more were worked than shipped
pub record IsTabled (shipped : List (Edge × Sample)) (worked : ℕ)
    (table : List (Edge × Sample)) : Type 0 where
  pub within : worked ≤ length shipped
  pub table_is : table ≡ once (take worked shipped)

-- there is at least one shard, and no more than there may be
pub record AreShards (shards : List Shard) : Type 0 where
  pub some : 1 ≤ length shards
  pub fit : length shards ≤ MAX_SHARDS

-- each part is of the thread whose number is its place, under these limits
pub record AreKeepers (limits : Bounds) (keepers : List Keeper) : Type 0 where
  pub in_place : (thread : ℕ) (keeper : Keeper) → slice_get keepers thread ≡ Some keeper
      → keeper.thread ≡ thread
  pub same_limits : (thread : ℕ) (keeper : Keeper) → slice_get keepers thread ≡ Some keeper
      → keeper.limits ≡ limits

-- the parts' lanes
abbrev pub lanes_kept : List Keeper → List Lane
lanes_kept keepers = map (λ keeper. keeper.lane) keepers

-- a world's parts, its collector's stream and its dispatch make a state that is as after some steps from a new world
pub record IsWorld (limits : Bounds) (dispatch : Dispatch) (keepers : List Keeper)
    (stream : List Note) (collecting : Bounds) : Type 0 where
  pub sound : IsSound (record {
    limits = limits;
    lanes = lanes_kept keepers;
    stream = stream;
    dispatch = dispatch;
  })
  pub keeping : AreKeepers limits keepers
  pub same_limits : collecting ≡ limits
  pub range : AreWithinRange limits
