-- What is known while the edges of a thread's list are gathered.
use Rattle.std.specs.Prelude.{ℕ, ◌+◌, List, ◌++◌}
use Rattle.gl_event.specs.declared.events.LockMode.{LockMode}
use Rattle.gl_event.specs.declared.held.HeldEntry.{HeldEntry}
use Rattle.gl_edges.specs.Guards.{guards_of}
use Rattle.gl_edges.specs.Known.{AreBefore}
use Rattle.gl_edges.specs.bodies.Tables.{IsTableOf}
use Rattle.gl_edges.specs.declared.edge.Edge.{Edge}
use Rattle.gl_edges.specs.declared.edge.Sample.{Sample}
use Rattle.gl_edges.specs.declared.gather.Gatherer.{Gatherer}
use Rattle.gl_edges.specs.declared.tracker.Tracker.{Tracker}

-- what a gatherer knows after these pairs, before this place of its thread's list
pub record Gathers (pairs : List (Edge × Sample)) (place : ℕ) (gatherer : Gatherer) : Type 0 where
  -- each edge with its least sample
  pub table : IsTableOf gatherer.batch pairs
  -- and acquires whose edges are there already
  pub seen : AreBefore gatherer.seen pairs place

-- what the gatherer knew before this place, and these pairs besides, it knows before the next one
abbrev pub HasGathered : ℕ → List (Edge × Sample) → Gatherer → Gatherer → Type 0
HasGathered place more before after =
    (pairs : List (Edge × Sample)) → Gathers pairs place before
    → Gathers (pairs ++ more) (place + 1) after

-- the edge and the sample that a tracked thread makes for a held lock, where it acquires one more
abbrev pub pair_for : Tracker → ℕ → LockMode → ℕ → HeldEntry → Edge × Sample
pair_for tracker wanted mode loc h = (
  record {
    thread = tracker.thread;
    held = h.lock;
    held_mode = h.mode;
    wanted = wanted;
    wanted_mode = mode;
    first = h.seg;
    second = tracker.state.segments;
    guards = guards_of tracker.state.held;
  },
  record { place = tracker.state.events; held_loc = h.loc; wanted_loc = loc },
)
