-- The two sides of an edge.
use Rattle.std.specs.Prelude.{ℕ, Bool}
use Rattle.gl_event.specs.declared.events.Segment.{Segment}
use Rattle.gl_edges.specs.declared.edge.Edge.{Edge}
use Rattle.gl_filters.specs.Test.{is_compatible}
use Rattle.gl_filters.specs.declared.query.Mode.{Mode}
use Rattle.gl_index.specs.declared.sides.Side.{Side}
use Rattle.gl_index.specs.declared.sides.Side.TheVariants.{Follower, Leader}

-- on which side of its followers an edge stands, and of its leaders
abbrev pub opposite : Side → Side
opposite Follower = Leader
opposite Leader = Follower

-- the lock that an edge shares with those on this side
abbrev pub lock_towards : Side → Edge → ℕ
lock_towards Follower e = e.wanted
lock_towards Leader e = e.held

-- the second edge may come right after the first one in a cycle, as its follower, or right before it, as its leader
abbrev pub is_beside : (Segment → Segment → Bool) → Mode → Side → Edge → Edge → Bool
is_beside before mode Follower e f = is_compatible before mode e f
is_beside before mode Leader e f = is_compatible before mode f e
