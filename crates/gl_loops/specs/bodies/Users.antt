-- Which threads use each lock, as far as cycles go.
use Rattle.std.specs.Prelude.{◌≡◌, ℕ, List, Bool, length, slice_get, Some, All, Contains}
use Rattle.gl_segments.specs.Clocks.{is_before}
use Rattle.gl_edges.specs.declared.edge.Edge.{Edge}
use Rattle.gl_filters.specs.Cycle.{IsCycle}
use Rattle.gl_filters.specs.Picked.{edges_of_table}
use Rattle.gl_index.specs.Sides.{lock_towards}
use Rattle.gl_index.specs.Users.{MayUse, UseAsKnown}
use Rattle.gl_index.specs.declared.sides.Side.{Side}
use Rattle.gl_index.specs.declared.sides.Side.TheVariants.{Follower, Leader}
use Rattle.gl_index.specs.declared.users.Users.{Users}
use Rattle.gl_sought.specs.declared.sought.Sought.{Sought}

-- each edge of a cycle that is sought has its thread among the users of its lock on this side
abbrev pub KnowsCycles : Sought → Side → Users → Type 0
KnowsCycles s side users =
    (cycle : List Edge) (i : ℕ) (e : Edge) → All (Contains (edges_of_table s.table.now)) cycle
    → IsCycle (is_before s.order.now) s.mode s.len cycle → slice_get cycle i ≡ Some e
    → MayUse users (lock_towards side e) e.thread

-- no more is told of those that hold locks and of those that want them than there is among the edges that are kept
pub record KnowUsers (edges : List Edge) (kept : List Bool) (holders wanters : Users) : Type 0 where
  pub of_holders : UseAsKnown Leader edges kept (length edges) holders
  pub of_wanters : UseAsKnown Follower edges kept (length edges) wanters
