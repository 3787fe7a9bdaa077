-- How many edges a cycle has at most, by the class of one of them.
use Rattle.std.specs.Prelude.{◌≡◌, ℕ, ◌<◌, ◌≤◌, Bool, List, length, slice_get, Option, Some, None}
use Rattle.gl_event.specs.declared.events.Segment.{Segment}
use Rattle.gl_edges.specs.declared.edge.Edge.{Edge}
use Rattle.gl_filters.specs.declared.query.Mode.{Mode}
use Rattle.gl_pruning.specs.Limits.{NoneLonger}

-- the number of a class, if it has one, is no less than this
abbrev pub IsAtMost : ℕ → Option ℕ → Type 0
IsAtMost limit None = Unit {0}
IsAtMost limit (Some most) = limit ≤ most

-- so it is of each edge before a position
abbrev pub AreGreatestBefore : ℕ → List ℕ → List ℕ → List ℕ → Type 0
AreGreatestBefore n classes limits longest =
    (i class limit : ℕ) → i < n → slice_get classes i ≡ Some class
    → slice_get limits i ≡ Some limit → IsAtMost limit (slice_get longest class)

-- and of all edges
pub record AreGreatest (classes limits longest : List ℕ) : Type 0 where
  pub each : (i class limit : ℕ) → slice_get classes i ≡ Some class
      → slice_get limits i ≡ Some limit → IsAtMost limit (slice_get longest class)

-- no cycle that is sought has more edges than the number of the class of one of them
pub record AreLongest (before : Segment → Segment → Bool) (mode : Mode) (len : ℕ)
    (edges : List Edge) (classes longest : List ℕ) : Type 0 where
  pub each : (i class most : ℕ) (e : Edge) → slice_get classes i ≡ Some class
      → slice_get edges i ≡ Some e → slice_get longest class ≡ Some most
      → NoneLonger before mode len edges e most

-- a front has as many classes as a cycle with an edge of its first one has edges at most
pub record IsFull (longest front : List ℕ) : Type 0 where
  pub class : ℕ
  pub most : ℕ
  pub first : slice_get front 0 ≡ Some class
  pub known : slice_get longest class ≡ Some most
  pub full : most ≤ length front
