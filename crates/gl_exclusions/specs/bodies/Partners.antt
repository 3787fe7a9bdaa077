-- Edges that may stand beside an edge in a cycle, on one side of it.
use Rattle.std.specs.Prelude.{◌≡◌, ℕ, ◌<◌, Bool, true, false, List, length, slice_get, unwrap_or, Option, Some, IfSome}
use Rattle.gl_event.specs.declared.events.Segment.{Segment}
use Rattle.gl_edges.specs.declared.edge.Edge.{Edge}
use Rattle.gl_filters.specs.declared.query.Mode.{Mode}
use Rattle.gl_index.specs.Indexes.{AreChainedKept}
use Rattle.gl_index.specs.Sides.{is_beside, lock_towards, opposite}
use Rattle.gl_index.specs.declared.chains.Chain.{Chain}
use Rattle.gl_index.specs.declared.sides.Side.{Side}
use Rattle.gl_sought.specs.Sought.{StayLeftOut}

-- the chain leads through all edges that are kept, and maybe through some that were kept when it was made, by the lock that they share with those which they stand beside
abbrev pub LeadsThrough : Side → List Edge → List Bool → Chain → Type 0
LeadsThrough side edges kept chain =
    (before : List Bool) × AreChainedKept (opposite side) edges before 0 chain
    × StayLeftOut before kept

module _ (before : Segment → Segment → Bool) (mode : Mode) (edges : List Edge) (kept : List Bool)
    (side : Side) where
  -- of the edges at positions below m none that is kept may stand on this side of the one at x
  abbrev pub NoneBeside : ℕ → ℕ → Type 0
  NoneBeside x m =
      (i : ℕ) (e f : Edge) → i < m → slice_get edges x ≡ Some e → slice_get edges i ≡ Some f
      → slice_get kept i ≡ Some true → is_beside before mode side e f ≡ false

  -- none before the next one may, and that one shares the lock
  pub record IsNextBeside (x : ℕ) (next : Option ℕ) : Type 0 where
    pub passed : NoneBeside x (unwrap_or next (length edges))
    pub shares : IfSome next
        (λ p. (p < length edges)
        × ((e f : Edge) → slice_get edges x ≡ Some e → slice_get edges p ≡ Some f
        → lock_towards (opposite side) f ≡ lock_towards side e))
