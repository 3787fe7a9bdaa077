-- Edges that stand alone among edges of their own thread.
use Rattle.std.specs.Prelude.{◌≡◌, ◌⊎◌, ℕ, Bool, false, List, slice_get, Some}
use Rattle.gl_edges.specs.declared.edge.Edge.{Edge}
use Rattle.gl_index.specs.Sides.{lock_towards}
use Rattle.gl_index.specs.declared.sides.Side.{Side}
use Rattle.gl_index.specs.declared.sides.Side.TheVariants.{Follower, Leader}

-- of the edges that aren't left out each that has the lock on this side is of the thread
abbrev pub HasOnly : Side → List Edge → List Bool → ℕ → ℕ → Type 0
HasOnly side edges kept lock thread =
    (i : ℕ) (f : Edge) → slice_get edges i ≡ Some f → ¬ (slice_get kept i ≡ Some false)
    → lock_towards side f ≡ lock → f.thread ≡ thread

-- none of another thread holds the lock that the edge wants, or none wants the one that it holds
abbrev pub IsAlone : List Edge → List Bool → Edge → Type 0
IsAlone edges kept e =
    HasOnly Leader edges kept e.wanted e.thread ⊎ HasOnly Follower edges kept e.held e.thread

-- each edge that was alone by the flags before is left out by those after
abbrev pub LeavesOutAlone : List Edge → List Bool → List Bool → Type 0
LeavesOutAlone edges before after =
    (x : ℕ) (e : Edge) → slice_get edges x ≡ Some e → IsAlone edges before e
    → slice_get after x ≡ Some false
