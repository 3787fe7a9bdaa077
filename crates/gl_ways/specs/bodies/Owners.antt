-- Owners of edges: no two edges of one stand in a cycle together.
use Rattle.std.specs.Prelude.{◌≡◌, ℕ, ◌+◌, ◌≤◌, Bool, true, List, slice_get, Some}
use Rattle.gl_edges.specs.declared.edge.Edge.{Edge}
use Rattle.gl_filters.specs.declared.query.Mode.{Mode}
use Rattle.gl_sought.specs.Under.{IsUnder}
use Rattle.gl_sought.specs.Walks.{label_at}
use Rattle.gl_sought.specs.declared.numbers.Ends.{Ends}
use Rattle.gl_ways.specs.declared.owners.Owner.{Owner}
use Rattle.gl_ways.specs.declared.owners.Owner.TheVariants.{OfThread, OfLock}

-- the edge is one of the owner's
abbrev pub IsOwned : Mode → Owner → Edge → Type 0
IsOwned mode (OfThread thread) e = e.thread ≡ thread
IsOwned mode (OfLock lock) e = IsUnder mode lock e

-- along each edge that is kept and isn't one of the owner's the label of a lock grows by one at the most
abbrev pub GrowWithout : Mode → Owner → List Edge → List Bool → List Ends → List ℕ → Type 0
GrowWithout mode owner edges kept ends labels =
    (i : ℕ) (e : Edge) (d : Ends) → slice_get kept i ≡ Some true → slice_get edges i ≡ Some e
    → slice_get ends i ≡ Some d → ¬ IsOwned mode owner e
    → label_at labels d.wanted ≤ label_at labels d.held + 1
