-- The edges of a table by their positions.
use Rattle.std.proofs.Common.{◌≡◌, ℕ, ◌<◌, List, length, get_or, Some, ap, ◌∙◌, arith}
use Rattle.std.specs.Prelude.{slice_get, All}
use Rattle.std.proofs.lemmas.List.{length-map, get_or-map}
use Rattle.std.proofs.lemmas.Option.{slice_get-get_or}
use Rattle.gl_edges.specs.declared.edge.Edge.{Edge}
use Rattle.gl_edges.specs.declared.edge.Sample.{Sample}
use Rattle.gl_filters.specs.Picked.{edges_of_table}

-- what a place of the table holds, without its sample
pub edge_at : (table : List (Edge × Sample)) (i : ℕ) (d : Edge × Sample) → i < length table → slice_get (edges_of_table table) i ≡ Some (get_or table i d).0
edge_at table i d within =
    slice_get-get_or (edges_of_table table) i d.0 (omega (arith, length-map table (λ pair. pair.0), within)) ∙ ap Some (get_or-map (λ pair. pair.0) table i d d.0 within)

-- each of these positions is one of the edges'
abbrev pub AreWithin : List Edge → List ℕ → Type 0
AreWithin edges path = All (λ i. i < length edges) path

-- positions in a table are positions of its edges
pub within_edges : (table : List (Edge × Sample)) (path : List ℕ) → All (λ i. i < length table) path → AreWithin (edges_of_table table) path
within_edges table path within k d lt = let w = within k d lt in omega (arith, length-map table (λ pair. pair.0))
