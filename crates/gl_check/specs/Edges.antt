-- Edges of a trace beside the JSON of edges.
use Rattle.std.specs.Prelude.{◌≡◌, ◌≢◌, ℕ, ◌<◌, true, List, length, take, slice_get, Some}
use Rattle.std.specs.List.{AllZip}
use Rattle.serde_json.specs.Data.{Data, number, unsigned}
use Rattle.gl_std.specs.Names.{NameLists}
use Rattle.gl_edges.specs.declared.edge.Edge.{Edge}
use Rattle.gl_edges.specs.declared.edge.Sample.{Sample}
use Rattle.gl_report.specs.Exclusive.{is_exclusive}
use Rattle.gl_report.specs.TreeV1.{edge_tree_v1}
use Rattle.gl_check.specs.declared.fields.Format.{Format}
use Rattle.gl_check.specs.declared.fields.Format.TheVariants.{One, Two, Three}

-- the JSON is that of this edge with its sample, in format 1
abbrev pub IsPrintOf : NameLists → Data → Edge × Sample → Type 0
IsPrintOf names d pair = (is_exclusive pair.0 ≡ true) × (d ≡ edge_tree_v1 names pair)

-- the JSON is that of the edge at this position of a table
pub record IsEdgeAt (names : NameLists) (table : List (Edge × Sample)) (d : Data)
    (position : ℕ) : Type 0 where
  pub pair : Edge × Sample
  pub there : slice_get table position ≡ Some pair
  pub prints : IsPrintOf names d pair

-- the JSON is that of no edge of a table
abbrev pub IsNoEdge : NameLists → List (Edge × Sample) → Data → Type 0
IsNoEdge names table d = (position : ℕ) → ¬ IsEdgeAt names table d position

-- the JSON names the edge at this position: in format 1 it is that of the edge, in the others the position
abbrev pub NamesEdge : Format → NameLists → List (Edge × Sample) → Data → ℕ → Type 0
NamesEdge One names table d position = IsEdgeAt names table d position
NamesEdge Two names table d position =
    (d ≡ number (unsigned position)) × (position < length table)
NamesEdge Three names table d position =
    (d ≡ number (unsigned position)) × (position < length table)

-- these name the edges at these positions
abbrev pub NameEdges : Format → NameLists → List (Edge × Sample) → List Data → List ℕ → Type 0
NameEdges format names table ds positions = AllZip (NamesEdge format names table) ds positions

-- the first position at which two lists differ; one of them may end there
pub record IsFirstDifference {X : Type 0} (xs ys : List X) (k : ℕ) : Type 0 where
  pub same_before : take k xs ≡ take k ys
  pub differs : slice_get xs k ≢ slice_get ys k
