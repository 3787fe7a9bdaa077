-- Edges that exclude each other: no two stand in a cycle together.
use Rattle.std.specs.Prelude.{◌≡◌, ℕ, Bool, true, List, slice_get, Some}
use Rattle.gl_edges.specs.declared.edge.Edge.{Edge}
use Rattle.gl_filters.specs.declared.query.Mode.{Mode}
use Rattle.gl_exclusions.specs.declared.exclusions.Exclusion.{Exclusion}
use Rattle.gl_exclusions.specs.declared.exclusions.Exclusion.TheVariants.{InTurn, UnderLock, Holding, Wanting}
use Rattle.gl_exclusions.specs.declared.turns.Turn.{Turn}
use Rattle.gl_sought.specs.Under.{IsUnder}
use Rattle.gl_exclusions.specs.Turns.{chain_of}

-- the edge is one of those that exclude each other
abbrev pub IsExcluded : Mode → List Turn → Exclusion → Edge → Type 0
IsExcluded mode turns (InTurn chain) e = chain_of turns e.thread ≡ Some chain
IsExcluded mode turns (UnderLock lock) e = IsUnder mode lock e
IsExcluded mode turns (Holding lock) e = e.held ≡ lock
IsExcluded mode turns (Wanting lock) e = e.wanted ≡ lock

-- one of these has the edge
pub record IsOneOf (mode : Mode) (turns : List Turn) (exclusions : List Exclusion)
    (e : Edge) : Type 0 where
  pub place : ℕ
  pub exclusion : Exclusion
  pub there : slice_get exclusions place ≡ Some exclusion
  pub has : IsExcluded mode turns exclusion e

-- they have all edges that are kept between them
abbrev pub HaveAll : Mode → List Turn → List Exclusion → List Edge → List Bool → Type 0
HaveAll mode turns exclusions edges kept =
    (i : ℕ) (e : Edge) → slice_get edges i ≡ Some e → slice_get kept i ≡ Some true
    → IsOneOf mode turns exclusions e
