-- What a search of signatures relies on.
use Rattle.std.specs.Prelude.{◌≡◌, ℕ, ◌+◌, ◌<◌, ◌≤◌, Bool, true, List, length, slice_get, Some}
use Rattle.gl_edges.specs.declared.edge.Edge.{Edge}
use Rattle.gl_kinds.specs.Kinds.{AreOfOneKind}

-- a flagged edge is a model of the one at position i: of one kind with it, and of the same class
pub record HasModel (edges : List Edge) (classes : List ℕ) (flags : List Bool)
    (i : ℕ) : Type 0 where
  pub place : ℕ
  pub edge : Edge
  pub model : Edge
  pub at_edge : slice_get edges i ≡ Some edge
  pub at_model : slice_get edges place ≡ Some model
  pub flagged : slice_get flags place ≡ Some true
  pub same_class : slice_get classes place ≡ slice_get classes i
  pub alike : AreOfOneKind model edge

-- each kept edge has a model among those that are flagged
abbrev pub AreModels : List Edge → List ℕ → List Bool → List Bool → Type 0
AreModels edges classes kept models =
    (i : ℕ) → slice_get kept i ≡ Some true → HasModel edges classes models i

-- no flagged edge is of this class
abbrev pub IsEmptyClass : List ℕ → List Bool → ℕ → Type 0
IsEmptyClass classes flags class =
    (i : ℕ) → slice_get flags i ≡ Some true → ¬ (slice_get classes i ≡ Some class)

-- for each class from 0 to size the next one, at it or after, of which an edge may be flagged; size where there is none
pub record IsNextClass (size : ℕ) (classes : List ℕ) (flags : List Bool)
    (nexts : List ℕ) : Type 0 where
  pub long : length nexts ≡ size + 1
  pub from : (m next : ℕ) → slice_get nexts m ≡ Some next → (m ≤ next) × (next ≤ size)
  pub skipped : (m next class : ℕ) → slice_get nexts m ≡ Some next → m ≤ class → class < next
      → IsEmptyClass classes flags class
