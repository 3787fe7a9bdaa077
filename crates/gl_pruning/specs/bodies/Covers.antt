-- Components of the lock-order graph, and exclusions that have all edges of one.
use Rattle.std.specs.Prelude.{◌≡◌, ℕ, ◌<◌, Bool, true, List, length, slice_get, Some}
use Rattle.std.specs.Global.{Vec}
use Rattle.gl_edges.specs.declared.edge.Edge.{Edge}
use Rattle.gl_filters.specs.Picked.{edges_of_table}
use Rattle.gl_filters.specs.declared.query.Mode.{Mode}
use Rattle.gl_exclusions.specs.declared.exclusions.Exclusion.{Exclusion}
use Rattle.gl_pruning.specs.declared.limits.Covered.{Covered}
use Rattle.gl_sought.specs.declared.numbers.Ends.{Ends}
use Rattle.gl_sought.specs.declared.sought.Sought.{Sought}
use Rattle.gl_exclusions.specs.declared.turns.Turn.{Turn}
use Rattle.gl_sought.specs.Components.{AreComponents}
use Rattle.gl_exclusions.specs.Exclusions.{IsOneOf}
use Rattle.gl_exclusions.specs.Turns.{TakeTurns}
use Rattle.gl_sought.specs.Walks.{label_at}

-- the component of a lock, by numbers
abbrev pub component_in : Covered → ℕ → ℕ
component_in covered lock = label_at covered.labels.items lock

-- the exclusions of this component, where there are some, have the edge
pub record HaveIn (mode : Mode) (turns : List Turn) (covered : Covered) (component : ℕ)
    (e : Edge) : Type 0 where
  pub have : (exclusions : Vec Exclusion)
      → slice_get covered.exclusions.items component ≡ Some exclusions
      → 0 < length exclusions.items → IsOneOf mode turns exclusions.items e

-- those of each component have all edges inside it that are kept
abbrev pub AreCovered : Mode → List Turn → Covered → List Edge → List Ends → List Bool → Type 0
AreCovered mode turns covered edges ends kept =
    (i : ℕ) (e : Edge) (d : Ends) → slice_get edges i ≡ Some e → slice_get ends i ≡ Some d
    → slice_get kept i ≡ Some true → component_in covered d.held ≡ component_in covered d.wanted
    → HaveIn mode turns covered (component_in covered d.held) e

-- what was checked of components, of exclusions and of turns
pub record AreChecked (sought : Sought) (turns : List Turn) (covered : Covered) (ends : List Ends)
    (kept : List Bool) : Type 0 where
  pub components : AreComponents sought covered.labels.items ends kept
  pub have : AreCovered sought.mode turns covered (edges_of_table sought.table.now) ends kept
  pub in_turn : TakeTurns sought.mode sought.order.now turns (edges_of_table sought.table.now) kept
