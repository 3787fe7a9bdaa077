use Rattle.std.proofs.Common.{◌≡◌, ℕ, ◌<◌, true, Some}
use Rattle.std.specs.Prelude.{slice_get}
use Rattle.gl_edges.specs.declared.edge.Edge.{Edge}
use Rattle.gl_filters.specs.Picked.{edges_of_table}
use Rattle.gl_pruning.specs.bodies.Covers.{component_in, HaveIn}
use Rattle.gl_sought.specs.declared.numbers.Ends.{Ends}
use Rattle.gl_pruning.proofs.limits.are_covered.Given as goal

-- so far each edge inside a component that is kept is one that the component's exclusions have
abbrev pub invariant-loop-i : goal.invariant-loop-i
invariant-loop-i l =
    (i : ℕ) (e : Edge) (d : Ends) → i < l.i → slice_get (edges_of_table l.sought.table.now) i ≡ Some e → slice_get l.ends i ≡ Some d → slice_get l.kept i ≡ Some true
    → component_in l.covered d.held ≡ component_in l.covered d.wanted → HaveIn l.sought.mode l.turns l.covered (component_in l.covered d.held) e
