use Rattle.std.proofs.Common.{◌≡◌, ℕ, ◌+◌, ◌<◌, ◌≤◌, true, Some}
use Rattle.std.specs.Prelude.{slice_get}
use Rattle.gl_edges.specs.declared.edge.Edge.{Edge}
use Rattle.gl_filters.specs.Picked.{edges_of_table}
use Rattle.gl_ways.specs.bodies.Owners.{IsOwned}
use Rattle.gl_sought.specs.Walks.{label_at}
use Rattle.gl_sought.specs.declared.numbers.Ends.{Ends}
use Rattle.gl_ways.proofs.through.grow_by_one_without.Given as goal

-- the label grows by one at the most along the edges that others have so far
abbrev pub invariant-loop-i : goal.invariant-loop-i
invariant-loop-i l = (i : ℕ) (e : Edge) (d : Ends) → i < l.i → slice_get l.kept i ≡ Some true → slice_get (edges_of_table l.sought.table.now) i ≡ Some e → slice_get l.ends i ≡ Some d
    → ¬ IsOwned l.sought.mode l.owner e → label_at l.labels d.wanted ≤ label_at l.labels d.held + 1
