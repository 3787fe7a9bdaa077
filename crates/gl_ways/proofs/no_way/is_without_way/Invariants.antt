use Rattle.std.proofs.Common.{◌≡◌, ℕ, ◌+◌, ◌<◌, ◌≤◌, true, Some}
use Rattle.std.specs.Prelude.{slice_get}
use Rattle.gl_edges.specs.declared.edge.Edge.{Edge}
use Rattle.gl_segments.specs.Clocks.{is_before}
use Rattle.gl_filters.specs.Test.{goes_with}
use Rattle.gl_filters.specs.Picked.{edges_of_table}
use Rattle.gl_sought.specs.Walks.{label_at}
use Rattle.gl_sought.specs.declared.numbers.Ends.{Ends}
use Rattle.gl_ways.proofs.no_way.is_without_way.Given as goal

-- the label grows by one at the most along the edges so far
abbrev pub invariant-loop-i : goal.invariant-loop-i
invariant-loop-i l = (i : ℕ) (e : Edge) (d : Ends) → i < l.i → slice_get (edges_of_table l.sought.table.now) i ≡ Some e → slice_get l.kept i ≡ Some true → slice_get l.ends i ≡ Some d
    → goes_with (is_before l.sought.order.now) l.sought.mode e l.edge ≡ true → label_at l.labels d.wanted ≤ label_at l.labels d.held + 1
