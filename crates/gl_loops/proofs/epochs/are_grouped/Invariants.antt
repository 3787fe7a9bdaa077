use Rattle.std.proofs.Common.{◌≡◌, ℕ, ◌<◌, true, Some}
use Rattle.std.specs.Prelude.{slice_get, IsSomeAnd}
use Rattle.gl_edges.specs.declared.edge.Edge.{Edge}
use Rattle.gl_filters.specs.Picked.{edges_of_table}
use Rattle.gl_loops.specs.bodies.Epochs.{group_at, IsIn}
use Rattle.gl_loops.proofs.epochs.are_grouped.Given as goal

-- those of the edges so far that are kept are in their groups
abbrev pub invariant-loop-i : goal.invariant-loop-i
invariant-loop-i l =
    (i : ℕ) (e : Edge) → i < l.i → slice_get (edges_of_table l.sought.table.now) i ≡ Some e → slice_get l.kept i ≡ Some true → IsSomeAnd (group_at l.epochs i) (IsIn e)
