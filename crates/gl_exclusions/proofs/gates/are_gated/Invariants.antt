use Rattle.std.proofs.Common.{◌≡◌, ℕ, ◌<◌, true, Some}
use Rattle.std.specs.Prelude.{slice_get, All}
use Rattle.gl_edges.specs.declared.edge.Edge.{Edge}
use Rattle.gl_filters.specs.Picked.{edges_of_table}
use Rattle.gl_index.specs.Sides.{lock_towards}
use Rattle.gl_exclusions.specs.bodies.Gates.{gates_of, IsMadeUnder}
use Rattle.gl_exclusions.proofs.gates.are_gated.Given as goal

-- those of the edges so far that are kept are made under all gates of their locks
abbrev pub invariant-loop-i : goal.invariant-loop-i
invariant-loop-i l = (i : ℕ) (e : Edge) → i < l.i → slice_get (edges_of_table l.sought.table.now) i ≡ Some e → slice_get l.kept i ≡ Some true → All (IsMadeUnder e) (gates_of l.gates (lock_towards l.side e))
