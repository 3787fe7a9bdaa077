use Rattle.std.proofs.Common.{◌≡◌, ℕ, ◌<◌, true, Some, length}
use Rattle.std.specs.Prelude.{slice_get}
use Rattle.gl_edges.specs.declared.edge.Edge.{Edge}
use Rattle.gl_filters.specs.Picked.{edges_of_table}
use Rattle.gl_kinds.specs.bodies.Kinds.{HasModel}
use Rattle.gl_kinds.proofs.kinds.flags_of.Given as goal

-- so far each edge that is kept has a model
abbrev pub invariant-loop-i : goal.invariant-loop-i
invariant-loop-i l = (length l.flags.items ≡ length l.sought.table.now)
    × ((i : ℕ) (e : Edge) → i < l.i → slice_get (edges_of_table l.sought.table.now) i ≡ Some e → slice_get l.kept i ≡ Some true → HasModel l.grain (edges_of_table l.sought.table.now) l.flags.items e)
