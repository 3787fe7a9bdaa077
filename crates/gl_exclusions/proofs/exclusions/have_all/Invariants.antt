use Rattle.std.proofs.Common.{◌≡◌, ℕ, ◌<◌, true, Some}
use Rattle.std.specs.Prelude.{slice_get}
use Rattle.gl_edges.specs.declared.edge.Edge.{Edge}
use Rattle.gl_filters.specs.Picked.{edges_of_table}
use Rattle.gl_exclusions.specs.Exclusions.{IsOneOf}
use Rattle.gl_exclusions.proofs.exclusions.have_all.Given as goal

-- they have those of the edges so far that are kept
abbrev pub invariant-loop-i : goal.invariant-loop-i
invariant-loop-i l = (i : ℕ) (e : Edge) → i < l.i → slice_get (edges_of_table l.sought.table.now) i ≡ Some e → slice_get l.kept i ≡ Some true → IsOneOf l.sought.mode l.turns l.exclusions e
