use Rattle.std.proofs.Common.{◌≡◌, ℕ, ◌<◌, false, Some}
use Rattle.std.specs.Prelude.{slice_get}
use Rattle.gl_edges.specs.declared.edge.Edge.{Edge}
use Rattle.gl_filters.specs.Picked.{edges_of_table}
use Rattle.gl_loops.specs.Alone.{IsAlone}
use Rattle.gl_sought.specs.Sought.{GoesOnSeeking}
use Rattle.gl_sought.specs.Flags.{TellsIfAny}
use Rattle.gl_loops.proofs.alone.leave_out_each_alone.Given as goal

-- so far only edges that are in no cycle were left out, among them all that were alone, none came back, and it is known whether there were any
abbrev pub invariant-loop-x : goal.invariant-loop-x
invariant-loop-x l = record {
  goes_on : GoesOnSeeking l.sought l.fn.kept.items l.kept.items;
  any : TellsIfAny l.has_changed l.fn.kept.items l.kept.items;
  alone : (x : ℕ) (e : Edge) → x < l.x → slice_get (edges_of_table l.sought.table.now) x ≡ Some e → IsAlone (edges_of_table l.sought.table.now) l.fn.kept.items e → slice_get l.kept.items x ≡ Some false;
}
