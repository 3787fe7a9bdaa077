use Rattle.std.proofs.Common.{◌≡◌, ℕ, ◌<◌, true, Some}
use Rattle.std.specs.Prelude.{slice_get, IfSome}
use Rattle.gl_edges.specs.declared.edge.Edge.{Edge}
use Rattle.gl_filters.specs.Picked.{edges_of_table}
use Rattle.gl_exclusions.specs.Turns.{IsBehind, IsInTurn}
use Rattle.gl_exclusions.proofs.turns.take_turns.Given as goal

-- those of the edges so far that are kept are in turn, and before the segment that was last looked at all others are over
abbrev pub invariant-loop-i : goal.invariant-loop-i
invariant-loop-i l = record {
  last : IfSome l.looked.last (IsBehind l.sought.mode l.sought.order.now l.turns);
  turns : (i : ℕ) (e : Edge) → i < l.i → slice_get (edges_of_table l.sought.table.now) i ≡ Some e → slice_get l.kept i ≡ Some true → IsInTurn l.sought.mode l.sought.order.now l.turns e;
}
