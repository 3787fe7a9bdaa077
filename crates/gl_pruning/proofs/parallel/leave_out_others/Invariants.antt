use Rattle.std.proofs.Common.{◌≡◌, ℕ, ◌<◌, false, Some}
use Rattle.std.specs.Prelude.{slice_get}
use Rattle.gl_sought.specs.Sought.{GoesOnSeeking}
use Rattle.gl_pruning.proofs.parallel.leave_out_others.Given as goal

-- so far only edges that are in no cycle were left out, and among them all that don't stay
abbrev pub invariant-loop-i : goal.invariant-loop-i
invariant-loop-i l = record {
  goes_on : GoesOnSeeking l.sought l.fn.kept.items l.kept.items;
  out : (i : ℕ) → i < l.i → slice_get l.stay i ≡ Some false → slice_get l.kept.items i ≡ Some false;
}
