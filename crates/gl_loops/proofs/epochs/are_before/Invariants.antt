use Rattle.std.proofs.Common.{◌≡◌, ℕ, ◌<◌, Some}
use Rattle.std.specs.Prelude.{slice_get}
use Rattle.gl_loops.specs.bodies.Epochs.{IsInOrder}
use Rattle.gl_loops.specs.declared.epochs.Group.{Group}
use Rattle.gl_loops.proofs.epochs.are_before.Given as goal

-- so are the groups so far
abbrev pub invariant-loop-i : goal.invariant-loop-i
invariant-loop-i l = (one : Group) (i : ℕ) → i < l.i → slice_get l.groups i ≡ Some one → IsInOrder l.sought.mode l.sought.order.now one l.other
