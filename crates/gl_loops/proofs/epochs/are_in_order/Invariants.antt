use Rattle.std.proofs.Common.{◌≡◌, ℕ, ◌<◌, Some}
use Rattle.std.specs.Prelude.{slice_get}
use Rattle.gl_loops.specs.bodies.Epochs.{IsInOrder}
use Rattle.gl_loops.specs.declared.epochs.Group.{Group}
use Rattle.gl_loops.proofs.epochs.are_in_order.Given as goal

-- all are so before the groups so far
abbrev pub invariant-loop-i : goal.invariant-loop-i
invariant-loop-i l = (one other : Group) (i j : ℕ) → j < l.i → slice_get l.groups i ≡ Some one → slice_get l.groups j ≡ Some other → IsInOrder l.sought.mode l.sought.order.now one other
