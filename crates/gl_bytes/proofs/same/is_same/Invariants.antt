use Rattle.std.proofs.Common.{◌-◌, ◌≤◌, length}
use Rattle.gl_bytes.proofs.Sameness.{AreSame}
use Rattle.gl_bytes.proofs.same.is_same.Given as goal

abbrev pub invariant-loop-at : goal.invariant-loop-at
invariant-loop-at l = (l.at ≤ length l.one) × AreSame l.one l.other 0 l.at

abbrev pub decreases-loop-at : goal.decreases-loop-at
decreases-loop-at l = length l.one - l.at
