use Rattle.std.proofs.Common.{ℕ, ◌<◌, get_or}
use Rattle.gl_exclusions.specs.bodies.Gates.{IsMadeUnder}
use Rattle.gl_exclusions.proofs.gates.is_made_under_all.Given as goal

-- it is made under those so far
abbrev pub invariant-loop-gate : goal.invariant-loop-gate
invariant-loop-gate l = (k d : ℕ) → k < l.gate-index → IsMadeUnder l.edge (get_or l.gates k d)
