use Rattle.gl_engine.specs.Settling.{HaveEndedBelow}
use Rattle.gl_engine.proofs.settlement.first_unended.Given as goal

-- each of the threads so far has ended
abbrev pub invariant-loop-number : goal.invariant-loop-number
invariant-loop-number l = HaveEndedBelow l.intake.stream l.number
