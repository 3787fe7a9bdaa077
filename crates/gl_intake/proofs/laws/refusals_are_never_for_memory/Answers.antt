use Rattle.gl_intake.proofs.Next.{never_for_memory}
use Rattle.gl_intake.proofs.laws.refusals_are_never_for_memory.Goals as goal

pub returns : goal.returns
returns c = λ limits stream note why refused. never_for_memory limits stream note why refused
