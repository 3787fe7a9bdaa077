use Rattle.gl_filters.proofs.Verdicts.{one_verdict}
use Rattle.gl_filters.proofs.laws.verdicts_are_unique.Goals as goal

pub returns : goal.returns
returns c = one_verdict
