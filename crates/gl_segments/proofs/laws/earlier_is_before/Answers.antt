use Rattle.gl_segments.proofs.LawLemmas.{earlier}
use Rattle.gl_segments.proofs.laws.earlier_is_before.Goals as goal

pub returns : goal.returns
returns c = earlier
