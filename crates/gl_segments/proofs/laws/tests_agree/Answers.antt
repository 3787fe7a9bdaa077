use Rattle.gl_segments.proofs.LawLemmas.{agree}
use Rattle.gl_segments.proofs.laws.tests_agree.Goals as goal

pub returns : goal.returns
returns c = agree
