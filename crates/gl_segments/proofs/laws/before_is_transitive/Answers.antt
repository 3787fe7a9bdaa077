use Rattle.gl_segments.proofs.LawLemmas.{before_trans}
use Rattle.gl_segments.proofs.laws.before_is_transitive.Goals as goal

pub returns : goal.returns
returns c = before_trans
