use Rattle.gl_segments.proofs.LawLemmas.{between_segments}
use Rattle.gl_segments.proofs.laws.before_is_between_segments.Goals as goal

pub returns : goal.returns
returns c = between_segments
