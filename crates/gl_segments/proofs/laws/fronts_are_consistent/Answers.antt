use Rattle.gl_segments.proofs.LawLemmas.{fronts_consistent}
use Rattle.gl_segments.proofs.laws.fronts_are_consistent.Goals as goal

pub returns : goal.returns
returns c = fronts_consistent
