use Rattle.gl_edges.proofs.MadeFirst.{made_first, first_is_there}
use Rattle.gl_edges.proofs.laws.samples_are_of_the_first_place.Goals as goal

pub returns : goal.returns
returns c = λ lists edge sample. (made_first lists edge sample, first_is_there lists edge sample)
