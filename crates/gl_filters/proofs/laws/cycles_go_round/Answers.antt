use Rattle.gl_filters.proofs.Round.{compatible_round, pair_goes}
use Rattle.gl_filters.proofs.laws.cycles_go_round.Goals as goal

pub returns-clause-next : goal.returns-clause-next
returns-clause-next c = λ before mode len cycle i e f is. compatible_round before mode len cycle is i e f

pub returns-clause-together : goal.returns-clause-together
returns-clause-together c = λ before mode len cycle i j e f is. pair_goes before mode len cycle is i j e f
