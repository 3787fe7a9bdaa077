use Rattle.gl_walks.specs.bodies.Fronts.{sought_by}
use Rattle.gl_walks.proofs.Steps.{front_none}
use Rattle.gl_walks.proofs.search.Search.first.Goals as goal

-- nothing is a front
pub grow-requires-clause-front : goal.grow-requires-clause-front
grow-requires-clause-front c = front_none (sought_by c.args.self.now.area c.args.purpose c.args.pattern.now)
