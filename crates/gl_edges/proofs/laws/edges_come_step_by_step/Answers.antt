use Rattle.gl_edges.proofs.Fronts.{edges_at_front, edges_of_more}
use Rattle.gl_edges.proofs.laws.edges_come_step_by_step.Goals as goal

pub returns-clause-more : goal.returns-clause-more
returns-clause-more c = edges_of_more

pub returns-clause-front : goal.returns-clause-front
returns-clause-front c = edges_at_front
