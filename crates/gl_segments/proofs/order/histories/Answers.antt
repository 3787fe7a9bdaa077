use Rattle.gl_segments.proofs.Ordering.{consistent, orders}
use Rattle.gl_segments.proofs.order.histories.Goals as goal

pub returns-in-Ok-clause-ok : goal.returns-in-Ok-clause-ok
returns-in-Ok-clause-ok c = λ lists shows. orders lists c.args.steps.now shows c.requires _ c.in-Ok.ensures

pub returns-in-Ok-clause-consistent : goal.returns-in-Ok-clause-consistent
returns-in-Ok-clause-consistent c = λ lists shows. consistent lists c.args.steps.now shows c.requires _ c.in-Ok.ensures
