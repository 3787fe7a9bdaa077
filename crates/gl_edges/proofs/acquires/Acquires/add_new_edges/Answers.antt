use Rattle.std.proofs.Common.{subst}
use Rattle.std.specs.Prelude.{Contains}
use Rattle.gl_edges.proofs.acquires.Acquires.add_new_edges.Goals as goal

pub returns-in-Ok-clause-learned : goal.returns-in-Ok-clause-learned
returns-in-Ok-clause-learned c = λ es stands edge at. c.in-Ok.ensures.learned es stands edge (subst (λ edges. Contains edges edge) c.self.view_is at)
