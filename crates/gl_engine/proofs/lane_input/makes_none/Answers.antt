use Rattle.std.proofs.Common.{◌≡◌, [], length, sym, subst}
use Rattle.gl_world.specs.Machine.{edges_due}
use Rattle.gl_world.specs.Keeping.{with_body}
use Rattle.gl_engine.proofs.Sides.{due_of_none, is_not_there}
use Rattle.gl_engine.proofs.lane_input.makes_none.Goals as goal

pub returns-in-Happened : goal.returns-in-Happened
returns-in-Happened c = λ yes thread es.
    subst (λ body. edges_due thread (with_body es body) (length es) body ≡ []) (sym c.in-Happened.is)
    (due_of_none thread es c.in-Happened.event (c.wanted.ensures.none (is_not_there c.wanted.result c.is_none.result c.is_none.ensures yes)))
