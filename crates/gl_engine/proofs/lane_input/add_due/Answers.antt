use Rattle.std.proofs.Common.{length, sym, ap, subst}
use Rattle.std.specs.Prelude.{OnOk}
use Rattle.gl_edges.proofs.Steps.{newest}
use Rattle.gl_world.specs.Machine.{edges_due}
use Rattle.gl_world.specs.Keeping.{with_body}
use Rattle.gl_engine.specs.bodies.Sparing.{HasAdded}
use Rattle.gl_engine.proofs.Sparing.{nothing_added}
use Rattle.gl_engine.proofs.lane_input.add_due.Goals as goal

pub returns-in-Happened-clause-added : goal.returns-in-Happened-clause-added
returns-in-Happened-clause-added c = λ es before.
    subst (λ body. OnOk c.add.result (HasAdded c.args.thread (edges_due c.args.thread (with_body es body) (length es) body) c.args.making.now c.add.new.self)) (sym c.in-Happened.is)
    (subst (λ pairs. OnOk c.add.result (HasAdded c.args.thread pairs c.args.making.now c.add.new.self)) (sym (newest c.args.thread es c.in-Happened.event)) (c.add.ensures.added es before))

pub returns-in-Ended-clause-added : goal.returns-in-Ended-clause-added
returns-in-Ended-clause-added c = λ es before.
    nothing_added c.args.thread _ c.args.making.now (ap (λ body. edges_due c.args.thread (with_body es body) (length es) body) c.in-Ended.is)
