use Rattle.gl_report.specs.Tree.{lock_mode_tree}
use Rattle.gl_report.proofs.Trees.{mapped_more}
use Rattle.gl_report.proofs.values.guard_mode_values.Goals as goal

pub loop-guard-preserved : goal.loop-guard-preserved
loop-guard-preserved c =
    mapped_more (λ guard. lock_mode_tree guard.mode) _ _ c.args.guards.now c.loop-guard.guard-index c.guard-item.result _ c.loop-guard-test.true c.guard-item.is c.loop-guard.invariant
    c.in_ok-push_lock_mode.ensures
