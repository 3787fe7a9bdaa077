use Rattle.std.proofs.Common.{◌∷◌, [], ◌++◌, ap, ◌∙◌, map}
use Rattle.serde_json.specs.View.{view}
use Rattle.gl_report.specs.Tree.{positions_tree}
use Rattle.gl_report.proofs.Trees.{shown_more}
use Rattle.gl_report.proofs.listed.cycle_values.Goals as goal

pub loop-cycle-preserved : goal.loop-cycle-preserved
loop-cycle-preserved c =
    shown_more positions_tree (λ cycle. cycle.items) _ _ c.args.cycles.now c.loop-cycle.cycle-index c.cycle-item.result c.cycle-item.result c.loop-cycle-test.true c.cycle-item.is
    c.loop-cycle.invariant
    (c.in_ok-push_cycle.ensures ∙ ap (λ l. map view c.loop-cycle.values.items ++ positions_tree l ∷ []) c.as_slice.ensures.value)
