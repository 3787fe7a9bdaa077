use Rattle.std.proofs.Common.{◌≡◌, ◌∙◌, subst}
use Rattle.std.specs.Prelude.{IfOk}
use Rattle.gl_engine.proofs.Confirming.{union_sent}
use Rattle.gl_engine.proofs.settled.Settled.edges.Goals as goal

pub returns-clause-recorded : goal.returns-clause-recorded
returns-clause-recorded c receipts sent settled are =
    subst (λ pairs. IfOk c.merge.result (λ list. list ≡ pairs)) (union_sent c.args.tables.items sent are ∙ settled.edges_are) c.merge.ensures
