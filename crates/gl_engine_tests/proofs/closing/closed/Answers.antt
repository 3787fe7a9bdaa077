use Rattle.gl_engine_tests.proofs.Ours.{all_ours}
use Rattle.gl_engine_tests.proofs.closing.closed.Goals as goal

pub returns-clause-ours : goal.returns-clause-ours
returns-clause-ours c =
    all_ours c.args.number c.in_ok-limits.limits c.in-Ok.recorders.items c.in-Ok.collector c.in_ok-receipts.receipts.items c.in-Ok.ensures c.in_ok-receipts.ensures
