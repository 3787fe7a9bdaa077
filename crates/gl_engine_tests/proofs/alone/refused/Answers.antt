use Rattle.gl_engine_tests.proofs.alone.refused.Goals as goal

pub returns-clause-same : goal.returns-clause-same
returns-clause-same c = c.why_of.ensures c.args.collector c.args.receipts.now c.in-Err.ensures.fault
