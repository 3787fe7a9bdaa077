use Rattle.gl_engine_tests.proofs.sessions.refused.Goals as goal

pub returns-clause-same : goal.returns-clause-same
returns-clause-same c = c.why_of.ensures c.args.gathered c.args.receipts.now c.in-Err.ensures.fault
