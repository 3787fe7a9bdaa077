use Rattle.gl_std.proofs.judge.Judge.judge_numbered.Goals as goal

pub returns-in-Call-clause-judges : goal.returns-in-Call-clause-judges
returns-in-Call-clause-judges c = rw c.in-Call.is c.judge_call.ensures.judges
