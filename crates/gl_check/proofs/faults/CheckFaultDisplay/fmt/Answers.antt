use Rattle.gl_check.proofs.faults.CheckFaultDisplay.fmt.Goals as goal

pub returns-in-Edge-clause-writes : goal.returns-in-Edge-clause-writes
returns-in-Edge-clause-writes g c = rw c.in-Edge.is c.write-in-Edge.ensures.writes

pub returns-in-Verdict-clause-writes : goal.returns-in-Verdict-clause-writes
returns-in-Verdict-clause-writes g c = rw c.in-Verdict.is c.write-in-Verdict.ensures.writes
