use Rattle.std.proofs.Common.{take}
use Rattle.gl_cycles.specs.Cycles.{cycles_in}
use Rattle.gl_findings.specs.bodies.Grouping.{AreFirsts}
use Rattle.gl_findings.proofs.grouped.firsts_of.Given as goal

-- the first cycles of those so far
abbrev pub invariant-loop-i : goal.invariant-loop-i
invariant-loop-i l = AreFirsts l.classes (take l.i (cycles_in l.cycles)) l.firsts
