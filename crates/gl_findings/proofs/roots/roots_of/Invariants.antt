use Rattle.std.proofs.Common.{length, ◌-◌}
use Rattle.gl_findings.proofs.Dealt.{AreRoots}
use Rattle.gl_findings.proofs.roots.roots_of.Given as goal

-- the classes that have a model, before the next one
abbrev pub invariant-loop-next : goal.invariant-loop-next
invariant-loop-next l = AreRoots l.finder l.roots.items l.next

-- how many classes are left
abbrev pub decreases-loop-next : goal.decreases-loop-next
decreases-loop-next l = length l.finder.table.now - l.next
