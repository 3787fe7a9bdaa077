use Rattle.gl_findings.specs.bodies.Lengths.{AreGreatestBefore}
use Rattle.gl_findings.proofs.lengths.longest_of.Given as goal

-- the classes of the edges so far have no lesser numbers than these
abbrev pub invariant-loop-i : goal.invariant-loop-i
invariant-loop-i l = AreGreatestBefore l.i l.classes l.limits l.longest.items
