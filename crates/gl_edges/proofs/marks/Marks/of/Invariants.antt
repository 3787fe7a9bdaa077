use Rattle.std.proofs.Common.{take}
use Rattle.gl_edges.specs.bodies.Marking.{AreMarksOf}
use Rattle.gl_edges.proofs.marks.Marks.of.Given as goal

-- they are those of the guards so far
abbrev pub invariant-loop-guard : goal.invariant-loop-guard
invariant-loop-guard l = AreMarksOf l.marks (take l.guard-index l.guards)
