use Rattle.std.proofs.Common.{length}
use Rattle.gl_grounds.specs.bodies.Classing.{AreNextFrom}
use Rattle.gl_grounds.proofs.classes.nexts_of.Given as goal

-- the places from m on have their next one
abbrev pub invariant-loop-m : goal.invariant-loop-m
invariant-loop-m l = AreNextFrom l.m (length l.occurs) l.occurs l.nexts.items
