use Rattle.std.proofs.Common.{take}
use Rattle.gl_edges.specs.Numbered.{guards_in}
use Rattle.gl_edges.specs.bodies.Numberers.{IsNumbering}
use Rattle.gl_edges.proofs.guard_sets.GuardSets.of.Given as goal

-- the guard sets so far are numbered
abbrev pub invariant-loop-i : goal.invariant-loop-i
invariant-loop-i l = IsNumbering (take l.i (guards_in l.pairs)) l.numberer
