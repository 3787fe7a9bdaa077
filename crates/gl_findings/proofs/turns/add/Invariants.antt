use Rattle.std.proofs.Common.{◌≡◌, ◌++◌, take}
use Rattle.gl_findings.proofs.turns.add.Given as goal

-- the classes so far
abbrev pub invariant-loop-class : goal.invariant-loop-class
invariant-loop-class l = l.classes.items ≡ l.initial.classes.items ++ take l.class-index l.more
