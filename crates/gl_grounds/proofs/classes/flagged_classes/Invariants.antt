use Rattle.std.proofs.Common.{◌≡◌, length}
use Rattle.gl_grounds.specs.bodies.Classing.{AreFlaggedBefore}
use Rattle.gl_grounds.proofs.classes.flagged_classes.Given as goal

-- the flagged edges so far have their classes flagged
abbrev pub invariant-loop-i : goal.invariant-loop-i
invariant-loop-i l = record {
  long : length l.occurs.items ≡ length l.classes;
  flagged : AreFlaggedBefore l.i l.classes l.flags l.occurs.items;
}
