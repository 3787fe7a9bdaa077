use Rattle.std.proofs.Common.{◌≡◌, map, take}
use Rattle.std.specs.HashMap.{get}
use Rattle.gl_grounds.specs.Classes.{class_of, are_places}
use Rattle.gl_grounds.specs.bodies.Classing.{AreFirsts}
use Rattle.gl_grounds.proofs.classes.classes_of.Given as goal

-- the map knows the first position of each two places so far
abbrev pub invariant-loop-i : goal.invariant-loop-i
invariant-loop-i l = record {
  classes : l.classes.items ≡ map (class_of l.table) (take l.i l.table);
  firsts : AreFirsts (take l.i l.table) (get are_places l.first);
}
