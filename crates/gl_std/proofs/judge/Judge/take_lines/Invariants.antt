use Rattle.std.proofs.Common.{◌≡◌, ◌+◌, map, take}
use Rattle.gl_std.specs.bodies.Blocks.{shape_in, GoOn, HasTakenShapes, IsKnownOf}
use Rattle.gl_std.specs.bodies.States.{HasJudged, IsSound}
use Rattle.gl_std.specs.declared.trace.Trace.{Trace}
use Rattle.gl_std.proofs.judge.Judge.take_lines.Given as goal

abbrev pub invariant-loop-i : goal.invariant-loop-i
invariant-loop-i l = record {
  taken : (told : Trace) → HasJudged l.initial.self told → l.initial.lists ≡ told.lists
      → HasTakenShapes l.initial.self.limits l.initial.self.line told (map (shape_in l.names) (take l.i l.lines)) l.self l.lists;
  known : IsKnownOf l.names l.self.names l.known;
  sound : IsSound l.self;
  limits : l.self.limits ≡ l.initial.self.limits;
  grows : GoOn l.initial.self.names l.self.names;
  line : l.self.line ≡ l.initial.self.line + l.i;
}
