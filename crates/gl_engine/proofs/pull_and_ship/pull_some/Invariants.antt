use Rattle.std.proofs.Common.{◌≡◌, map}
use Rattle.gl_engine.specs.Collecting.{IsTurn}
use Rattle.gl_engine.specs.Dealing.{made_by}
use Rattle.gl_engine.specs.Keeping.{IsCollector}
use Rattle.gl_engine.specs.bodies.Sparing.{AddsEdges}
use Rattle.gl_engine.specs.bodies.Whole.{lane_of, HasMoved}
use Rattle.gl_engine.proofs.pull_and_ship.pull_some.Given as goal

-- the edges of the notes so far were added, and it is known whether there was one
abbrev pub invariant-loop : goal.invariant-loop
invariant-loop l = record {
  keeps : IsCollector l.fn.intake.limits l.inputs.items l.intake.stream (made_by l.intake.stream) l.fn.intake.limits;
  added : AddsEdges l.fn.intake.stream l.fn.making l.intake.stream l.making;
  limits : l.intake.limits ≡ l.fn.intake.limits;
  lanes : map lane_of l.inputs.items ≡ map lane_of l.fn.inputs.items;
  grown : IsTurn l.counter l.thread l.fn.intake.stream l.intake.stream;
  moved : HasMoved l.fn.intake.stream l.intake.stream l.moved;
}
