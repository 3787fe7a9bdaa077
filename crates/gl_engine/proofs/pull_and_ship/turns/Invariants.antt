use Rattle.std.proofs.Common.{◌≡◌, map}
use mathlib.Core.List.{IsPrefix}
use Rattle.gl_engine.specs.bodies.Whole.{lane_of, HasMoved, HasNoneLeft, KeepsUp}
use Rattle.gl_engine.proofs.pull_and_ship.turns.Given as goal

-- the run has kept up, lanes and feeds stay, and it is known whether a note was pulled
abbrev pub invariant-loop : goal.invariant-loop
invariant-loop g l = record {
  keeps : KeepsUp l.fn.making.spares l.fn.intake.limits l.inputs.items l.intake.stream l.outlets.items;
  limits : l.intake.limits ≡ l.fn.intake.limits;
  lanes : map lane_of l.inputs.items ≡ map lane_of l.fn.inputs.items;
  feeds : map (λ o. o.feed) l.outlets.items ≡ map (λ o. o.feed) l.fn.outlets.items;
  grown : IsPrefix l.fn.intake.stream l.intake.stream;
  left : HasNoneLeft l.intake.stream l.making;
  spares : l.making.spares ≡ l.fn.making.spares;
  moved : HasMoved l.fn.intake.stream l.intake.stream l.moved;
}
