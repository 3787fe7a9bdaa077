use Rattle.std.proofs.Common.{◌≡◌, map, length}
use Rattle.gl_engine.specs.bodies.Breaking.{HandOver}
use Rattle.gl_engine.specs.bodies.Whole.{lane_of}
use Rattle.gl_engine.proofs.discarding.discard_round.Given as goal

-- the lanes stay where they are, and hand over more at most
abbrev pub invariant-loop-index : goal.invariant-loop-index
invariant-loop-index l = record {
  lanes : map lane_of l.inputs.items ≡ map lane_of l.fn.inputs.items;
  count : length l.inputs.items ≡ length l.fn.inputs.items;
  handed : HandOver l.fn.inputs.items l.inputs.items;
}
