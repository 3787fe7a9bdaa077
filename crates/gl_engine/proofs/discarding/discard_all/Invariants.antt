use Rattle.std.proofs.Common.{◌≡◌, map}
use Rattle.gl_engine.specs.bodies.Breaking.{HandOver}
use Rattle.gl_engine.specs.bodies.Whole.{lane_of}
use Rattle.gl_engine.proofs.discarding.discard_all.Given as goal

-- the lanes stay where they are, and hand over more at most
abbrev pub invariant-loop : goal.invariant-loop
invariant-loop g l = record {
  lanes : map lane_of l.inputs.items ≡ map lane_of l.fn.inputs.items;
  handed : HandOver l.fn.inputs.items l.inputs.items;
  next : (goal.iterator-loop g).can_next l.iterator';
  finite : (goal.iterator-loop g).is_finite l.iterator';
}
