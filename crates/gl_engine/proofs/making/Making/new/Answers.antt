use Rattle.gl_engine.proofs.Sparing.{unknown_more}
use Rattle.gl_engine.proofs.making.Making.new.Goals as goal

pub loop-number-preserved : goal.loop-number-preserved
loop-number-preserved c = record {
  unknown = rw c.in_ok-push.ensures.items (unknown_more c.loop-number.acquires.items c.loop-number.invariant.unknown c.new-in-loop-number.result c.new-in-loop-number.ensures);
}
