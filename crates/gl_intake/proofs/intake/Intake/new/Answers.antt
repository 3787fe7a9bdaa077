use Rattle.gl_intake.proofs.Fresh.{none_ended}
use Rattle.gl_intake.proofs.Order.{AreInOrder-nil}
use Rattle.gl_intake.proofs.intake.Intake.new.Goals as goal

pub invariant_of-result : goal.invariant_of-result
invariant_of-result c = rw c.new.ensures.items (record {
  logs_are = rw c.threads.ensures.value at c.in_ok-logs.ensures;
  cursors_are = c.in_ok-cursors.ensures;
  no_stranger = λ thread _. none_ended thread;
  in_order = AreInOrder-nil _;
  range = c.threads.ensures.within;
})
