use Rattle.std.proofs.Common.{arith}
use Rattle.gl_intake.proofs.Fresh.{all_logs, count_new, each_new, IsEmptyLog}
use Rattle.gl_intake.proofs.intake.empty_logs.Goals as goal

pub loop-thread-preserved : goal.loop-thread-preserved
loop-thread-preserved c =
    let logs = c.loop-thread.logs.items in
    record {
      count = count_new logs c.push.new.self.items c.new.result c.loop-thread.thread c.in_ok-push.ensures.items c.loop-thread.invariant.count;
      each = each_new IsEmptyLog logs c.push.new.self.items c.new.result c.in_ok-push.ensures.items c.loop-thread.invariant.each c.new.ensures.items;
    }

pub returns : goal.returns
returns c = all_logs _ _ (omega arith) c.loop-thread.invariant.each
