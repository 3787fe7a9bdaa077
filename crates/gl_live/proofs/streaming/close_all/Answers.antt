use Rattle.std.proofs.Common.{length, ap, arith}
use Rattle.gl_live.specs.bodies.Streams.{HasTaken}
use Rattle.gl_live.proofs.Following.{receipt_taken}
use Rattle.gl_live.proofs.Rostered.{first_of_all, rest_of_all, receipts_more}
use Rattle.gl_live.proofs.streaming.close_all.Goals as goal

pub loop-recorder-preserved-in-Some-close_wait : goal.loop-recorder-preserved-in-Some-close_wait
loop-recorder-preserved-in-Some-close_wait g c =
    let was = c.loop-recorder.invariant in
    let steps = c.in-Some.ensures.steps in record {
      next = tt;
      finite = tt;
      counted = omega (arith, was.counted, steps.1, ap length steps.0);
      room = omega (arith, was.room, ap length steps.0, c.keep.ensures.len, c.keep.ensures.capacity);
      left = λ s lists given. rest_of_all (HasTaken s lists) _ _ _ steps.0 (was.left s lists given);
      kept = λ s lists given none.
          receipts_more s lists _ c.in-Some-close_wait.receipt _ c.keep.ensures.items
          (receipt_taken s lists _ c.in-Some-close_wait.receipt c.in-Some-close_wait.ensures.identity c.in-Some-close_wait.ensures.all (first_of_all (HasTaken s lists) _ _ _ steps.0 (was.left s lists given)))
          (was.kept s lists given none);
    }

pub loop-recorder-preserved : goal.loop-recorder-preserved
loop-recorder-preserved g c =
    let was = c.loop-recorder.invariant in
    let steps = c.in-Some.ensures.steps in record {
      next = tt;
      finite = tt;
      counted = omega (arith, was.counted, steps.1, ap length steps.0);
      room = omega (arith, was.room, ap length steps.0);
      left = λ s lists given. rest_of_all (HasTaken s lists) _ _ _ steps.0 (was.left s lists given);
      kept = was.kept;
    }
