use Rattle.std.proofs.Common.{length, ap, arith}
use Rattle.gl_event.specs.Lawful.{lists_of}
use Rattle.gl_live.specs.bodies.Rosters.{IsRecorderOf}
use Rattle.gl_live.proofs.Rostered.{first_of_all, rest_of_all, receipts_more}
use Rattle.gl_live.proofs.recording.record_all.Goals as goal

pub loop-recorder-preserved-in-Some-record_own : goal.loop-recorder-preserved-in-Some-record_own
loop-recorder-preserved-in-Some-record_own g c =
    let was = c.loop-recorder.invariant in
    let steps = c.in-Some.ensures.steps in record {
      next = tt;
      finite = tt;
      counted = omega (arith, was.counted, steps.1, ap length steps.0);
      room = omega (arith, was.room, ap length steps.0, c.keep.ensures.len, c.keep.ensures.capacity);
      left = λ s ours. rest_of_all (IsRecorderOf s) _ _ _ steps.0 (was.left s ours);
      kept = λ s ours none.
          receipts_more s (lists_of c.args.lists.now) _ c.in-Some-record_own.receipt _ c.keep.ensures.items (c.in-Some-record_own.ensures s (first_of_all (IsRecorderOf s) _ _ _ steps.0 (was.left s ours))) (was.kept s ours none);
    }

pub loop-recorder-preserved : goal.loop-recorder-preserved
loop-recorder-preserved g c =
    let was = c.loop-recorder.invariant in
    let steps = c.in-Some.ensures.steps in record {
      next = tt;
      finite = tt;
      counted = omega (arith, was.counted, steps.1, ap length steps.0);
      room = omega (arith, was.room, ap length steps.0);
      left = λ s ours. rest_of_all (IsRecorderOf s) _ _ _ steps.0 (was.left s ours);
      kept = was.kept;
    }
