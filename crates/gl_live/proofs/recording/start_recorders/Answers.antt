use Rattle.std.proofs.Common.{◌≡◌, length, ap, arith}
use Rattle.std.proofs.lemmas.List.{length_push}
use Rattle.gl_event.specs.Lawful.{lists_of}
use Rattle.gl_live.specs.bodies.Workloads.{IsWorkloadOf}
use Rattle.gl_live.specs.bodies.Rosters.{roster_of}
use Rattle.gl_live.proofs.Rostered.{rest_of_all, all_more}
use Rattle.gl_live.proofs.recording.start_recorders.Goals as goal

pub loop-workload-preserved : goal.loop-workload-preserved
loop-workload-preserved g c =
    let was = c.loop-workload.invariant in
    let steps = c.in-Some.ensures.steps in record {
      next = tt;
      finite = tt;
      counted = omega (arith, was.counted, steps.1, ap length steps.0);
      whole = omega (arith, was.whole, ap length steps.0, ap length c.keep.ensures.items, length_push c.loop-workload.recorders.items c.in-Some-start_recorder.recorder);
      room = omega (arith, was.room, ap length steps.0, c.keep.ensures.len, c.keep.ensures.capacity);
      left = rest_of_all (IsWorkloadOf (roster_of c.args.collector.now)) _ _ _ steps.0 was.left;
      started =
          all_more c.loop-workload.recorders.items c.in-Some-start_recorder.recorder c.keep.new.list.items (λ h. (h.promise.collector.value ≡ c.args.collector.now) × (lists_of h.promise.lists.now ≡ lists_of c.args.lists.now)) c.keep.ensures.items
          (c.in-Some-start_recorder.ensures.collector, ap lists_of c.in-Some-start_recorder.ensures.lists) was.started;
    }
