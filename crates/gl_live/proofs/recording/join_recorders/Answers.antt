use Rattle.std.proofs.Common.{◌≡◌}
use Rattle.gl_event.specs.Lawful.{lists_of}
use Rattle.gl_live.proofs.Rostered.{first_all, rest_all, left_receipts}
use Rattle.gl_live.proofs.recording.join_recorders.Goals as goal

pub loop-recorder-preserved : goal.loop-recorder-preserved
loop-recorder-preserved g c =
    let was = c.loop-recorder.invariant in
    let steps = c.in-Some.ensures.steps in record {
      next = tt;
      finite = tt;
      left = λ session lists given. rest_all steps.0 (λ h. (h.promise.collector.value ≡ session) × (lists_of h.promise.lists.now ≡ lists)) (was.left session lists given);
      kept = λ session lists given none.
          (let first = first_all steps.0 (λ h. (h.promise.collector.value ≡ session) × (lists_of h.promise.lists.now ≡ lists)) (was.left session lists given) in
          left_receipts _ session _ lists c.join-left.result.items c.loop-recorder.receipts.items c.append.new.self.items first.0 first.1 c.in_ok-append.ensures.items c.join-left.ensures (was.kept session lists given none));
    }
