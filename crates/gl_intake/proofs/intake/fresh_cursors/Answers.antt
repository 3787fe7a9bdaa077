use Rattle.std.proofs.Common.{[], false, refl, sym, subst, ◌∙◌, arith}
use Rattle.gl_recorder.specs.Taking.{Tracks}
use Rattle.gl_intake.specs.declared.intake.ThreadCursor.{ThreadCursor}
use Rattle.gl_intake.proofs.Fresh.{all_cursors, count_new, each_new, IsFreshCursor}
use Rattle.gl_intake.proofs.intake.fresh_cursors.Goals as goal

pub loop-thread-preserved : goal.loop-thread-preserved
loop-thread-preserved c =
    let limits = c.args.limits.now in
    let cursors = c.loop-thread.cursors.items in
    let cursor : ThreadCursor = record { taker = c.new-in-loop-thread.result; has_ended = false } in
    let number = c.new.ensures ∙ sym c.loop-thread.invariant.count in
    record {
      count = count_new cursors c.push.new.self.items cursor c.loop-thread.thread c.in_ok-push.ensures.items c.loop-thread.invariant.count;
      each = each_new (IsFreshCursor limits) cursors c.push.new.self.items cursor c.in_ok-push.ensures.items c.loop-thread.invariant.each (subst (λ n. Tracks limits n [] cursor.taker) number c.new-in-loop-thread.ensures.tracks, refl);
    }

pub returns : goal.returns
returns c = all_cursors _ _ (omega (arith, c.threads-threads.ensures.value)) c.loop-thread.invariant.each
