use Rattle.std.proofs.Common.{arith, ◌∙◌}
use Rattle.gl_c.proofs.ThreadNames.{next_named}
use Rattle.gl_c.proofs.opening.thread_names.Goals as goal

pub loop-thread-preserved : goal.loop-thread-preserved
loop-thread-preserved c =
    let (threads, locks, places) = c.loop-thread.invariant in (
      c.in_ok-name_thread.ensures.named ∙ next_named _ c.loop-thread.thread (omega arith) threads,
      c.name_thread.ensures.locks ∙ locks,
      c.name_thread.ensures.places ∙ places,
    )
