use Rattle.std.proofs.lemmas.Option.{slice_get_within}
use Rattle.gl_event.proofs.HeldAnswers.{answers_closed, answers_shallower, answers_unheld}
use Rattle.gl_event.proofs.held.Held.release.Goals as goal

-- the lock is no longer held
pub returns-then-entry-le1-clause-answers : goal.returns-then-entry-le1-clause-answers
returns-then-entry-le1-clause-answers c =
    λ es stands. rw c.take_out.ensures (answers_closed es _ stands _ c.in-Some.entry c.in-Some.ensures.0 _ c.in-Some.ensures.1 c.if-entry-le1.true)

pub put-requires : goal.put-requires
put-requires c = slice_get_within _ _ _ c.in-Some.ensures.0

-- the lock gets one less deep
pub returns-else-entry-le1-clause-answers : goal.returns-else-entry-le1-clause-answers
returns-else-entry-le1-clause-answers c =
    λ es stands. rw c.put.ensures (answers_shallower es _ stands _ c.in-Some.entry c.in-Some.ensures.0 _ c.in-Some.ensures.1 c.if-entry-le1.false)

-- no entry is the lock's
pub returns-in-None-clause-answers : goal.returns-in-None-clause-answers
returns-in-None-clause-answers c = λ es stands. answers_unheld es _ stands _ c.in-None.ensures _
