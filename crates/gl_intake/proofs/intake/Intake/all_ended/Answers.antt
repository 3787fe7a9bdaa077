use Rattle.std.proofs.Common.{refl, arith}
use Rattle.gl_intake.proofs.Streams.{all_cursors_ended}
use Rattle.gl_intake.proofs.intake.Intake.all_ended.Goals as goal

pub returns : goal.returns
returns c =
    let say = rw c.deref-cursor-items.ensures.value at c.loop-cursor.invariant in
    rw (← c.self.view_is) (λ _. all_cursors_ended _ _ _ c.self.invariant.cursors_are c.loop-cursor.cursor-index (omega (arith, c.deref-cursor-items.ensures.len)) say, λ _. refl)
