use Rattle.std.proofs.Common.{arith}
use Rattle.gl_world.proofs.dispatcher.Dispatcher.is_done.Goals as goal

pub returns : goal.returns
returns c =
    let told = rw c.as_slice.ensures.value at c.are_worked.ensures in
    rw (← c.self.view_is)
    (λ yes. record { all_sent = omega (arith, c.if-self-len.false, c.len.ensures); all_worked = told.0 yes }, λ done. told.1 done.all_worked)
