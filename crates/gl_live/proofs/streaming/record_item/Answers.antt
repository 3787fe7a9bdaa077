use Rattle.std.proofs.Common.{length, sym, subst}
use Rattle.gl_live.specs.bodies.Streams.{AreRecorded}
use Rattle.gl_live.proofs.Following.{told_lists}
use Rattle.gl_live.proofs.streaming.record_item.Goals as goal

pub returns-in-Some-clause-recorded : goal.returns-in-Some-clause-recorded
returns-in-Some-clause-recorded g c = λ s names told known are.
    let thread = c.in-Some.thread in
    let event = c.in-Some.event in
    let told_by = sym c.in-Some.ensures in
    subst (λ lists. AreRecorded s lists c.record_one.new.recorders.items) (sym (told_lists c.args.item names told thread event told_by))
    (c.record_one.ensures.recorded s told.lists (length names.threads) (known thread event told_by) are)
