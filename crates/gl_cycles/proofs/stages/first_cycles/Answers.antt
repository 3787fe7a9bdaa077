use Rattle.std.specs.Prelude.{⊤}
use Rattle.gl_sought.proofs.Answered.{if_ok}
use Rattle.gl_cycles.specs.Cycles.{cycles_in}
use Rattle.gl_cycles.proofs.NoLonger.{AreFirst, first_of_shorter}
use Rattle.gl_cycles.proofs.stages.first_cycles.Goals as goal

pub returns : goal.returns
returns c =
    let shorter = c.in_ok-shorter.ensures in
    if_ok c.first_among.result (λ found. AreFirst c.in_ok-shorter.shorter c.args.cap (cycles_in found.items)) (λ found. AreFirst c.args.sought.now c.args.cap (cycles_in found.items)) (λ _. ⊤) c.first_among.ensures
    (λ found are. first_of_shorter c.args.sought.now c.in_ok-shorter.shorter c.args.cap (cycles_in found.items) shorter.table shorter.order shorter.mode shorter.short shorter.all are)
