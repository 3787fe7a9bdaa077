use Rattle.std.proofs.Common.{arith}
use Rattle.gl_filters.proofs.Judged.{picked_length}
use Rattle.gl_filters.proofs.verdict.first_after.Goals as goal

pub returns : goal.returns
returns c = λ j e f later below one other.
    let same = picked_length c.args.table.now c.args.cycle.now c.requires.within in
    c.loop-j.invariant j e f later (omega (arith, same, c.loop-j-test.false)) one other
