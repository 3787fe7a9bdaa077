use Rattle.std.proofs.Common.{length, below_more, arith}
use Rattle.gl_segments.specs.Clocks.{is_before}
use Rattle.gl_filters.specs.Picked.{edges_of_table, picked}
use Rattle.gl_filters.specs.Verdicts.{IsFree}
use Rattle.gl_filters.specs.bodies.Clashing.{clashes}
use Rattle.gl_filters.proofs.Judged.{picked_length}
use Rattle.gl_filters.proofs.verdict.first_pair.Goals as goal

pub loop-i-preserved : goal.loop-i-preserved
loop-i-preserved c =
    below_more (λ k. IsFree (clashes (is_before c.args.order.now) c.args.clash) (picked (edges_of_table c.args.table.now) c.args.cycle.now) k (length (picked (edges_of_table c.args.table.now) c.args.cycle.now))) c.loop-i.i c.loop-i.invariant
    c.in_default.ensures

pub returns : goal.returns
returns c = λ i within.
    let same = picked_length c.args.table.now c.args.cycle.now c.requires.within in
    c.loop-i.invariant i (omega (arith, same, c.loop-i-test.false))
