use Rattle.std.proofs.Common.{arith}
use Rattle.gl_filters.specs.Picked.{edges_of_table}
use Rattle.gl_grounds.proofs.PassageSteps.{of_all}
use Rattle.gl_grounds.proofs.passages.Passages.of.Goals as goal

pub returns : goal.returns
returns c = of_all (edges_of_table c.args.table.now) c.args.classes.now c.args.flags.now c.loop-i.passages c.loop-i.i (omega (arith, c.loop-i-test.false, c.requires.flags)) c.loop-i.invariant
