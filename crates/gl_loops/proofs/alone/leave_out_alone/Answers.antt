use Rattle.gl_filters.specs.Picked.{edges_of_table}
use Rattle.gl_sought.proofs.Fewer.{goes_on_further}
use Rattle.gl_loops.proofs.Lone.{left_out_later}
use Rattle.gl_loops.proofs.alone.leave_out_alone.Goals as goal

-- none was left out in the last pass
pub returns-then-not-branch-clause-alone : goal.returns-then-not-branch-clause-alone
returns-then-not-branch-clause-alone c =
    left_out_later (edges_of_table c.args.sought.now.table.now) c.args.kept.now.items c.loop-pass.kept.items c.leave_out_each_alone.new.kept.items c.loop-pass.invariant.goes_on.stay c.in_ok-leave_out_each_alone.ensures.alone

-- one pass more
pub loop-pass-preserved : goal.loop-pass-preserved
loop-pass-preserved c =
    let before = c.args.kept.now.items in
    let now = c.loop-pass.kept.items in
    let after = c.leave_out_each_alone.new.kept.items in record {
      goes_on = goes_on_further c.args.sought.now before now after c.loop-pass.invariant.goes_on c.in_ok-leave_out_each_alone.ensures.goes_on;
      alone = λ _. left_out_later (edges_of_table c.args.sought.now.table.now) before now after c.loop-pass.invariant.goes_on.stay c.in_ok-leave_out_each_alone.ensures.alone;
    }
