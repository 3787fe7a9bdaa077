use Rattle.std.proofs.Common.{[]}
use Rattle.gl_filters.specs.Picked.{edges_of_table}
use Rattle.gl_loops.proofs.Lone.{left_out_later, stay_from_none}
use Rattle.gl_pruning.proofs.reasons.kept_at_first.Goals as goal

-- what is alone among all edges is so among those that were kept before
pub returns-clause-alone : goal.returns-clause-alone
returns-clause-alone c =
    let kept = c.leave_out_by_epochs.new.kept.items in
    left_out_later (edges_of_table c.args.sought.now.table.now) [] kept c.leave_out_alone.new.kept.items (stay_from_none kept) c.in_ok-leave_out_alone.ensures.alone
