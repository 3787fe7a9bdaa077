use Rattle.std.proofs.Common.{[]}
use Rattle.gl_filters.specs.Picked.{edges_of_table}
use Rattle.gl_loops.proofs.Lone.{stays_left_out}
use Rattle.gl_pruning.proofs.reasons.kept_edges.Goals as goal

-- what was left out at first stays so
pub returns-clause-alone : goal.returns-clause-alone
returns-clause-alone c =
    stays_left_out (edges_of_table c.args.sought.now.table.now) [] c.in_ok-kept.kept.items c.leave_out_in_turn.new.kept.items c.in_ok-kept.ensures.alone c.in_ok-leave_out_in_turn.ensures.stay
