use Rattle.gl_segments.specs.Clocks.{is_before}
use Rattle.gl_filters.specs.Picked.{edges_of_table}
use Rattle.gl_pruning.proofs.InShares.{keeps_longer}
use Rattle.gl_pruning.proofs.reasons.kept_within.Goals as goal

-- no cycle is longer than the paths that are looked at
pub returns : goal.returns
returns c =
    let s = c.args.sought.now in
    let e = c.in_ok-shorter.ensures in
    keeps_longer (is_before s.order.now) s.mode s.len c.in_ok-shorter.shorter.len (edges_of_table s.table.now) c.leave_out_by_reasons.new.kept.items e.all
    (rw (e.table, e.order, e.mode) at c.in_ok-leave_out_by_reasons.ensures.keeps)
