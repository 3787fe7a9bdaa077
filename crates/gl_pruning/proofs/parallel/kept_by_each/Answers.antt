use Rattle.gl_segments.specs.Clocks.{is_before}
use Rattle.gl_filters.specs.Picked.{edges_of_table}
use Rattle.gl_sought.specs.OffCycles.{KeepsCycles}
use Rattle.gl_sought.proofs.Answered.{if_ok, all_pieces}
use Rattle.gl_pruning.proofs.parallel.kept_by_each.Goals as goal

-- each part leaves out only edges that are in no cycle
pub returns : goal.returns
returns g c =
    let s = c.args.sought.now in
    let h = c.in_ok-found.ensures in
    let chain = rw (c.with_min_len.ensures.base, c.map.ensures.base, c.map.ensures.f) at h.1 in
    if_ok c.in_ok-found.found _ _ _ h.2
    (λ v is. rw is.2 (all_pieces _ (λ stay. KeepsCycles (is_before s.order.now) s.mode s.len (edges_of_table s.table.now) stay.items) chain.0 is.0 (rw is.1 at chain.2)))
