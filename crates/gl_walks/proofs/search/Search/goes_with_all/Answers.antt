use Rattle.std.proofs.Common.{sym, ◌∙◌}
use Rattle.gl_segments.specs.Clocks.{is_before}
use Rattle.gl_walks.specs.bodies.Fronts.{goes_by}
use Rattle.gl_walks.proofs.Places.{all_more, all_not}
use Rattle.gl_walks.proofs.search.Search.goes_with_all.Goals as goal

-- one doesn't go with the edge
pub returns-then-not-go_together : goal.returns-then-not-go_together
returns-then-not-go_together c =
    let s = c.args.self.now in
    sym (all_not s.area.table.now c.args.path.now c.requires.within (λ e. goes_by c.args.purpose (is_before s.area.order.now) s.area.mode e c.args.edge.now)
    c.loop-i.i-index _ c.loop-i-test.true (sym c.go_together.ensures ∙ c.if-not-go_together.true))

-- one more goes with it
pub loop-i-preserved : goal.loop-i-preserved
loop-i-preserved c =
    let s = c.args.self.now in
    all_more s.area.table.now c.args.path.now c.requires.within (λ e. goes_by c.args.purpose (is_before s.area.order.now) s.area.mode e c.args.edge.now)
    c.loop-i.i-index _ c.loop-i-test.true c.loop-i.invariant (sym c.go_together.ensures ∙ c.if-not-go_together.false)
