use Rattle.std.proofs.Common.{sym, ◌∙◌}
use Rattle.gl_segments.specs.Clocks.{is_before}
use Rattle.gl_filters.specs.Test.{goes_with}
use Rattle.gl_cycles.proofs.EdgesOfPaths.{all_more, all_not}
use Rattle.gl_cycles.proofs.paths.Searcher.goes_with_all.Goals as goal

-- one doesn't go with the edge
pub returns-then-not-goes_with : goal.returns-then-not-goes_with
returns-then-not-goes_with c =
    sym (all_not c.args.self.now.table.now c.args.path.now c.requires.within (λ e. goes_with (is_before c.args.self.now.order.now) c.args.self.now.mode e c.args.edge.now)
    c.loop-i.i-index _ c.loop-i-test.true (sym c.goes_with.ensures ∙ c.if-not-goes_with.true))

-- one more goes with it
pub loop-i-preserved : goal.loop-i-preserved
loop-i-preserved c =
    all_more c.args.self.now.table.now c.args.path.now c.requires.within (λ e. goes_with (is_before c.args.self.now.order.now) c.args.self.now.mode e c.args.edge.now)
    c.loop-i.i-index _ c.loop-i-test.true c.loop-i.invariant (sym c.goes_with.ensures ∙ c.if-not-goes_with.false)
