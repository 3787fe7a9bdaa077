use Rattle.std.proofs.Common.{◌≡◌, get_or, sym, ◌∙◌}
use Rattle.std.proofs.lemmas.Bool.{eqb-true}
use Rattle.gl_segments.specs.Clocks.{is_before}
use Rattle.gl_filters.specs.Picked.{edges_of_table}
use Rattle.gl_filters.specs.Test.{goes_with}
use Rattle.gl_cycles.proofs.BelowFronts.{same_held}
use Rattle.gl_cycles.proofs.EdgesOfPaths.{all_not}
use Rattle.gl_cycles.proofs.paths.Searcher.is_held.Goals as goal

-- this edge holds it
pub returns-then-eq : goal.returns-then-eq
returns-then-eq c = λ _ g is.
    let s = c.args.self.now in
    let table = s.table.now in
    let path = c.args.path.now in
    let here = (get_or table (get_or path c.loop-i.i-index 0) c.index-self-i.result).0 in
    let same : here.held ≡ c.args.lock = eqb-true _ _ (sym c.eq.ensures ∙ c.if-eq.true) in
    all_not table path c.requires.within (λ e. goes_with (is_before s.order.now) s.mode e g) c.loop-i.i-index c.index-self-i.result c.loop-i-test.true
    (same_held (is_before s.order.now) s.mode (edges_of_table table) here g (same ∙ sym is))
