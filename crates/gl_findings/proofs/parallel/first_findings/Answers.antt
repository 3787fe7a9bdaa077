use Rattle.std.proofs.Common.{◌≡◌, ℕ, ◌-◌, List, length, map, take, ap, ◌∙◌}
use Rattle.std.proofs.lemmas.Result.{IfOk-weaker}
use Rattle.gl_segments.specs.Clocks.{is_before}
use Rattle.gl_cycles.specs.Roots.{first_below}
use Rattle.gl_findings.specs.Findings.{findings}
use Rattle.gl_findings.specs.bodies.Finding.{all_of_root}
use Rattle.gl_findings.proofs.Dealt.{of_roots}
use Rattle.gl_findings.proofs.parallel.first_findings.Goals as goal

-- all findings begin with one of the classes
pub returns : goal.returns
returns g c =
    let s = c.args.finder.now in
    let first = λ (roots : List ℕ). first_below s.cap (all_of_root s roots) (length roots) in
    IfOk-weaker c.found_by_roots.result
    (λ found. map (λ cycle. cycle.items) found.items ≡ first c.deref.result.now)
    (λ found. map (λ cycle. cycle.items) found.items ≡ take s.cap (findings (is_before s.order.now) s.mode s.len s.table.now))
    (λ found is. is ∙ ap first c.deref.ensures.value ∙ ap (take s.cap) (of_roots s c.requires.ready c.in_ok-roots.roots.items (c.in_ok-roots.ensures.all (s.len - 1)))) c.found_by_roots.ensures
