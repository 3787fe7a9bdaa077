use Rattle.std.proofs.Common.{ℕ, ◌<◌, map, take, ap, ◌∙◌, arith}
use Rattle.rayon.specs.Numbers.{nat_range}
use Rattle.rayon.proofs.ToStd.{nat_range-All}
use Rattle.gl_cycles.proofs.RootsJoined.{pieces_are}
use Rattle.gl_sought.proofs.Answered.{if_ok}
use Rattle.gl_cycles.proofs.roots.found_from_each.Goals as goal

-- each number is that of a root
pub collect-requires-clause-ready : goal.collect-requires-clause-ready
collect-requires-clause-ready g c κs within =
    let ends = c.into_par_iter.ensures in
    let s = c.args.search.now in
    let inside = nat_range-All (λ i. g.S.RootedSearch.IsReady s × (i < g.S.RootedSearch.roots s)) c.args.from c.args.to (λ i low high. (c.requires.ready, omega (arith, c.requires.within, high))) in
    rw (c.with_min_len.ensures.base, c.map.ensures.base, c.map.ensures.f, ends.0, ends.1) (λ k d lt. (inside k d lt, λ y p. tt))

pub returns : goal.returns
returns g c =
    let ends = c.into_par_iter.ensures in
    let s = c.args.search.now in
    let first = λ (root : ℕ). take (g.S.RootedSearch.cap s) (g.S.RootedSearch.found_from s root) in
    let h = c.in_ok-found.ensures in
    let chain = rw (c.with_min_len.ensures.base, c.map.ensures.base, c.map.ensures.f) at h.1 in
    let places = chain.1 ∙ (λ i. nat_range (ends.0 i) (ends.1 i)) in
    if_ok c.in_ok-found.found _ _ _ h.2
    (λ v is. ap (map (λ piece. map (λ cycle. cycle.items) piece.items)) is.2 ∙ pieces_are _ (λ piece. map (λ cycle. cycle.items) piece.items) first chain.0 is.0 (rw is.1 at chain.2) ∙ ap (map first) places)
