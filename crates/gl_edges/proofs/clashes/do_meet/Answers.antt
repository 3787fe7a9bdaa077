use Rattle.std.proofs.Common.{◌≡◌, false, get_or, below_more, arith, sym, ap, ◌∙◌, inl, inr}
use Rattle.std.specs.List.{list_any}
use Rattle.std.proofs.lemmas.Bool.{cases_Bool}
use Rattle.std.proofs.lemmas.List.{get_or_default}
use Rattle.gl_edges.specs.declared.guards.Guard.{Guard}
use Rattle.gl_edges.specs.Clashes.{clash_on, guards_clash}
use Rattle.gl_edges.proofs.Clashing.{not_below, some_clashes}
use Rattle.gl_edges.proofs.clashes.do_meet.Goals as goal

pub loop-guard-preserved : goal.loop-guard-preserved
loop-guard-preserved c =
    let at_guard : (d : Guard) → get_or c.args.guards.now c.loop-guard.guard-index d ≡ c.guard-item.result
    = λ d. get_or_default c.args.guards.now c.loop-guard.guard-index d c.guard-item.result c.loop-guard-test.true ∙ sym c.guard-item.is in
    record {
      none = λ k d below.
          below_more (λ k. (d : Guard) → list_any (clash_on (get_or c.args.guards.now k d)) c.args.others.now ≡ false) c.loop-guard.guard-index (λ k lower d. c.loop-guard.invariant.none k d lower)
          (λ d. ap (λ g. list_any (clash_on g) c.args.others.now) (at_guard d) ∙ sym c.if-clashes_from.ensures)
          k below d;
      passed = λ j e after within k d below.
          let up = not_below c.args.guards.now c.requires.ascending c.loop-guard.guard-index j e (omega (arith, after)) within in
          let lock = ap (λ g. g.lock) (at_guard e) in
          omega (arith, up, lock, c.first_from-place.ensures.below k d below);
      within = c.first_from-place.ensures.within;
    }

pub returns : goal.returns
returns c =
    elim (cases_Bool (guards_clash c.args.guards.now c.args.others.now)) [
      | inl clash ↦ absurd (some_clashes c.args.guards.now c.args.others.now clash c.loop-guard.guard-index (omega (arith, c.loop-guard-test.false)) c.loop-guard.invariant.none)
      | inr none ↦ sym none
    ]
