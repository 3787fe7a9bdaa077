use Rattle.std.proofs.Common.{get_or, inl, inr, refl, sym, ap, subst, ◌∙◌, arith}
use Rattle.std.proofs.lemmas.Bool.{cases_eq}
use Rattle.std.proofs.lemmas.List.{get_or_default}
use Rattle.gl_exclusions.specs.bodies.Gates.{IsMadeUnder}
use Rattle.gl_exclusions.proofs.gates.is_made_under_all.Goals as goal

pub loop-gate-preserved : goal.loop-gate-preserved
loop-gate-preserved c = λ k d below.
    let gates = c.args.gates.now in
    let item = c.gate-item.result in
    elim (cases_eq k c.loop-gate.gate-index) [
      | inl same ↦
          subst (IsMadeUnder c.args.edge.now)
          (c.gate-item.is ∙ ap (λ j. get_or gates j item) (sym same) ∙ get_or_default gates k item d (omega (arith, same, c.loop-gate-test.true)))
          (c.if-not-is_made_under.ensures refl)
      | inr other ↦ c.loop-gate.invariant k d (omega (arith, below, other))
    ]

pub returns : goal.returns
returns c = λ _ k d below. c.loop-gate.invariant k d (omega (arith, below, c.loop-gate-test.false))
