use Rattle.std.proofs.Common.{◌≡◌, arith, refl, inl, inr, sym, ap, subst, ◌∙◌}
use Rattle.std.specs.Prelude.{slice_get}
use Rattle.std.proofs.lemmas.Bool.{cases_lt}
use Rattle.std.proofs.lemmas.Option.{slice_get_within, get_or_from_slice_get}
use Rattle.gl_loops.specs.bodies.Epochs.{IsInOrder}
use Rattle.gl_loops.proofs.epochs.are_before.Goals as goal

pub loop-i-preserved : goal.loop-i-preserved
loop-i-preserved c = λ one i below at.
    let groups = c.args.groups.now in
    let s = c.args.sought.now in
    elim (cases_lt i c.loop-i.i) [
      | inl before ↦ c.loop-i.invariant one i before at
      | inr after ↦
          let same : i ≡ c.loop-i.i = omega (arith, after, below) in
          let here = c.index-groups-i.is ∙ get_or_from_slice_get groups c.loop-i.i one c.index-groups-i.result (sym (ap (slice_get groups) same) ∙ at) in
          subst (λ g. IsInOrder s.mode s.order.now g c.args.other.now) here (c.if-not-is_in_order.ensures refl)
    ]

pub returns : goal.returns
returns c = λ _ one i at. c.loop-i.invariant one i (omega (arith, slice_get_within c.args.groups.now i one at, c.loop-i-test.false)) at
