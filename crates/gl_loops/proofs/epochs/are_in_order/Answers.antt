use Rattle.std.proofs.Common.{◌≡◌, arith, refl, inl, inr, sym, ap, subst, ◌∙◌}
use Rattle.std.specs.Prelude.{slice_get}
use Rattle.std.proofs.lemmas.Bool.{cases_lt}
use Rattle.std.proofs.lemmas.Option.{slice_get_within, get_or_from_slice_get}
use Rattle.gl_loops.specs.bodies.Epochs.{IsInOrder}
use Rattle.gl_loops.proofs.epochs.are_in_order.Goals as goal

pub loop-i-preserved : goal.loop-i-preserved
loop-i-preserved c = λ one other i j below at_one at_other.
    let groups = c.args.groups.now in
    let s = c.args.sought.now in
    elim (cases_lt j c.loop-i.i) [
      | inl before ↦ c.loop-i.invariant one other i j before at_one at_other
      | inr after ↦
          let same : j ≡ c.loop-i.i = omega (arith, after, below) in
          let here = c.index-groups-i.is ∙ get_or_from_slice_get groups c.loop-i.i other c.index-groups-i.result (sym (ap (slice_get groups) same) ∙ at_other) in
          subst (λ g. IsInOrder s.mode s.order.now one g) here (c.if-not-are_before.ensures refl one i at_one)
    ]

pub returns : goal.returns
returns c = λ _ one other i j at_one at_other. c.loop-i.invariant one other i j (omega (arith, slice_get_within c.args.groups.now j other at_other, c.loop-i-test.false)) at_one at_other
