use Rattle.std.proofs.Common.{ℕ, get_or, sym, ap, subst, ◌∙◌, arith, inl, inr}
use Rattle.std.specs.Prelude.{slice_get}
use Rattle.std.proofs.lemmas.Bool.{cases_eq}
use Rattle.std.proofs.lemmas.Option.{slice_get_within, get_or_from_slice_get}
use Rattle.gl_findings.specs.bodies.Lengths.{IsAtMost}
use Rattle.gl_findings.proofs.lengths.longest_of.Goals as goal

-- one edge more
pub loop-i-preserved : goal.loop-i-preserved
loop-i-preserved c = λ i class limit below of_class at.
    let now = c.raise.new.longest.items in
    elim (cases_eq i c.loop-i.i) [
      | inl same ↦
          let is_class = get_or_from_slice_get c.args.classes.now c.loop-i.i class 0 (sym (ap (slice_get c.args.classes.now) same) ∙ of_class) in
          let is_limit = get_or_from_slice_get c.args.limits.now c.loop-i.i limit 0 (sym (ap (slice_get c.args.limits.now) same) ∙ at) in
          subst (λ (n : ℕ). IsAtMost n (slice_get now class)) is_limit
          (subst (λ (k : ℕ). IsAtMost (get_or c.args.limits.now c.loop-i.i 0) (slice_get now k)) is_class c.raise.ensures.here)
      | inr other ↦ c.raise.ensures.stay class limit (c.loop-i.invariant i class limit (omega (arith, below, other)) of_class at)
    ]

pub returns : goal.returns
returns c = record {
  each = λ i class limit of_class at. c.loop-i.invariant i class limit (omega (arith, c.loop-i-test.false, slice_get_within c.args.limits.now i limit at)) of_class at;
}
