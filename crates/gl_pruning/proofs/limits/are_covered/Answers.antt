use Rattle.std.proofs.Common.{refl, sym, ap, subst, ◌∙◌, arith, inl, inr}
use Rattle.std.specs.Prelude.{slice_get}
use Rattle.std.proofs.lemmas.Bool.{cases_eq}
use Rattle.std.proofs.lemmas.List.{length-map}
use Rattle.std.proofs.lemmas.Option.{slice_get_within, get_or_from_slice_get}
use Rattle.gl_filters.specs.Picked.{edges_of_table}
use Rattle.gl_pruning.specs.bodies.Covers.{component_in, HaveIn}
use Rattle.gl_pruning.proofs.limits.are_covered.Goals as goal

-- one edge more
pub loop-i-preserved : goal.loop-i-preserved
loop-i-preserved c = λ i e d below at_e at_d at_kept level.
    let covered = c.args.covered.now in
    elim (cases_eq i c.loop-i.i) [
      | inl same ↦
          let here = get_or_from_slice_get c.args.ends.now c.loop-i.i d (record { held = 0; wanted = 0 }) (sym (ap (slice_get c.args.ends.now) same) ∙ at_d) in
          let is_kept = get_or_from_slice_get c.args.kept.now c.loop-i.i _ _ (sym (ap (slice_get c.args.kept.now) same) ∙ at_kept) in
          let at = sym (ap (slice_get (edges_of_table c.args.sought.now.table.now)) same) ∙ at_e in
          subst (λ x. HaveIn c.args.sought.now.mode c.args.turns.now covered (component_in covered x.held) e) here
          (c.if-not-is_covered.ensures refl e at is_kept (ap (λ x. component_in covered x.held) here ∙ level ∙ sym (ap (λ x. component_in covered x.wanted) here)))
      | inr other ↦ c.loop-i.invariant i e d (omega (arith, below, other)) at_e at_d at_kept level
    ]

pub returns : goal.returns
returns c = λ _ i e d at_e at_d at_kept level.
    let edges = edges_of_table c.args.sought.now.table.now in
    c.loop-i.invariant i e d (omega (arith, c.loop-i-test.false, slice_get_within edges i e at_e, length-map c.args.sought.now.table.now (λ pair. pair.0))) at_e at_d at_kept level
