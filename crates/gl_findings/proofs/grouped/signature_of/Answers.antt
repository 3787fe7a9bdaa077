use Rattle.std.proofs.Common.{◌≡◌, ◌++◌, ◌∷◌, [], get_or, length, sym, ap, ◌∙◌, arith}
use Rattle.std.proofs.lemmas.Bool.{eqb-false}
use Rattle.gl_filters.specs.declared.lengths.TheConstants.{LONGEST}
use Rattle.gl_findings.proofs.FirstsAdded.{classes_more}
use Rattle.gl_findings.proofs.grouped.signature_of.Goals as goal

pub loop-position-preserved : goal.loop-position-preserved
loop-position-preserved c =
    let classes = c.args.classes.now in
    let positions = c.args.positions.now in
    let i = c.loop-position.position-index in
    let apart : length c.loop-position.signature.items ≡ LONGEST → ⊥ = eqb-false _ _ (sym c.is_full.ensures.value ∙ c.if-is_full.false) in
    record {
      fits = omega (arith, c.push.ensures.len, c.is_full.ensures.fits, apart);
      classes = c.push.ensures.items ∙ ap (λ l. l ++ get_or classes (get_or positions i 0) 0 ∷ []) c.loop-position.invariant.classes
          ∙ sym (classes_more classes positions i 0 0 c.loop-position-test.true (omega (arith, c.if-position-classes.false)));
    }
