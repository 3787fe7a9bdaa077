use Rattle.std.proofs.Common.{◌≡◌, arith, inl, inr, sym, ap, ◌∙◌}
use Rattle.std.specs.Prelude.{true, false, slice_get}
use Rattle.std.proofs.lemmas.Bool.{cases_lt}
use Rattle.std.proofs.lemmas.List.{length-map}
use Rattle.std.proofs.lemmas.Option.{slice_get_within, get_or_from_slice_get}
use Rattle.gl_filters.specs.Picked.{edges_of_table}
use Rattle.gl_exclusions.proofs.turns.take_turns.Goals as goal

pub loop-i-preserved : goal.loop-i-preserved
loop-i-preserved c = record {
  last = c.is_out_of_turn.ensures.last;
  turns = λ i e below at kept.
      elim (cases_lt i c.loop-i.i) [
        | inl before ↦ c.loop-i.invariant.turns i e before at kept
        | inr after ↦
            let same : i ≡ c.loop-i.i = omega (arith, after, below) in
            c.is_out_of_turn.ensures.turn c.if-is_out_of_turn.false e (sym (ap (slice_get (edges_of_table c.args.sought.now.table.now)) same) ∙ at) (get_or_from_slice_get c.args.kept.now c.loop-i.i true false (sym (ap (slice_get c.args.kept.now) same) ∙ kept))
      ];
}

pub returns : goal.returns
returns c = λ is i e at kept.
    let within = slice_get_within (edges_of_table c.args.sought.now.table.now) i e at in
    c.loop-i.invariant.turns i e (omega (arith, within, length-map c.args.sought.now.table.now (λ pair. pair.0), c.loop-i-test.false)) at kept
