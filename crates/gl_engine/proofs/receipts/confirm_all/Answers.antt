use Rattle.std.proofs.Common.{◌≡◌, Some, ◌<◌, length, refl, sym, ap, ◌∙◌, arith, slice_set, get_or, inl, inr}
use Rattle.std.specs.Prelude.{slice_get}
use Rattle.std.proofs.lemmas.Option.{slice_get_within}
use Rattle.std.proofs.lemmas.List.{set-get_or}
use Rattle.gl_world.proofs.Lists.{same_some, get_at, place_cases}
use Rattle.gl_engine.specs.Recording.{Closed}
use Rattle.gl_engine.proofs.Confirming.{confirmed_before}
use Rattle.gl_engine.proofs.Handing.{hand_over_same, hand_over_then}
use Rattle.gl_engine.proofs.receipts.confirm_all.Goals as goal

pub loop-at-init : goal.loop-at-init
loop-at-init c = record {
  inputs = refl;
  receipts = refl;
  more = hand_over_same c.args.inputs.now.items;
  confirmed = λ at r input below here seen. absurd (omega (arith, below));
}

pub loop-at-preserved : goal.loop-at-preserved
loop-at-preserved c =
    let was = c.loop-at.invariant in
    let item : Closed = c.index-receipts-at.result in
    let within : c.loop-at.at < length c.loop-at.receipts = omega (arith, c.loop-at-test.true, ap length was.receipts) in
    record {
      inputs = c.confirm_at.ensures.inputs ∙ was.inputs;
      receipts = ap (slice_set c.loop-at.receipts c.loop-at.at) c.confirm_at.ensures.receipt ∙ set-get_or c.loop-at.receipts c.loop-at.at item ∙ was.receipts;
      more = hand_over_then c.args.inputs.now.items c.loop-at.inputs.items _ was.more c.confirm_at.ensures.handed;
      confirmed = λ at r input below here seen.
          elim (place_cases c.loop-at.at at below) [
            | inl before ↦ was.confirmed at r input before here seen
            | inr now ↦
                let there : slice_get c.args.receipts.now c.loop-at.at ≡ Some item = ap (λ rs. slice_get rs c.loop-at.at) (sym was.receipts) ∙ get_at c.loop-at.receipts c.loop-at.at item within c.index-receipts-at.is in
                let this : r ≡ item = same_some r item (sym here ∙ ap (slice_get c.args.receipts.now) now ∙ there) in
                let old : Closed = get_or c.loop-at.receipts c.loop-at.at item in
                let same : old ≡ r = sym c.index-receipts-at.is ∙ sym this in
                confirmed_before c.args.inputs.now.items c.loop-at.inputs.items was.more old r same input seen c.confirm_at.ensures.confirmed
          ];
    }

pub returns-clause-confirmed : goal.returns-clause-confirmed
returns-clause-confirmed c at r input here seen =
    c.loop-at.invariant.confirmed at r input (omega (arith, c.loop-at-test.false, slice_get_within c.args.receipts.now at r here)) here seen
