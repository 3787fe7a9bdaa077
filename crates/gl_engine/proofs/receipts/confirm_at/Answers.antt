use Rattle.std.proofs.Common.{◌≡◌, Some, map, sym, ap, ◌∙◌, subst, arith}
use Rattle.std.specs.Prelude.{slice_get}
use Rattle.gl_engine.specs.bodies.Breaking.{handed}
use Rattle.gl_engine.specs.Keeping.{pulling_of}
use Rattle.gl_engine.specs.Recording.{Closed}
use Rattle.gl_engine.specs.bodies.Whole.{IsConfirmed}
use Rattle.gl_engine.proofs.Confirming.{input_at, inputs_same, confirmed_input}
use Rattle.gl_engine.specs.declared.lane_input.LaneInput.{LaneInput}
use Rattle.gl_engine.proofs.Handing.{hand_over_one, handed_seen}
use Rattle.gl_engine.proofs.receipts.confirm_at.Goals as goal

pub confirm-requires : goal.confirm-requires
confirm-requires c =
    let its : c.number.result ≡ c.args.receipt.now.thread = c.number.ensures ∙ ap (λ (r : Closed). r.thread) c.receipt.view_is in
    let at = input_at c.args.inputs.now.items c.number.result c.index_mut-input.result.now (omega (arith, its, c.requires.known)) c.index_mut-input.ensures.value in
    record { one_lane = ap (λ (r : Closed). r.lane) c.receipt.view_is ∙ c.requires.one_lane _ (ap (slice_get (map pulling_of c.args.inputs.now.items)) (sym its) ∙ at) }

pub returns-clause-inputs : goal.returns-clause-inputs
returns-clause-inputs c = inputs_same c.args.inputs.now.items c.number.result c.index_mut-input.result.now c.confirm.new.self c.index_mut-input.ensures.value c.confirm.ensures.lane c.confirm.ensures.popped

pub returns-clause-confirmed : goal.returns-clause-confirmed
returns-clause-confirmed c =
    let its : c.number.result ≡ c.args.receipt.now.thread = c.number.ensures ∙ ap (λ (r : Closed). r.thread) c.receipt.view_is in
    subst (λ (r : Closed). (input : LaneInput) → slice_get c.args.inputs.now.items r.thread ≡ Some input → IsConfirmed (handed input.lane) r) c.receipt.view_is
    (confirmed_input c.args.inputs.now.items c.number.result _ _ _ c.index_mut-input.result.now c.confirm.new.self c.receipt.inside.finished c.number.ensures (omega (arith, its, c.requires.known)) c.index_mut-input.ensures.value
    c.receipt.invariant.notes c.confirm.ensures.popped c.confirm.ensures.left c.confirm.ensures.whole)

pub returns-clause-handed : goal.returns-clause-handed
returns-clause-handed c =
    let its : c.number.result ≡ c.args.receipt.now.thread = c.number.ensures ∙ ap (λ (r : Closed). r.thread) c.receipt.view_is in
    hand_over_one c.args.inputs.now.items c.number.result c.index_mut-input.result.now _ (omega (arith, its, c.requires.known)) c.index_mut-input.ensures.value
    (handed_seen c.index_mut-input.result.now.lane c.confirm.new.self c.confirm.ensures.popped c.confirm.ensures.left)
