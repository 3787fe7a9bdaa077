use Rattle.std.proofs.Common.{take, sym, refl, ◌∙◌}
use Rattle.std.proofs.lemmas.Bool.{false≢true}
use Rattle.std.proofs.lemmas.List.{take_all}
use Rattle.gl_recorder.proofs.Lists.{not_lawful, tracks_more, kept}
use Rattle.gl_recorder.proofs.lawful.is_lawful.Goals as goal

pub loop-event-init : goal.loop-event-init
loop-event-init c = c.new-taker.ensures.tracks

pub loop-event-preserved : goal.loop-event-preserved
loop-event-preserved c =
    tracks_more c.args.limits.now c.args.thread c.args.list.now c.loop-event.event-index c.event-item.result c.loop-event-test.true c.event-item.is c.take.new.self
    (kept c.take.result (sym c.is_err.ensures.value ∙ c.if-is_err.false) (c.take.ensures.tracks c.args.limits.now c.args.thread (take c.loop-event.event-index c.args.list.now) c.loop-event.invariant))

pub returns-then-is_err : goal.returns-then-is_err
returns-then-is_err c = (
  λ never. absurd (false≢true never),
  λ lawful.
      absurd
      (not_lawful c.args.limits.now c.args.thread c.args.list.now c.loop-event.event-index c.event-item.result c.loop-event-test.true c.event-item.is c.take.result
      (c.take.ensures.answers c.args.limits.now c.args.thread (take c.loop-event.event-index c.args.list.now) c.loop-event.invariant) (sym c.is_err.ensures.value ∙ c.if-is_err.true) lawful),
)

pub returns : goal.returns
returns c =
    let all = take_all c.loop-event.event-index c.args.list.now c.loop-event-test.false in
    (λ _. (rw all at c.loop-event.invariant).lawful, λ _. refl)
