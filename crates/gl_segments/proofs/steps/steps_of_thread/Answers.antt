use Rattle.std.proofs.Common.{◌≡◌, length, refl, sym, ap, subst, ◌∙◌, arith}
use Rattle.std.specs.Prelude.{slice_get}
use Rattle.std.proofs.lemmas.Option.{slice_get_read, same_Some}
use Rattle.gl_event.specs.Lawful.{lists_of}
use Rattle.gl_segments.specs.bodies.Tables.{AreStepsOfThread}
use Rattle.gl_segments.proofs.Tabling.{items_at, steps_begin, steps_more, steps_all}
use Rattle.gl_segments.proofs.steps.steps_of_thread.Goals as goal

pub loop-index-init : goal.loop-index-init
loop-index-init c =
    rw (c.in_ok-push.ensures, c.deref.ensures.value)
    (steps_begin (lists_of c.args.cuts.now) c.args.thread c.deref-cut-items.result.now c.in_ok-steps.steps c.in_ok-segments.field-0.items c.in_ok-steps.ensures
    (λ a.
    let forks = c.requires.forked (record { thread = c.args.thread; from = a }) in
    let segments = c.in_ok-segments.ensures a in
    (λ h. forks.0 (segments.0 h), λ f. segments.1 (forks.1 f))))

pub overflow_cast-closed : goal.overflow_cast-closed
overflow_cast-closed c =
    let number : c.number.result ≡ c.args.thread = c.number.ensures in
    let at = items_at c.args.cuts.now c.number.result c.index-cuts-number.result (rw number c.requires.within) c.index-cuts-number.is in
    let small = c.requires.small.small _ _ at in
    let same : length c.deref-cut-items.result.now ≡ length c.index-cuts-number.result.items = ap length c.deref-cut-items.ensures.value in
    omega arith

pub loop-index-preserved : goal.loop-index-preserved
loop-index-preserved c =
    let items = c.deref-cut-items.result.now in
    rw (c.in_ok-push-2.ensures, c.deref-in-loop-index.ensures.value)
    (steps_more (lists_of c.args.cuts.now) c.args.thread items c.loop-index.steps c.loop-index.index c.in_ok-after.field-0.items c.cut-item.result
    (slice_get_read items (length items) c.loop-index.index c.cut-item.result refl c.loop-index-test.true c.cut-item.is) c.in_ok-after.ensures c.loop-index.invariant)

pub returns : goal.returns
returns c =
    let number : c.number.result ≡ c.args.thread = c.number.ensures in
    let at = items_at c.args.cuts.now c.number.result c.index-cuts-number.result (rw number c.requires.within) c.index-cuts-number.is in
    λ es there.
    let same : c.deref-cut-items.result.now ≡ es = c.deref-cut-items.ensures.value ∙ same_Some _ es (sym at ∙ ap (slice_get (lists_of c.args.cuts.now)) number ∙ there) in
    rw c.shrink.ensures
    (subst (λ xs. AreStepsOfThread (lists_of c.args.cuts.now) c.args.thread xs c.loop-index.steps) same
    (steps_all (lists_of c.args.cuts.now) c.args.thread c.deref-cut-items.result.now c.loop-index.steps c.loop-index.index (omega arith) c.loop-index.invariant))
