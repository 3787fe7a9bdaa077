use Rattle.std.proofs.Common.{map, filter, sym, ap, ◌∙◌}
use Rattle.std.specs.Global.{Vec}
use Rattle.std.proofs.lemmas.List.{take_all}
use Rattle.gl_event.specs.Events.{closes}
use Rattle.gl_event.specs.declared.events.Event.{Event}
use Rattle.gl_segments.proofs.Tabling.{cuts_more, map_compose}
use Rattle.gl_segments.proofs.steps.cuts.Goals as goal

pub loop-list-preserved : goal.loop-list-preserved
loop-list-preserved c =
    rw c.in_ok-push.ensures.items
    (cuts_more c.args.lists.now c.loop-list.cuts.items c.loop-list.list-index c.list-item.result c.in_ok-closers.field-0 c.loop-list-test.true c.list-item.is (c.in_ok-closers.ensures ∙ ap (filter closes) c.deref.ensures.value) c.loop-list.invariant)

pub returns : goal.returns
returns c =
    c.loop-list.invariant
    ∙ ap (map (λ (u : Vec Event). filter closes u.items)) (take_all c.loop-list.list-index c.args.lists.now c.loop-list-test.false)
    ∙ sym (map_compose (filter closes) (λ (u : Vec Event). u.items) c.args.lists.now)
