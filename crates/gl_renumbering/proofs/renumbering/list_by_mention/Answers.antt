use Rattle.std.proofs.Common.{length, take, map, refl, sym, ap, subst, ◌∙◌, arith}
use Rattle.std.proofs.lemmas.List.{take_all}
use Rattle.std.proofs.lemmas.Option.{slice_get_read}
use Rattle.gl_renumbering.specs.Tales.{has_names, mentioned, told}
use Rattle.gl_renumbering.specs.bodies.Tables.{StayToldBy}
use Rattle.gl_renumbering.proofs.Telling.{front_more, names_push, one_passes, stay_push}
use Rattle.gl_renumbering.proofs.renumbering.list_by_mention.Goals as goal

pub event-requires-clause-named : goal.event-requires-clause-named
event-requires-clause-named c =
    let es = c.args.events.now in
    let i = c.loop-event.event-index in
    let e = c.event-item.result in
    one_passes (has_names c.args.old.now) es i e (slice_get_read es (length es) i e refl c.loop-event-test.true c.event-item.is) c.requires.named

pub loop-event-preserved : goal.loop-event-preserved
loop-event-preserved c =
    let tell = told c.args.old.now in
    let es = c.args.events.now in
    let i = c.loop-event.event-index in
    let e = c.event-item.result in
    let start = c.args.numbers.now.names in
    let before = c.loop-event.numbers.names in
    let after = c.event.new.self.names in
    let front = front_more tell es i e c.loop-event-test.true c.event-item.is in (
      c.in_ok-event.ensures.stands,
      names_push start before after (map tell (take i es)) (tell e) c.loop-event.invariant.1 c.in_ok-event.ensures.names ∙ ap (mentioned start) (sym front),
      subst (λ list. StayToldBy after list c.append.new.xs.items) (sym front)
          (stay_push before after (map tell (take i es)) (tell e) c.loop-event.list.items c.append.new.xs.items c.in_ok-event.event c.in_ok-event.ensures.names c.in_ok-append.ensures.items c.loop-event.invariant.2 c.in_ok-event.ensures.event),
    )

pub returns-clause-events : goal.returns-clause-events
returns-clause-events c =
    subst (λ es. StayToldBy c.loop-event.numbers.names (map (told c.args.old.now) es) c.loop-event.list.items)
    (take_all c.loop-event.event-index c.args.events.now (omega (arith, c.loop-event-test.false))) c.loop-event.invariant.2
