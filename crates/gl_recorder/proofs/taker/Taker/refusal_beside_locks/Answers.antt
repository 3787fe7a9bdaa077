use Rattle.std.proofs.Common.{sym, subst, ap, ◌∙◌, arith}
use Rattle.gl_event.specs.Events.{partner}
use Rattle.gl_recorder.specs.Taking.{Tracks, partner_refusal}
use Rattle.gl_recorder.proofs.Refusals.{alone_of}
use Rattle.gl_recorder.proofs.Steps.{if_some, if_none, place_full, as_locks, as_partner, left_to_locks}
use Rattle.gl_recorder.proofs.taker.Taker.refusal_beside_locks.Goals as goal

pub returns-then-events-clause-refused : goal.returns-then-events-clause-refused
returns-then-events-clause-refused c = λ limits thread es tracks.
    let own = subst (Tracks limits thread es) (sym c.self.view_is) tracks in
    place_full limits thread es _ own c.args.event.now (omega (arith, c.events.ensures, c.events-2.ensures.value))

pub returns-in-Closes-clause-refused : goal.returns-in-Closes-clause-refused
returns-in-Closes-clause-refused c =
    if_some c.partner_refusal.result _
    (λ r is limits thread es tracks.
    let own = subst (Tracks limits thread es) (sym c.self.view_is) tracks in
    as_partner limits thread es _ own (omega (arith, c.events.ensures, c.events-2.ensures.value)) c.args.event.now c.in-Closes.partner c.in-Closes.ensures.0 c.in-Closes.ensures.1
    ∙ ap (λ t. partner_refusal t.limits t.thread c.in-Closes.partner) c.self.view_is ∙ sym c.partner_refusal.ensures ∙ is)

pub returns-in-Closes-clause-left : goal.returns-in-Closes-clause-left
returns-in-Closes-clause-left c =
    if_none c.partner_refusal.result _
    (λ is limits thread es tracks.
    let own = subst (Tracks limits thread es) (sym c.self.view_is) tracks in
    left_to_locks limits thread es _ own (omega (arith, c.events.ensures, c.events-2.ensures.value)) c.args.event.now c.in-Closes.partner c.in-Closes.ensures.0 c.in-Closes.ensures.1
    (ap (λ t. partner_refusal t.limits t.thread c.in-Closes.partner) c.self.view_is ∙ sym c.partner_refusal.ensures ∙ is))

pub returns-in-Acquires-clause-left : goal.returns-in-Acquires-clause-left
returns-in-Acquires-clause-left c = λ limits thread es tracks.
    let own = subst (Tracks limits thread es) (sym c.self.view_is) tracks in
    as_locks limits thread es _ own (omega (arith, c.events.ensures, c.events-2.ensures.value)) c.args.event.now (alone_of c.args.event.now c.in-Acquires.lock c.in-Acquires.ensures.0.same_lock)

pub returns-in-Releases-clause-left : goal.returns-in-Releases-clause-left
returns-in-Releases-clause-left c = λ limits thread es tracks.
    let own = subst (Tracks limits thread es) (sym c.self.view_is) tracks in
    as_locks limits thread es _ own (omega (arith, c.events.ensures, c.events-2.ensures.value)) c.args.event.now (ap partner c.in-Releases.ensures)
