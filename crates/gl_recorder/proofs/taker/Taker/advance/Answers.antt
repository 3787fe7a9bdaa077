use Rattle.std.proofs.Common.{sym, subst, ◌<◌, arith}
use Rattle.gl_event.specs.States.{MayFollow}
use Rattle.gl_recorder.specs.Taking.{Taking, Tracks}
use Rattle.gl_recorder.proofs.Steps.{allowed_after, tracks_push}
use Rattle.gl_event.proofs.States.{is_taken, locks_let, room_to_follow}
use Rattle.gl_recorder.proofs.taker.Taker.advance.Goals as goal

pub prove-unreachable-requires : goal.prove-unreachable-requires
prove-unreachable-requires c =
    let room = subst (λ (t : Taking). t.state.events < t.limits.events) (sym c.self.view_is) (room_to_follow _ _ _ c.args.event c.requires) in
    omega (arith, c.events.ensures, c.events-2.ensures.value)

pub returns : goal.returns
returns c = λ limits thread es tracks.
    let own = subst (Tracks limits thread es) (sym c.self.view_is) tracks in
    let may = subst (λ (t : Taking). MayFollow t.limits t.thread t.state c.args.event) (sym c.self.view_is) c.requires in
    let none = locks_let _ _ _ c.args.event may in
    let allowed = is_taken c.take.result c.self.inside.state may.es c.args.event may.stands c.take.ensures.refused none c.take.ensures.allowed in
    let stands = is_taken c.take.result c.self.inside.state may.es c.args.event may.stands c.take.ensures.refused none c.take.ensures.stands in
    tracks_push limits thread es _ own c.args.event (allowed_after limits thread es _ c.args.event own may none (allowed es own.stands)) c.take.new.self (stands es own.stands)
