use Rattle.std.proofs.Common.{sym, subst, ◌∙◌}
use Rattle.gl_recorder.specs.Taking.{Tracks}
use Rattle.gl_recorder.proofs.Steps.{tracks_push}
use Rattle.gl_recorder.proofs.taker.Taker.take.Goals as goal

pub returns-clause-tracks : goal.returns-clause-tracks
returns-clause-tracks c = λ limits thread es tracks.
    let own = subst (Tracks limits thread es) (sym c.self.view_is) tracks in
    let allowed = c.in_default.ensures.left limits thread es tracks ∙ c.in_ok-take.ensures.allowed es own.stands in
    tracks_push limits thread es _ own c.args.event allowed c.take.new.self (c.in_ok-take.ensures.stands es own.stands)
