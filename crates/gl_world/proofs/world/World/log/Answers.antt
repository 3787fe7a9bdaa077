use Rattle.std.proofs.Common.{◌≡◌, Some, sym, ap, ◌∙◌, subst}
use Rattle.std.specs.Prelude.{slice_get}
use Rattle.gl_intake.specs.Stream.{events_of}
use Rattle.gl_world.specs.Machine.{State}
use Rattle.gl_world.specs.Keeping.{IsSound}
use Rattle.gl_world.proofs.Drained.{each_whole}
use Rattle.gl_world.proofs.Schedules.{collected_front}
use Rattle.gl_world.proofs.world.World.log.Goals as goal

pub returns-clause-front : goal.returns-clause-front
returns-clause-front c = λ lane found.
    rw c.log.ensures (collected_front _ c.self.invariant.sound c.args.thread lane (subst (λ (s : State). slice_get s.lanes c.args.thread ≡ Some lane) (sym c.self.view_is) found))

pub returns-clause-whole : goal.returns-clause-whole
returns-clause-whole c = λ drained lane found.
    c.log.ensures ∙ ap (λ (s : State). events_of c.args.thread s.stream) c.self.view_is ∙ each_whole c.args.self.now (subst IsSound c.self.view_is c.self.invariant.sound) drained c.args.thread lane found
