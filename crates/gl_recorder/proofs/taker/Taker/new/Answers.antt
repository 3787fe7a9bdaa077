use Rattle.std.proofs.Common.{refl}
use Rattle.gl_event.proofs.Lawfulness.{IsLawful-nil}
use Rattle.gl_recorder.proofs.taker.Taker.new.Goals as goal

pub returns-clause-tracks : goal.returns-clause-tracks
returns-clause-tracks c = record { its_thread = refl; its_limits = refl; lawful = IsLawful-nil _ _; stands = c.new.ensures.stands }
