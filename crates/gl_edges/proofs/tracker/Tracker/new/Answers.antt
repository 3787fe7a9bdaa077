use Rattle.std.proofs.Common.{refl}
use Rattle.gl_edges.proofs.tracker.Tracker.new.Goals as goal

pub returns : goal.returns
returns c = record { of_thread = refl; stands = c.new.ensures.stands }
