use Rattle.std.proofs.Common.{ap, ◌∙◌}
use Rattle.gl_edges.specs.bodies.Seen.{noted}
use Rattle.gl_edges.proofs.Ways.{noted_none}
use Rattle.gl_edges.proofs.seen.Seen.new.Goals as goal

pub returns : goal.returns
returns c = ap (noted c.new.result) c.new-2.ensures ∙ noted_none c.new.result _
