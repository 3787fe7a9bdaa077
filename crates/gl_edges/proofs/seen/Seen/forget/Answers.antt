use Rattle.std.proofs.Common.{ap, ◌∙◌}
use Rattle.gl_edges.specs.bodies.Seen.{noted}
use Rattle.gl_edges.proofs.Ways.{noted_none}
use Rattle.gl_edges.proofs.seen.Seen.forget.Goals as goal

pub returns : goal.returns
returns c = ap (noted c.self.inside.thread) c.clear.ensures ∙ noted_none c.self.inside.thread _
