use Rattle.std.proofs.Common.{◌∙◌}
use Rattle.gl_edges.proofs.Batching.{once_alike}
use Rattle.gl_edges.proofs.batch.Batch.make_room.Goals as goal

pub returns : goal.returns
returns c = once_alike c.self.inside.ended.items c.self.inside.pairs.items c.compact.new.pairs.items c.compact.ensures.same ∙ c.self.view_is
