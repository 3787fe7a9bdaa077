use Rattle.std.proofs.Common.{◌++◌, ◌∙◌}
use Rattle.gl_edges.specs.Edges.{once}
use Rattle.gl_edges.proofs.Batching.{once_ended}
use Rattle.gl_edges.proofs.batch.Batch.end_list.Goals as goal

pub returns : goal.returns
returns c =
    (λ i. once (c.in_ok-move_behind.ensures.all i ++ c.move_behind.new.more.items))
    ∙ once_ended c.self.inside.ended.items c.self.inside.pairs.items c.compact.new.pairs.items c.move_behind.new.more.items c.compact.ensures.same c.in_ok-move_behind.ensures.moved
    ∙ c.self.view_is
