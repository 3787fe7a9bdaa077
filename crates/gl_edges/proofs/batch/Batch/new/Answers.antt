use Rattle.std.proofs.Common.{◌++◌, ◌∙◌}
use Rattle.gl_edges.specs.Edges.{once}
use Rattle.gl_edges.proofs.Filling.{once_of_none}
use Rattle.gl_edges.proofs.batch.Batch.new.Goals as goal

pub returns : goal.returns
returns c = (λ i. once (c.new.ensures.items i ++ c.new-2.ensures.items i)) ∙ once_of_none
