use Rattle.std.proofs.Common.{sym, ap, ◌∙◌}
use Rattle.gl_edges.specs.Edges.{once}
use Rattle.gl_edges.proofs.Filling.{once_of_ascending}
use Rattle.gl_edges.proofs.batch.Batch.into_list.Goals as goal

pub returns : goal.returns
returns c = c.from_ascending.ensures ∙ sym (once_of_ascending _ c.compact.ensures.ascending) ∙ c.compact.ensures.same ∙ ap once c.in_ok-move_behind.ensures.all ∙ c.self.view_is
