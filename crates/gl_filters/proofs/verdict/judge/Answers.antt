use Rattle.std.proofs.Common.{List, subst}
use Rattle.gl_segments.specs.Clocks.{is_before}
use Rattle.gl_edges.specs.declared.edge.Edge.{Edge}
use Rattle.gl_edges.specs.declared.edge.Sample.{Sample}
use Rattle.gl_filters.specs.Picked.{edges_of_table, picked}
use Rattle.gl_filters.specs.Verdicts.{IsVerdict}
use Rattle.gl_filters.proofs.verdict.judge.Goals as goal

pub returns : goal.returns
returns c = subst (λ (table : List (Edge × Sample)). IsVerdict (is_before c.args.order.now) c.args.query.now (picked (edges_of_table table) c.args.cycle.now) c.verdict_of.result) c.entries.ensures.pairs c.verdict_of.ensures
