-- The order in which pairs of edges and samples are sorted.
use Rattle.std.specs.Ordering.{on, then_cmp}
use Rattle.std.specs.declared.cmp.Ordering.{Ordering}
use Rattle.gl_edges.specs.Order.{edge_cmp, sample_cmp}
use Rattle.gl_edges.specs.declared.edge.Edge.{Edge}
use Rattle.gl_edges.specs.declared.edge.Sample.{Sample}

-- by edge, and then by sample
abbrev pub pair_cmp : Edge × Sample → Edge × Sample → Ordering
pair_cmp = then_cmp (on (λ pair. pair.0) edge_cmp) (on (λ pair. pair.1) sample_cmp)
