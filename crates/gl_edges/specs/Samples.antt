-- What an edge's sample is.
use Rattle.std.specs.Prelude.{◌≡◌, false, List, Contains}
use Rattle.std.specs.Ordering.{is_lt}
use Rattle.gl_edges.specs.Order.{sample_cmp}
use Rattle.gl_edges.specs.declared.edge.Edge.{Edge}
use Rattle.gl_edges.specs.declared.edge.Sample.{Sample}

-- the sample stands beside the edge in one of these pairs, and no lesser one does
pub record IsLeastSample (pairs : List (Edge × Sample)) (edge : Edge)
    (sample : Sample) : Type 0 where
  -- one of the pairs
  pub here : Contains pairs (edge, sample)
  -- none is below it
  pub least : (other : Sample) → Contains pairs (edge, other)
      → is_lt (sample_cmp other sample) ≡ false
