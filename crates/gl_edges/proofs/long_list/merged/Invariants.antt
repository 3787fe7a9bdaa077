use Rattle.std.proofs.Common.{◌≡◌, ◌++◌}
use Rattle.std.specs.List.{flat_map}
use Rattle.std.specs.Vec.Iter.{into_iter_items}
use Rattle.gl_edges.specs.Edges.{once}
use Rattle.gl_edges.proofs.long_list.merged.Given as goal

-- the edges so far and those of the other pieces are all
abbrev pub invariant-loop-piece : goal.invariant-loop-piece
invariant-loop-piece l = record {
  own : once l.batch ≡ l.batch;
  whole : once (l.batch ++ flat_map (λ piece. piece) (into_iter_items l.piece-iterator)) ≡ once (flat_map (λ piece. piece) l.fn.pieces.items);
}
