use Rattle.std.proofs.Common.{◌≡◌, ◌++◌}
use Rattle.std.specs.List.{flat_map}
use Rattle.std.specs.Vec.Iter.{into_iter_items}
use Rattle.gl_edges.proofs.parallel.joined.Given as goal

-- the pairs so far and those of the other pieces are all
abbrev pub invariant-loop-piece : goal.invariant-loop-piece
invariant-loop-piece l = l.pairs.items ++ flat_map (λ piece. piece) (into_iter_items l.piece-iterator) ≡ flat_map (λ piece. piece) l.fn.pieces.items
