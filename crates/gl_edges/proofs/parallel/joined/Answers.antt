use Rattle.std.proofs.Common.{◌++◌, sym, ap, ◌∙◌, append_assoc}
use Rattle.std.specs.List.{flat_map}
use Rattle.std.specs.Vec.Iter.{into_iter_items}
use Rattle.gl_edges.proofs.parallel.joined.Goals as goal

pub loop-piece-init : goal.loop-piece-init
loop-piece-init c = rw c.new-pairs.ensures.items (ap (flat_map (λ piece. piece)) c.into_iter-piece-iterator.ensures.into_iter_gives.0)

pub loop-piece-preserved : goal.loop-piece-preserved
loop-piece-preserved c =
    let pairs = c.loop-piece.pairs.items in
    let rest = into_iter_items c.next.new.self in
    ap (λ xs. xs ++ flat_map (λ piece. piece) rest) (c.in_ok-reserve.ensures.items ∙ c.in_ok-move_behind.ensures.all ∙ ap (λ more. pairs ++ more) c.into_vec-more.ensures.pairs)
    ∙ append_assoc pairs c.in-Some.piece (flat_map (λ piece. piece) rest)
    ∙ ap (λ pieces. pairs ++ flat_map (λ piece. piece) pieces) (sym c.in-Some.ensures.steps.0)
    ∙ c.loop-piece.invariant
