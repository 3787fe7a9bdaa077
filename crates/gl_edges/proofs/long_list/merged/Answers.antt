use Rattle.std.proofs.Common.{◌++◌, sym, ap, ◌∙◌, append_assoc}
use Rattle.std.specs.List.{flat_map}
use Rattle.std.specs.Vec.Iter.{into_iter_items}
use Rattle.gl_edges.specs.Edges.{once}
use Rattle.gl_edges.proofs.Filling.{once_again, once_before, once_of_none}
use Rattle.gl_edges.proofs.long_list.merged.Goals as goal

pub loop-piece-init : goal.loop-piece-init
loop-piece-init c = record {
  own = rw c.new-batch.ensures once_of_none;
  whole = rw c.new-batch.ensures (ap (λ pieces. once (flat_map (λ piece. piece) pieces)) c.into_iter-piece-iterator.ensures.into_iter_gives.0);
}

pub loop-piece-preserved : goal.loop-piece-preserved
loop-piece-preserved c =
    let old = c.loop-piece.batch in
    let piece = c.in-Some.piece in
    let rest = into_iter_items c.next.new.self in
    let is = c.in_ok-add_list.ensures in
    record {
      own = ap once is ∙ once_again (old ++ piece) ∙ sym is;
      whole =
          ap (λ now. once (now ++ flat_map (λ p. p) rest)) is
          ∙ once_before (old ++ piece) (flat_map (λ p. p) rest)
          ∙ ap once (append_assoc old piece (flat_map (λ p. p) rest))
          ∙ ap (λ pieces. once (old ++ flat_map (λ p. p) pieces)) (sym c.in-Some.ensures.steps.0)
          ∙ c.loop-piece.invariant.whole;
    }
