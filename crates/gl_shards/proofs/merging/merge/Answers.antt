use Rattle.std.proofs.Common.{◌++◌, sym, ap, ◌∙◌}
use Rattle.std.specs.Vec.Iter.{into_iter_items}
use Rattle.gl_edges.specs.Edges.{once}
use Rattle.gl_shards.specs.Tables.{all_pairs}
use Rattle.gl_edges.proofs.Filling.{once_of_none, once_again, once_before}
use Rattle.std.proofs.lemmas.List.{append_assoc}
use Rattle.gl_shards.proofs.merging.merge.Goals as goal

pub loop-table-init : goal.loop-table-init
loop-table-init c = record {
  own = rw c.new-all.ensures once_of_none;
  whole = rw c.new-all.ensures (ap (λ tables. once (all_pairs tables)) c.into_iter-table-iterator.ensures.into_iter_gives.0);
}

pub loop-table-preserved : goal.loop-table-preserved
loop-table-preserved c =
    let all = c.loop-table.all in
    let table = c.in-Some.table in
    let rest = all_pairs (into_iter_items c.next.new.self) in
    record {
      own = rw c.in_ok-absorb.ensures (once_again (all ++ table));
      whole =
          rw c.in_ok-absorb.ensures
          (once_before (all ++ table) rest
          ∙ ap once (append_assoc all table rest)
          ∙ ap (λ tables. once (all ++ all_pairs tables)) (sym c.in-Some.ensures.steps.0)
          ∙ c.loop-table.invariant.whole);
    }
