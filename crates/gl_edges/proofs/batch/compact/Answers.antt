use Rattle.std.proofs.Common.{◌∙◌, sym, of_calls}
use Rattle.std.proofs.RetainMut.{IsDeduped-is_dedup}
use Rattle.gl_edges.proofs.Batching.{left_ascends, left_same, same_edge}
use Rattle.gl_edges.proofs.batch.compact.Goals as goal

pub dedup_by-requires : goal.dedup_by-requires
dedup_by-requires c = search of_calls parts 8

pub returns-clause-same : goal.returns-clause-same
returns-clause-same c =
    left_same c.args.pairs.now.items c.sort.new.pairs.items c.dedup_by.new.self.items c.sort.ensures.same c.sort.ensures.sorted
    (IsDeduped-is_dedup _ _ _ _ c.dedup_by.ensures.filtered same_edge
    (λ s x k b t x' k' h. let met = h.called.met.0 in (met.0 ∙ (λ i. same_edge (h.shows.0 i) (h.shows.1 i)), (sym h.leaves.0 ∙ met.1 ∙ h.shows.0, sym h.leaves.1 ∙ met.2 ∙ h.shows.1))))

pub returns-clause-ascending : goal.returns-clause-ascending
returns-clause-ascending c =
    left_ascends c.args.pairs.now.items c.sort.new.pairs.items c.dedup_by.new.self.items c.sort.ensures.same c.sort.ensures.sorted
    (IsDeduped-is_dedup _ _ _ _ c.dedup_by.ensures.filtered same_edge
    (λ s x k b t x' k' h. let met = h.called.met.0 in (met.0 ∙ (λ i. same_edge (h.shows.0 i) (h.shows.1 i)), (sym h.leaves.0 ∙ met.1 ∙ h.shows.0, sym h.leaves.1 ∙ met.2 ∙ h.shows.1))))
