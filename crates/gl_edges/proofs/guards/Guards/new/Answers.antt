use Rattle.std.proofs.Common.{◌∙◌, subst}
use Rattle.gl_edges.specs.Guards.{guard_eq}
use Rattle.gl_edges.specs.bodies.Marking.{AreMarksOf}
use Rattle.std.proofs.lemmas.List.Filters.{dedup_is}
use Rattle.gl_edges.proofs.Guarding.{dedup_ascends, dedup_is_ascending}
use Rattle.gl_edges.proofs.guards.Guards.new.Goals as goal

pub invariant_of-result : goal.invariant_of-result
invariant_of-result c =
    let once = dedup_is guard_eq c.sort_unstable.new.self.items c.dedup.new.self.items c.dedup.ensures.filtered in
    rw (c.from_vec.ensures.items, once) (record {
      ascending = dedup_ascends c.sort_unstable.new.self.items c.sort_unstable.ensures.sorted;
      marked = subst (AreMarksOf c.of-marks.result) (c.deref.ensures.value ∙ once) c.of-marks.ensures;
    })

pub returns : goal.returns
returns c =
    let once = dedup_is guard_eq c.sort_unstable.new.self.items c.dedup.new.self.items c.dedup.ensures.filtered in
    c.from_vec.ensures.items ∙ once ∙ dedup_is_ascending c.args.locks.items c.sort_unstable.new.self.items c.sort_unstable.ensures.permutation c.sort_unstable.ensures.sorted
