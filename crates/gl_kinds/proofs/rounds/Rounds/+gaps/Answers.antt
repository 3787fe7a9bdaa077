use Rattle.std.proofs.Common.{◌≤◌, length, get_or, refl, sym, subst, arith}
use Rattle.std.proofs.lemmas.Option.{get_or_from_slice_get, slice_get_within}
use Rattle.gl_sought.proofs.Answered.{ok_then}
use Rattle.gl_segments.specs.Clocks.{is_before}
use Rattle.gl_filters.specs.Picked.{edges_of_table}
use Rattle.gl_kinds.specs.bodies.Gaps.{IsHopeless}
use Rattle.gl_kinds.proofs.Closing.{hopeless_short, hopeless_known, hopeless_tried, hopeless_more, tried_next, none_stray, none_behind}
use Rattle.gl_index.proofs.Tables.{edge_at}
use Rattle.gl_kinds.proofs.rounds.Rounds.+gaps.Goals as goal

-- no edge may come any more
pub may_close_gap-returns-then-left-eq0-clause-none : goal.may_close_gap-returns-then-left-eq0-clause-none
may_close_gap-returns-then-left-eq0-clause-none t c = λ no.
    let r = c.args.self.now in
    let s = r.sought in
    hopeless_short (is_before s.order.now) s.mode r.grain s.len (edges_of_table s.table.now) r.flags.items c.args.gap.now c.args.rest.now (sym c.if-is_closed.ensures) (omega (arith, c.if-left-eq0.true))

-- it is remembered
pub may_close_gap-returns-then-has-clause-none : goal.may_close_gap-returns-then-has-clause-none
may_close_gap-returns-then-has-clause-none t c = λ no.
    let r = c.args.self.now in
    let s = r.sought in
    hopeless_known (is_before s.order.now) s.mode r.grain s.len (edges_of_table s.table.now) r.flags.items c.args.ends.now.known.items c.args.gap.now c.args.rest.now c.requires.ends (c.if-has.ensures refl)

-- one model more
pub may_close_gap-loop-place-preserved : goal.may_close_gap-loop-place-preserved
may_close_gap-loop-place-preserved t c =
    let r = c.args.self.now in
    let s = r.sought in (
      c.in_ok-may.ensures.ends,
      tried_next (is_before s.order.now) s.mode r.grain s.len (edges_of_table s.table.now) r.flags.items c.args.gap.now c.args.rest.now c.loop-place.place _ c.loop-place.invariant.1
          (λ i at. get_or_from_slice_get c.args.rest.now c.loop-place.place i _ at) (c.in_ok-may.ensures.none c.if-may.false),
      omega (arith, c.loop-place.invariant.2, c.in_ok-may.ensures.spent),
    )

-- all were tried
pub may_close_gap-returns-clause-none : goal.may_close_gap-returns-clause-none
may_close_gap-returns-clause-none t c = λ no.
    let r = c.args.self.now in
    let s = r.sought in
    let whole : length c.args.rest.now ≤ c.loop-place.place = omega arith in
    hopeless_tried (is_before s.order.now) s.mode r.grain s.len (edges_of_table s.table.now) r.flags.items c.requires.models.models c.args.gap.now c.args.rest.now (sym c.if-is_closed.ensures)
    (λ p i at. c.loop-place.invariant.1 p i (omega (arith, slice_get_within c.args.rest.now p i at, whole)) at)

-- and that is remembered
pub may_close_gap-returns-clause-ends : goal.may_close_gap-returns-clause-ends
may_close_gap-returns-clause-ends t c =
    let r = c.args.self.now in
    let s = r.sought in
    let whole : length c.args.rest.now ≤ c.loop-place.place = omega arith in
    hopeless_more (is_before s.order.now) s.mode r.grain s.len (edges_of_table s.table.now) r.flags.items c.loop-place.ends.known.items c.add.new.self.known.items c.args.gap.now c.args.rest.now c.loop-place.invariant.0
    (hopeless_tried (is_before s.order.now) s.mode r.grain s.len (edges_of_table s.table.now) r.flags.items c.requires.models.models c.args.gap.now c.args.rest.now (sym c.if-is_closed.ensures)
    (λ p i at. c.loop-place.invariant.1 p i (omega (arith, slice_get_within c.args.rest.now p i at, whole)) at)) c.in_ok-add.ensures

-- the model can't come next
pub may_close_gap_by-returns-then-not-leads_to-clause-none : goal.may_close_gap_by-returns-then-not-leads_to-clause-none
may_close_gap_by-returns-then-not-leads_to-clause-none t c = λ no.
    let r = c.args.self.now in
    let s = r.sought in
    none_stray (is_before s.order.now) s.mode r.grain s.len (edges_of_table s.table.now) r.flags.items c.args.gap.now c.args.rest.now c.args.next (get_or s.table.now c.args.next c.index-self-next.result).0 (edge_at s.table.now c.args.next c.index-self-next.result c.requires.there) (sym c.if-not-leads_to.ensures)

-- nothing closes what is missing behind it
pub may_close_gap_by-returns-clause-none : goal.may_close_gap_by-returns-clause-none
may_close_gap_by-returns-clause-none t c =
    let r = c.args.self.now in
    let s = r.sought in
    let d = (get_or s.table.now c.args.next c.index-self-next.result).0 in
    let some = c.in_ok-some.some.items in
    ok_then c.may_close_gap.result _ _ c.may_close_gap.ensures.none
    (λ may none no. none_behind (is_before s.order.now) s.mode r.grain s.len (edges_of_table s.table.now) r.flags.items c.args.gap.now c.args.rest.now some c.args.next d (edge_at s.table.now c.args.next c.index-self-next.result c.requires.there) c.in_ok-some.ensures.narrowed
    (subst (λ g. IsHopeless (is_before s.order.now) s.mode r.grain s.len (edges_of_table s.table.now) r.flags.items g some) c.behind-behind.ensures
    (subst (IsHopeless (is_before s.order.now) s.mode r.grain s.len (edges_of_table s.table.now) r.flags.items c.behind-behind.result) c.deref.ensures.value (none no))))
