use Rattle.std.proofs.Common.{length, Some, true, false, sym, ap, subst, ◌∙◌, arith}
use Rattle.std.proofs.lemmas.Bool.{false≢true}
use Rattle.std.proofs.lemmas.List.{length-map}
use Rattle.std.proofs.lemmas.Option.{slice_get-get_or, same_Some}
use Rattle.gl_segments.specs.Clocks.{is_before}
use Rattle.gl_filters.specs.Picked.{edges_of_table}
use Rattle.gl_index.specs.Listed.{IsNextWith}
use Rattle.gl_index.specs.Sides.{is_beside, opposite, lock_towards}
use Rattle.gl_index.proofs.Lists.{element_at, fewer_left}
use Rattle.gl_exclusions.specs.bodies.Partners.{IsNextBeside}
use Rattle.gl_sought.proofs.Places.{edge_is}
use Rattle.gl_exclusions.proofs.Partnered.{begins, goes_past}
use Rattle.gl_exclusions.proofs.partners.next_beside.Goals as goal
use Rattle.gl_exclusions.proofs.partners.next_beside.Goals.{else-kept-other-via-then-kept-other+else-stands_beside, else-kept-other-via-else-kept-other}

pub loop-next-init : goal.loop-next-init
loop-next-init c =
    let s = c.args.sought.now in
    let edges = edges_of_table s.table.now in
    let (before, are, stay) = c.requires.chain in
    let here = element_at edges c.args.x (omega (arith, c.requires.there, length-map s.table.now (λ pair. pair.0))) in
    let same = edge_is s.table.now c.index-sought-x.result c.args.x here.0 c.requires.there here.1 in
    begins (is_before s.order.now) s.mode edges c.args.kept.now c.args.side before stay c.args.x here.0 c.begin-next.result here.1
    (subst (λ e. IsNextWith (lock_towards (opposite c.args.side)) edges before (lock_towards c.args.side e) 0 c.begin-next.result) (sym same)
    (rw c.lock_of.ensures at c.begin-next.ensures edges before (opposite c.args.side) are))

pub loop-next-smaller : goal.loop-next-smaller
loop-next-smaller c =
    let s = c.args.sought.now in
    let edges = edges_of_table s.table.now in
    let (before, are, stay) = c.requires.chain in
    let next : IsNextBeside (is_before s.order.now) s.mode edges c.args.kept.now c.args.side c.args.x (Some c.in-Some.other) = rw c.in-Some.is at c.loop-next.invariant in
    let there = element_at edges c.in-Some.other next.shares.0 in
    fewer_left (length edges) (length s.table.now) c.loop-next.next c.in-Some.other c.after-next.result (length-map s.table.now (λ pair. pair.0)) c.in-Some.is next.shares.0
    (c.after-next.ensures edges before (opposite c.args.side) there.0 are there.1).from

pub loop-next-preserved : goal.loop-next-preserved
loop-next-preserved c =
    let s = c.args.sought.now in
    let edges = edges_of_table s.table.now in
    let (before, are, stay) = c.requires.chain in
    let next : IsNextBeside (is_before s.order.now) s.mode edges c.args.kept.now c.args.side c.args.x (Some c.in-Some.other) = rw c.in-Some.is at c.loop-next.invariant in
    let here = element_at edges c.args.x (omega (arith, c.requires.there, length-map s.table.now (λ pair. pair.0))) in
    let there = element_at edges c.in-Some.other next.shares.0 in
    goes_past (is_before s.order.now) s.mode edges c.args.kept.now c.args.side before stay c.args.x c.in-Some.other here.0 there.0 c.after-next.result here.1 there.1 next
    (λ left.
    elim c.else-kept-other.branch [
      | else-kept-other-via-then-kept-other+else-stands_beside w ↦
          let is_e = edge_is s.table.now c.index-sought-x.result c.args.x here.0 c.requires.there here.1 in
          let is_f = edge_is s.table.now w.index-sought-other.result c.in-Some.other there.0 (omega (arith, next.shares.0, length-map s.table.now (λ pair. pair.0))) there.1 in
          (λ k. is_beside (is_before s.order.now) s.mode c.args.side (is_e k) (is_f k)) ∙ sym w.stands_beside.ensures ∙ w.if-stands_beside.false
      | else-kept-other-via-else-kept-other w ↦
          let flag = slice_get-get_or c.args.kept.now c.in-Some.other false (omega (arith, next.shares.0, c.requires.flags, length-map s.table.now (λ pair. pair.0))) ∙ ap Some w.if-kept-other.false in
          absurd (false≢true (same_Some false true (sym flag ∙ left)))
    ])
    (c.after-next.ensures edges before (opposite c.args.side) there.0 are there.1)
