use Rattle.std.proofs.Common.{length, Some, true, false, sym, ap, ◌∙◌, arith}
use Rattle.std.proofs.lemmas.Bool.{false≢true}
use Rattle.std.proofs.lemmas.List.{length-map}
use Rattle.std.proofs.lemmas.Option.{slice_get-get_or, same_Some}
use Rattle.gl_segments.specs.Clocks.{is_before}
use Rattle.gl_filters.specs.Picked.{edges_of_table}
use Rattle.gl_trims.specs.bodies.Trimming.{IsStart}
use Rattle.gl_index.specs.Sides.{opposite}
use Rattle.gl_index.proofs.Lists.{element_at, fewer_left}
use Rattle.gl_trims.proofs.Beside.{start_after}
use Rattle.gl_trims.proofs.trims.Trimming.next_beside.Goals as goal
use Rattle.gl_trims.proofs.trims.Trimming.next_beside.Goals.{else-not-gone-other-via-then-not-gone-other+else-fits, else-not-gone-other-via-else-not-gone-other}

pub loop-next-smaller : goal.loop-next-smaller
loop-next-smaller c =
    let s = c.args.self.now in
    let edges = edges_of_table s.table.now in
    let start : IsStart (is_before s.order.now) s.mode edges c.args.gone.now c.args.side c.args.i (Some c.in-Some.other) = rw c.in-Some.is at c.loop-next.invariant in
    let there = element_at edges c.in-Some.other start.shares.0 in
    fewer_left (length edges) (length s.table.now) c.loop-next.next c.in-Some.other c.after-next.result (length-map s.table.now (λ pair. pair.0)) c.in-Some.is start.shares.0
    (c.after-next.ensures edges _ (opposite c.args.side) there.0 c.requires.chain there.1).from

pub loop-next-preserved : goal.loop-next-preserved
loop-next-preserved c =
    let s = c.args.self.now in
    let edges = edges_of_table s.table.now in
    let start : IsStart (is_before s.order.now) s.mode edges c.args.gone.now c.args.side c.args.i (Some c.in-Some.other) = rw c.in-Some.is at c.loop-next.invariant in
    let here = element_at edges c.args.i (omega (arith, c.requires.here, length-map s.table.now (λ pair. pair.0))) in
    let there = element_at edges c.in-Some.other start.shares.0 in
    start_after (is_before s.order.now) s.mode edges c.args.gone.now c.args.side c.args.i c.in-Some.other here.0 there.0 c.after-next.result here.1 there.1 start.passed (start.shares.1 here.0 there.0 here.1 there.1)
    (λ left.
    elim c.else-not-gone-other.branch [
      | else-not-gone-other-via-then-not-gone-other+else-fits w ↦ sym (w.fits.ensures here.0 there.0 here.1 there.1) ∙ w.if-fits.false
      | else-not-gone-other-via-else-not-gone-other w ↦
          let flag = slice_get-get_or c.args.gone.now c.in-Some.other false (omega (arith, start.shares.0, c.requires.flags, length-map s.table.now (λ pair. pair.0))) ∙ ap Some w.if-not-gone-other.false in
          absurd (false≢true (same_Some false true (sym left ∙ flag)))
    ])
    (c.after-next.ensures edges _ (opposite c.args.side) there.0 c.requires.chain there.1)
