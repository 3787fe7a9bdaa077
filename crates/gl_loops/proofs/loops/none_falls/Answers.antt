use Rattle.std.proofs.Common.{◌≤◌, Some, false, get_or, sym, ap, subst, ◌∙◌, arith}
use Rattle.std.proofs.lemmas.List.{length-map}
use Rattle.std.proofs.lemmas.Option.{slice_get-get_or, slice_get_within}
use Rattle.gl_filters.specs.Picked.{edges_of_table}
use Rattle.gl_loops.specs.bodies.Epochs.{epoch_at}
use Rattle.gl_loops.specs.bodies.Loops.{held_rank, wanted_rank}
use Rattle.gl_loops.specs.bodies.Ranks.{rank_of_epoch}
use Rattle.gl_sought.proofs.Places.{edge_is}
use Rattle.gl_loops.proofs.Rising.{none_falls_more}
use Rattle.gl_loops.proofs.loops.none_falls.Goals as goal
use Rattle.gl_loops.proofs.loops.none_falls.Goals.{else-kept-i-via-then-kept-i+else-held-wanted, else-kept-i-via-else-kept-i}

pub loop-i-preserved : goal.loop-i-preserved
loop-i-preserved c =
    let table = c.args.sought.now.table.now in
    let rank = rank_of_epoch c.args.ranks.now in
    let epoch = epoch_at c.args.epochs.now in
    let here = (get_or table c.loop-i.i c.index-sought-i.result).0 in
    none_falls_more (edges_of_table table) c.args.kept.now rank epoch c.loop-i.i c.loop-i.invariant
    (λ e at stays.
    let same = edge_is table c.index-sought-i.result c.loop-i.i e c.loop-i-test.true at in
    let held = c.held_rank-held.ensures ∙ ap (λ n. held_rank (rank n) here) c.epoch-epoch.ensures in
    let wanted = c.wanted_rank-wanted.ensures ∙ ap (λ n. wanted_rank (rank n) here) c.epoch-epoch.ensures in
    subst (λ d. held_rank (rank (epoch c.loop-i.i)) d ≤ wanted_rank (rank (epoch c.loop-i.i)) d) (sym same)
    (elim c.else-kept-i.branch [
      | else-kept-i-via-then-kept-i+else-held-wanted w ↦ omega (arith, w.if-held-wanted.false, held, wanted)
      | else-kept-i-via-else-kept-i w ↦ absurd (stays (slice_get-get_or c.args.kept.now c.loop-i.i false (omega (arith, c.loop-i-test.true, c.requires)) ∙ ap Some w.if-kept-i.false))
    ]))

pub returns : goal.returns
returns c = λ _ i e at stays.
    let table = c.args.sought.now.table.now in
    c.loop-i.invariant i e (omega (arith, c.loop-i-test.false, slice_get_within (edges_of_table table) i e at, length-map table (λ pair. pair.0))) at stays
