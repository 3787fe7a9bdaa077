use Rattle.std.proofs.Common.{◌≡◌, ◌<◌, true, false, length, Some, ap, arith, ◌∙◌, sym}
use Rattle.std.specs.Prelude.{slice_get}
use Rattle.std.proofs.lemmas.Bool.{false≢true}
use Rattle.std.proofs.lemmas.List.{length-map}
use Rattle.std.proofs.lemmas.Option.{slice_get-get_or, same_Some}
use Rattle.gl_segments.specs.Clocks.{is_before}
use Rattle.gl_filters.specs.Picked.{edges_of_table}
use Rattle.gl_loops.specs.bodies.Epochs.{epoch_at}
use Rattle.gl_loops.specs.bodies.Loops.{held_rank, wanted_rank}
use Rattle.gl_loops.specs.bodies.Ranks.{rank_of_epoch}
use Rattle.gl_sought.proofs.Back.{keeps_more}
use Rattle.gl_sought.proofs.Places.{edge_is}
use Rattle.gl_sought.proofs.Fewer.{stay_out_at}
use Rattle.gl_loops.proofs.Rising.{rising_off}
use Rattle.gl_loops.proofs.loops.leave_out_if_rising.Goals as goal

pub returns-then-held_rank-wanted_rank : goal.returns-then-held_rank-wanted_rank
returns-then-held_rank-wanted_rank c =
    let s = c.args.sought.now in
    let edges = edges_of_table s.table.now in
    let kept = c.args.kept.now.items in
    let rank = rank_of_epoch c.args.ranks.now in
    let epoch = epoch_at c.args.epochs.now in
    let x = c.args.i in
    let within : x < length kept = omega (arith, c.requires.there, c.requires.kept.long, length-map s.table.now (λ pair. pair.0)) in
    let stays : ¬ (slice_get kept x ≡ Some false) = λ out. false≢true (same_Some false true (sym out ∙ slice_get-get_or kept x c.index.result.now within ∙ ap Some (sym c.index.ensures ∙ c.if-not-index.false))) in
    record {
      keeps = keeps_more (is_before s.order.now) s.mode s.len edges kept c.requires.kept x within
          (λ e at. rising_off (is_before s.order.now) s.mode s.len edges kept rank epoch c.requires.kept c.requires.cut c.requires.certified x e at stays
          (λ same.
          let is = edge_is s.table.now c.index-sought-i.result x e c.requires.there at in
          c.if-held_rank-wanted_rank.true
          (c.held_rank.ensures ∙ (λ k. held_rank (rank (c.epoch-epoch.ensures k)) (sym is k)) ∙ same ∙ (λ k. wanted_rank (rank (sym c.epoch-epoch.ensures k)) (is k)) ∙ sym c.wanted_rank.ensures)));
      stay = stay_out_at kept x within;
    }
