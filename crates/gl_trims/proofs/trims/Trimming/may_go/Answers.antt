use Rattle.std.proofs.Common.{false, Some, ap, ◌∙◌, arith}
use Rattle.std.proofs.lemmas.List.{length-map}
use Rattle.std.proofs.lemmas.Option.{slice_get-get_or}
use Rattle.gl_segments.specs.Clocks.{is_before}
use Rattle.gl_filters.specs.Picked.{edges_of_table}
use Rattle.gl_index.specs.declared.sides.Side.TheVariants.{Follower, Leader}
use Rattle.gl_trims.proofs.Accepting.{leader_if_stuck}
use Rattle.gl_index.proofs.Lists.{element_at}
use Rattle.gl_trims.proofs.Beside.{stuck_from}
use Rattle.gl_trims.proofs.trims.Trimming.may_go.Goals as goal

-- no follower is left
pub returns-then-lacks : goal.returns-then-lacks
returns-then-lacks c =
    let s = c.args.self.now in
    let here = element_at (edges_of_table s.table.now) c.args.i (let within = c.if-i-self.false in omega (arith, within, length-map s.table.now (λ pair. pair.0))) in
    let left = slice_get-get_or c.args.gone.now c.args.i false (let within = c.if-i-self.false in omega (arith, within, c.requires.flags)) ∙ ap Some c.if-gone-i.false in
    (λ yes. stuck_from (is_before s.order.now) s.mode (edges_of_table s.table.now) c.args.gone.now c.args.i Follower here.0 here.1 left ((c.lacks.ensures here.0 here.1).0 yes), λ stuck. c.if-lacks.true)

-- one is, so the leader decides
pub returns-else-lacks : goal.returns-else-lacks
returns-else-lacks c =
    let s = c.args.self.now in
    let here = element_at (edges_of_table s.table.now) c.args.i (let within = c.if-i-self.false in omega (arith, within, length-map s.table.now (λ pair. pair.0))) in
    let left = slice_get-get_or c.args.gone.now c.args.i false (let within = c.if-i-self.false in omega (arith, within, c.requires.flags)) ∙ ap Some c.if-gone-i.false in (
      λ yes. stuck_from (is_before s.order.now) s.mode (edges_of_table s.table.now) c.args.gone.now c.args.i Leader here.0 here.1 left ((c.lacks-else-lacks.ensures here.0 here.1).0 yes),
      leader_if_stuck (is_before s.order.now) s.mode (edges_of_table s.table.now) c.args.gone.now c.args.i here.0 c.lacks.result c.lacks-else-lacks.result here.1 (c.lacks.ensures here.0 here.1) (c.lacks-else-lacks.ensures here.0 here.1) c.if-lacks.false,
    )
