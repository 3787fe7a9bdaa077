use Rattle.std.proofs.Common.{false, Some, sym, ap, ◌∙◌, arith}
use Rattle.std.proofs.lemmas.Bool.{false≢true}
use Rattle.std.proofs.lemmas.List.{length-map}
use Rattle.std.proofs.lemmas.Option.{slice_get-get_or}
use Rattle.gl_segments.specs.Clocks.{is_before}
use Rattle.gl_filters.specs.Picked.{edges_of_table}
use Rattle.gl_index.specs.declared.sides.Side.TheVariants.{Follower}
use Rattle.gl_index.proofs.Lists.{element_at}
use Rattle.gl_trims.proofs.Beside.{stuck_from, told_by_both}
use Rattle.gl_trims.proofs.trims.Trimming.is_stuck.Goals as goal

-- no follower is left
pub returns-then-not-branch-clause-tells : goal.returns-then-not-branch-clause-tells
returns-then-not-branch-clause-tells c =
    let s = c.args.self.now in
    let here = element_at (edges_of_table s.table.now) c.args.i (omega (arith, c.requires.here, length-map s.table.now (λ pair. pair.0))) in
    let left = slice_get-get_or c.args.gone.now c.args.i false (omega (arith, c.requires.here, c.requires.flags)) ∙ ap Some c.if-gone-i.false in
    record {
      yes = λ is. stuck_from (is_before s.order.now) s.mode (edges_of_table s.table.now) c.args.gone.now c.args.i Follower here.0 here.1 left (c.in_ok-has_beside.ensures.tells.none c.if-not-branch.true here.0 here.1);
      no = λ is. absurd (false≢true (sym is));
    }

-- one is, so the leader decides
pub returns-clause-tells : goal.returns-clause-tells
returns-clause-tells c =
    let s = c.args.self.now in
    let here = element_at (edges_of_table s.table.now) c.args.i (omega (arith, c.requires.here, length-map s.table.now (λ pair. pair.0))) in
    let left = slice_get-get_or c.args.gone.now c.args.i false (omega (arith, c.requires.here, c.requires.flags)) ∙ ap Some c.if-gone-i.false in
    told_by_both (is_before s.order.now) s.mode (edges_of_table s.table.now) c.args.gone.now c.args.i here.0 _ here.1 left (c.in_ok-has_beside.ensures.tells.some c.if-not-branch.false) c.in_ok-has_leader.has_leader c.in_ok-has_leader.ensures.tells
