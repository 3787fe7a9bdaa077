use Rattle.std.proofs.Common.{◌∙◌, eqb, arith}
use Rattle.gl_loops.specs.bodies.Ranks.{rank_in}
use Rattle.gl_loops.proofs.Level.{rises_at, rises_more, level_more}
use Rattle.gl_loops.proofs.loops.level_edges.Goals as goal

pub loop-i-preserved : goal.loop-i-preserved
loop-i-preserved c =
    let rank = rank_in c.args.ranks.now in
    let pair = c.index-table-i.result in record {
      certified = rises_more rank c.args.table.now c.loop-i.i pair c.loop-i-test.true c.loop-i.invariant.certified (omega (arith, c.rank-held.ensures, c.least-wanted.ensures));
      level = c.in_ok-push.ensures.items ∙ level_more rank c.args.table.now c.loop-i.i pair c.loop-i-test.true c.loop-i.level.items _ c.loop-i.invariant.level (λ k. eqb (c.rank-held.ensures k) (c.least-wanted.ensures k));
    }

-- the rank falls along this edge
pub returns-then-held-wanted-clause-refused : goal.returns-then-held-wanted-clause-refused
returns-then-held-wanted-clause-refused c = λ certified.
    let up = rises_at (rank_in c.args.ranks.now) c.args.table.now c.loop-i.i c.index-table-i.result c.loop-i-test.true certified in
    absurd (omega (arith, up, c.rank-held.ensures, c.least-wanted.ensures))
