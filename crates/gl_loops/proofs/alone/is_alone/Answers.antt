use Rattle.std.proofs.Common.{Bool, List, length, inl, inr}
use Rattle.std.specs.Prelude.{IsTrue}
use Rattle.gl_edges.specs.declared.edge.Edge.{Edge}
use Rattle.gl_filters.specs.Picked.{edges_of_table}
use Rattle.gl_index.specs.declared.sides.Side.TheVariants.{Follower, Leader}
use Rattle.gl_loops.specs.Alone.{IsAlone}
use Rattle.gl_loops.specs.bodies.Users.{KnowUsers}
use Rattle.gl_loops.proofs.ByUsers.{off_unfollowed, off_unled}
use Rattle.gl_loops.proofs.Lone.{only_known}
use Rattle.gl_loops.proofs.alone.is_alone.Goals as goal

pub returns-then-has_only-clause-off : goal.returns-then-has_only-clause-off
returns-then-has_only-clause-off c = λ _. off_unfollowed c.args.sought.now c.args.holders.now c.args.edge.now c.requires.holders (c.has_only.ensures.0 c.if-has_only.true)

pub returns-clause-off : goal.returns-clause-off
returns-clause-off c = λ only. off_unled c.args.sought.now c.args.wanters.now c.args.edge.now c.requires.wanters (c.has_only-2.ensures.0 only)

-- some other thread holds the lock that it wants, so none wants the one that it holds
pub returns-clause-alone : goal.returns-clause-alone
returns-clause-alone c = λ kept know alone. by kept know alone
  where
    edges : List Edge
    edges = edges_of_table c.args.sought.now.table.now

    by : (kept : List Bool) → KnowUsers edges kept c.args.holders.now c.args.wanters.now → IsAlone edges kept c.args.edge.now → IsTrue c.has_only-2.result
    by kept know (inl only) = let here = c.has_only.ensures.1 (only_known Leader edges kept (length edges) c.args.edge.now.wanted c.args.edge.now.thread c.args.holders.now know.of_holders only) in absurd (cc (here, c.if-has_only.false))
    by kept know (inr only) = c.has_only-2.ensures.1 (only_known Follower edges kept (length edges) c.args.edge.now.held c.args.edge.now.thread c.args.wanters.now know.of_wanters only)
