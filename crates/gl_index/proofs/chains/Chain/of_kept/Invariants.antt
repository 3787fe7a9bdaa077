use Rattle.gl_filters.specs.Picked.{edges_of_table}
use Rattle.gl_index.specs.Indexes.{AreChainedKept}
use Rattle.gl_index.proofs.chains.Chain.of_kept.Given as goal

-- the edges from position i on are in the index
abbrev pub invariant-loop-i : goal.invariant-loop-i
invariant-loop-i l = AreChainedKept l.side (edges_of_table l.table) l.kept l.i l.chain
