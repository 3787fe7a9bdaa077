use Rattle.gl_filters.specs.Picked.{edges_of_table}
use Rattle.gl_pruning.specs.bodies.Shares.{HasEdgesBelow}
use Rattle.gl_pruning.proofs.shares.share_at.Given as goal

-- it has those of the edges so far that lie in it
abbrev pub invariant-loop-position : goal.invariant-loop-position
invariant-loop-position l = HasEdgesBelow (edges_of_table l.sought.table.now) l.shares l.number l.position l.share
