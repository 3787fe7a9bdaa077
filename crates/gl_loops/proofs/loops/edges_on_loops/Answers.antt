use Rattle.gl_filters.specs.Picked.{edges_of_table}
use Rattle.gl_loops.specs.bodies.Ranks.{rank_in}
use Rattle.gl_loops.proofs.Level.{level_keeps}
use Rattle.gl_loops.proofs.loops.edges_on_loops.Goals as goal

pub returns-in-Some : goal.returns-in-Some
returns-in-Some c = level_keeps (rank_in c.in_ok-ranks.ranks) (edges_of_table c.args.table.now) _ (rw c.in-Some.is at c.in_ok-level.ensures.certified) (rw c.in-Some.is at c.in_ok-level.ensures.level)
