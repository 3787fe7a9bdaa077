use Rattle.std.proofs.Common.{◌≡◌, map, take}
use Rattle.gl_filters.specs.Picked.{edges_of_table}
use Rattle.gl_loops.specs.bodies.Loops.{NoneFalls, is_level}
use Rattle.gl_loops.specs.bodies.Ranks.{rank_in}
use Rattle.gl_loops.proofs.loops.level_edges.Given as goal

-- the rank falls along none of the edges so far, and these have their flags
abbrev pub invariant-loop-i : goal.invariant-loop-i
invariant-loop-i l = record {
  certified : NoneFalls (rank_in l.ranks) (edges_of_table (take l.i l.table));
  level : l.level.items ≡ map (is_level (rank_in l.ranks)) (edges_of_table (take l.i l.table));
}
