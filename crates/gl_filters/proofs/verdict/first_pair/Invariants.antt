use Rattle.std.proofs.Common.{ℕ, ◌<◌, length}
use Rattle.gl_segments.specs.Clocks.{is_before}
use Rattle.gl_filters.specs.Picked.{edges_of_table, picked}
use Rattle.gl_filters.specs.Verdicts.{IsFree}
use Rattle.gl_filters.specs.bodies.Clashing.{clashes}
use Rattle.gl_filters.proofs.verdict.first_pair.Given as goal

abbrev pub invariant-loop-i : goal.invariant-loop-i
invariant-loop-i l = (k : ℕ) → k < l.i → IsFree (clashes (is_before l.order) l.clash) (picked (edges_of_table l.table) l.cycle) k (length (picked (edges_of_table l.table) l.cycle))
