use Rattle.std.proofs.Common.{ℕ, ◌<◌}
use Rattle.gl_filters.specs.Picked.{edges_of_table, picked}
use Rattle.gl_filters.specs.Verdicts.{IsClosedAt}
use Rattle.gl_filters.proofs.verdict.first_open.Given as goal

abbrev pub invariant-loop-i : goal.invariant-loop-i
invariant-loop-i l = (k : ℕ) → k < l.i → IsClosedAt (picked (edges_of_table l.table) l.cycle) k
