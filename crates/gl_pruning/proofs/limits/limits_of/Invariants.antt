use Rattle.std.proofs.Common.{◌≡◌, ℕ, Some, length}
use Rattle.std.specs.Prelude.{slice_get}
use Rattle.gl_segments.specs.Clocks.{is_before}
use Rattle.gl_filters.specs.Picked.{edges_of_table}
use Rattle.gl_pruning.specs.Limits.{IsLimit}
use Rattle.gl_pruning.proofs.limits.limits_of.Given as goal

-- so far there is a limit for each edge
abbrev pub invariant-loop-i : goal.invariant-loop-i
invariant-loop-i l = (length l.limits.items ≡ l.i)
    × ((i limit : ℕ) → slice_get l.limits.items i ≡ Some limit → IsLimit (is_before l.sought.order.now) l.sought.mode l.sought.len (edges_of_table l.sought.table.now) i limit)
