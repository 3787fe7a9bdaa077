use Rattle.std.proofs.Common.{◌≡◌, ℕ, [], ◌∷◌, true, Some, length}
use Rattle.std.specs.Prelude.{slice_get}
use Rattle.gl_segments.specs.Clocks.{is_before}
use Rattle.gl_filters.specs.Picked.{edges_of_table}
use Rattle.gl_kinds.specs.bodies.Gaps.{AreDeadEnds}
use Rattle.gl_kinds.specs.bodies.Kinds.{NoCycleThrough}
use Rattle.gl_kinds.proofs.rounds.Rounds.dead_models.Given as goal

-- so far the flags are set only where no cycle goes through
abbrev pub invariant-loop-i : goal.invariant-loop-i
invariant-loop-i l = (length l.dead.items ≡ l.i)
    × ((j : ℕ) → slice_get l.dead.items j ≡ Some true → NoCycleThrough (is_before l.self.sought.order.now) l.self.sought.mode l.self.grain l.self.sought.len (edges_of_table l.self.sought.table.now) (j ∷ []))
    × AreDeadEnds l.self l.ends.known.items
