use Rattle.std.proofs.Common.{◌≡◌, ℕ, ◌<◌, true}
use Rattle.std.specs.Prelude.{slice_index_or}
use Rattle.gl_intake.specs.declared.intake.ThreadCursor.{ThreadCursor}
use Rattle.gl_intake.proofs.intake.Intake.all_ended.Given as goal

-- each thread so far has ended
abbrev pub invariant-loop-cursor : goal.invariant-loop-cursor
invariant-loop-cursor l = (thread : ℕ) (d : ThreadCursor) → thread < l.cursor-index → (slice_index_or l.cursor-items thread d).has_ended ≡ true
