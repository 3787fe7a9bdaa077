use Rattle.std.proofs.Common.{◌≡◌, ℕ, ◌<◌, true, Some, length}
use Rattle.std.specs.Prelude.{slice_get, All, Contains}
use Rattle.gl_kinds.proofs.rounds.Rounds.alive.Given as goal

-- those of the models so far
abbrev pub invariant-loop-place : goal.invariant-loop-place
invariant-loop-place l = All (λ j. j < length l.self.sought.table.now) l.alive.items
    × ((p i : ℕ) → p < l.place → slice_get l.models p ≡ Some i → ¬ (slice_get l.dead i ≡ Some true) → Contains l.alive.items i)
