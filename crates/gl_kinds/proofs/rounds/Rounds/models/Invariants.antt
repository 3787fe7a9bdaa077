use Rattle.std.proofs.Common.{◌≡◌, ℕ, ◌<◌, true, Some, length}
use Rattle.std.specs.Prelude.{slice_get, All, Contains}
use Rattle.gl_kinds.proofs.rounds.Rounds.models.Given as goal

-- the models so far
abbrev pub invariant-loop-i : goal.invariant-loop-i
invariant-loop-i l = All (λ j. j < length l.self.sought.table.now) l.models.items × ((j : ℕ) → j < l.i → slice_get l.self.flags.items j ≡ Some true → Contains l.models.items j)
