use Rattle.std.proofs.Common.{◌≡◌, ◌<◌, ℕ, false, get_or, eqb}
use Rattle.gl_check.proofs.input.first_line_end.Given as goal

-- none so far is one
abbrev pub invariant-loop-i : goal.invariant-loop-i
invariant-loop-i l = (k : ℕ) → k < l.i → eqb (get_or l.input k 0) 10 ≡ false
