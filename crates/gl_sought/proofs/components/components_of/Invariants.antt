use Rattle.std.proofs.Common.{◌≡◌, vec_len}
use Rattle.gl_sought.proofs.components.components_of.Given as goal

-- each place has its number
abbrev pub invariant-loop-number : goal.invariant-loop-number
invariant-loop-number l = vec_len l.numbers ≡ l.places
