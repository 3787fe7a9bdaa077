use Rattle.std.proofs.Common.{◌≡◌, vec_len}
use Rattle.gl_sought.proofs.components.put_all.Given as goal

-- the list of numbers stays as long as it was
abbrev pub invariant-loop-place : goal.invariant-loop-place
invariant-loop-place l = vec_len l.numbers ≡ vec_len l.fn.numbers
