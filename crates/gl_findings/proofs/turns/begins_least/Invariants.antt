use Rattle.std.proofs.Common.{◌≡◌, true}
use Rattle.std.specs.List.{list_all, range_with_len}
use Rattle.std.specs.Cmp.Lexicographic.{slice_cmp}
use Rattle.std.specs.Ordering.{nat_cmp, is_le}
use Rattle.gl_findings.specs.Findings.{turned}
use Rattle.gl_findings.proofs.turns.begins_least.Given as goal

-- no turn so far is less
abbrev pub invariant-loop-k : goal.invariant-loop-k
invariant-loop-k l = list_all (λ k. is_le (slice_cmp nat_cmp l.signature (turned k l.signature))) (range_with_len 0 l.k) ≡ true
