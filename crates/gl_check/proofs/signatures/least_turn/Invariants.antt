use Rattle.std.proofs.Common.{◌≡◌}
use Rattle.std.specs.List.{fold, range_with_len}
use Rattle.gl_findings.specs.Findings.{turned}
use Rattle.gl_check.specs.Signatures.{lesser_list}
use Rattle.gl_check.proofs.signatures.least_turn.Given as goal

-- the least of the turns so far
abbrev pub invariant-loop-k : goal.invariant-loop-k
invariant-loop-k l = l.least.items ≡ fold (λ least k. lesser_list least (turned k l.signature)) l.signature (range_with_len 0 l.k)
