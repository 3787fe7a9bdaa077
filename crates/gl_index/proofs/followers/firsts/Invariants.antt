use Rattle.std.proofs.Common.{◌≡◌, map, take}
use Rattle.gl_index.specs.Indexes.{first_in_chain}
use Rattle.gl_index.proofs.followers.firsts.Given as goal

-- those of the edges so far
abbrev pub invariant-loop-i : goal.invariant-loop-i
invariant-loop-i l = l.firsts.items ≡ map (λ pair. first_in_chain l.holders pair.0.wanted) (take l.i l.table)
