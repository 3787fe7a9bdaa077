use Rattle.std.proofs.Common.{◌≡◌, map, take}
use Rattle.gl_sought.specs.Numbers.{number_in}
use Rattle.gl_sought.specs.Walks.{ends_in}
use Rattle.gl_sought.proofs.numbers.Numbers.of_edges.Given as goal

-- those of the edges so far
abbrev pub invariant-loop-i : goal.invariant-loop-i
invariant-loop-i l = l.ends.items ≡ map (λ pair. ends_in (number_in l.self) pair.0) (take l.i l.table)
