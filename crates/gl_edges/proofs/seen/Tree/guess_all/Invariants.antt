use Rattle.std.proofs.Common.{◌≡◌}
use Rattle.gl_edges.proofs.seen.Tree.guess_all.Given as goal

abbrev pub invariant-loop-at : goal.invariant-loop-at
invariant-loop-at l = l.self ≡ l.fn.self
