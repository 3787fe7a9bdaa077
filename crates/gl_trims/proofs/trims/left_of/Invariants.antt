use Rattle.std.proofs.Common.{◌≡◌, ℕ, List, length, filter, not, eqb}
use Rattle.std.specs.List.{list_any, range_with_len}
use Rattle.gl_edges.specs.declared.edge.Edge.{Edge}
use Rattle.gl_trims.specs.bodies.Trimming.{AreFlagsOf}
use Rattle.gl_trims.proofs.trims.left_of.Given as goal

-- those so far that aren't flagged
abbrev pub invariant-loop-i : goal.invariant-loop-i
invariant-loop-i l = (edges : List Edge) (removed : List ℕ) → AreFlagsOf (length edges) l.gone removed → l.left.items ≡ filter (λ i. not (list_any (λ k. eqb k i) removed)) (range_with_len 0 l.i)
