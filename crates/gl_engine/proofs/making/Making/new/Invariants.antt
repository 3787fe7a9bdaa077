use Rattle.std.proofs.Common.{◌≡◌, ℕ, List, [], Some}
use Rattle.std.specs.Prelude.{slice_get}
use Rattle.gl_edges.specs.declared.edge.Edge.{Edge}
use Rattle.gl_engine.proofs.making.Making.new.Given as goal

-- nothing is known of the threads so far
abbrev pub invariant-loop-number : goal.invariant-loop-number
invariant-loop-number l = record { unknown : (thread : ℕ) (known : List Edge) → slice_get l.acquires.items thread ≡ Some known → known ≡ [] }
