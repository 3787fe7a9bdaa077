use Rattle.std.proofs.Common.{◌≡◌, ℕ, ◌<◌, true, Some, length}
use Rattle.std.specs.Prelude.{slice_get, All, Contains}
use Rattle.gl_edges.specs.declared.edge.Edge.{Edge}
use Rattle.gl_segments.specs.Clocks.{is_before}
use Rattle.gl_filters.specs.Picked.{edges_of_table}
use Rattle.gl_kinds.specs.bodies.Kinds.{may_meet}
use Rattle.gl_kinds.proofs.rounds.Rounds.narrowed.Given as goal

-- those of the rest so far
abbrev pub invariant-loop-place : goal.invariant-loop-place
invariant-loop-place l = All (λ j. j < length l.self.sought.table.now) l.some.items
    × ((p i : ℕ) (d : Edge) → p < l.place → slice_get l.rest p ≡ Some i → slice_get (edges_of_table l.self.sought.table.now) i ≡ Some d
    → may_meet (is_before l.self.sought.order.now) l.self.sought.mode l.self.grain l.edge d ≡ true → Contains l.some.items i)
