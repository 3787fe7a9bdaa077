use Rattle.std.proofs.Common.{ℕ, ◌<◌}
use Rattle.serde_json.specs.View.{view}
use Rattle.gl_check.specs.Edges.{IsEdgeAt}
use Rattle.gl_check.proofs.edges.position_at.Given as goal

-- none so far has it
abbrev pub invariant-loop-i : goal.invariant-loop-i
invariant-loop-i l = (position : ℕ) → position < l.i → ¬ IsEdgeAt l.names l.table (view l.value) position
