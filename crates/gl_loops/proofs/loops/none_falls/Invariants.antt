use Rattle.std.proofs.Common.{◌≡◌, ◌≤◌, ℕ, ◌<◌, false, Some}
use Rattle.std.specs.Prelude.{slice_get}
use Rattle.gl_edges.specs.declared.edge.Edge.{Edge}
use Rattle.gl_filters.specs.Picked.{edges_of_table}
use Rattle.gl_loops.specs.bodies.Epochs.{epoch_at}
use Rattle.gl_loops.specs.bodies.Loops.{held_rank, wanted_rank}
use Rattle.gl_loops.specs.bodies.Ranks.{rank_of_epoch}
use Rattle.gl_loops.proofs.loops.none_falls.Given as goal

-- so far none falls
abbrev pub invariant-loop-i : goal.invariant-loop-i
invariant-loop-i l =
    (i : ℕ) (e : Edge) → i < l.i → slice_get (edges_of_table l.sought.table.now) i ≡ Some e → ¬ (slice_get l.kept i ≡ Some false)
    → held_rank (rank_of_epoch l.ranks (epoch_at l.epochs i)) e ≤ wanted_rank (rank_of_epoch l.ranks (epoch_at l.epochs i)) e
