-- An edge that lies on no loop is in no cycle.
use Rattle.std.proofs.Common.{◌≡◌, ℕ, Bool, true, List}
use Rattle.std.specs.Prelude.{All, Contains}
use Rattle.std.proofs.lemmas.Bool.{and_parts}
use Rattle.gl_event.specs.declared.events.Segment.{Segment}
use Rattle.gl_edges.specs.declared.edge.Edge.{Edge}
use Rattle.gl_filters.specs.declared.query.Mode.{Mode}
use Rattle.gl_filters.specs.Test.{is_path, is_cycle}
use Rattle.gl_filters.proofs.Cycling.{test_from_cycle}
use Rattle.gl_loops.specs.Loops.{IsLoop, KeepsLoops}
use Rattle.gl_sought.specs.OffCycles.{KeepsCycles}

module _ (before : Segment → Segment → Bool) (mode : Mode) (edges : List Edge) where
  -- the edges of a cycle are a loop
  pub loop_from_cycle : (cycle : List Edge) → All (Contains edges) cycle → is_cycle before mode cycle ≡ true → IsLoop edges cycle
  unfolding is_cycle is_path
  loop_from_cycle cycle among is =
      let parts = and_parts _ _ (and_parts _ _ is).1 in
      record { among = among; leads_on = (and_parts _ _ parts.0).0; leads_back = parts.1 }

  -- an edge that lies on no loop is in no cycle
  pub loops_keep : (len : ℕ) (kept : List Bool) → KeepsLoops edges kept → KeepsCycles before mode len edges kept
  loops_keep len kept keeps = record {
    long = keeps.long;
    left_out = λ i e at out cycle among is in_it.
        keeps.left_out i e at out cycle (loop_from_cycle cycle among (test_from_cycle before mode len cycle is)) in_it;
  }
