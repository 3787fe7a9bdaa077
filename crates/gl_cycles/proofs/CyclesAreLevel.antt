-- The edges of a cycle are level, by ranks that never fall.
use Rattle.std.proofs.Common.{◌≡◌, ℕ, Bool, List, [], ◌∷◌, Option, Some, None, refl}
use Rattle.std.specs.Prelude.{slice_get, All, Contains}
use Rattle.std.specs.List.{cons_option}
use Rattle.std.proofs.lemmas.List.Elements.{All-nil, All-cons}
use Rattle.std.proofs.lemmas.Option.{slice_get_within, get_or_from_slice_get}
use Rattle.gl_event.specs.declared.events.Segment.{Segment}
use Rattle.gl_edges.specs.declared.edge.Edge.{Edge}
use Rattle.gl_filters.specs.declared.query.Mode.{Mode}
use Rattle.gl_filters.proofs.Cycling.{test_from_cycle}
use Rattle.gl_filters.specs.Picked.{picked}
use Rattle.gl_cycles.specs.AllCycles.{all_cycles}
use Rattle.gl_loops.specs.Loops.{IsNeverFalling}
use Rattle.gl_cycles.proofs.AmongAllCycles.{there_is_cycle}
use Rattle.gl_loops.proofs.Level.{loop_is_level}
use Rattle.gl_loops.proofs.Off.{loop_from_cycle}

-- what stands at a place is in the list
contains_at : (edges : List Edge) (i : ℕ) (e : Edge) → slice_get edges i ≡ Some e → Contains edges e
contains_at edges i e at = (i, slice_get_within edges i e at, get_or_from_slice_get edges i e e at)

-- each edge that is picked is one of the edges
pub picked_among : (edges : List Edge) (positions : List ℕ) → All (Contains edges) (picked edges positions)
picked_among edges [] = All-nil (Contains edges)
picked_among edges (i ∷ positions) = by (slice_get edges i) refl (picked_among edges positions)
  where
    by : (o : Option Edge) → slice_get edges i ≡ o → All (Contains edges) (picked edges positions) → All (Contains edges) (cons_option o (picked edges positions))
    by (Some e) at rest = All-cons (Contains edges) e (picked edges positions) (contains_at edges i e at) rest
    by None at rest = rest

module _ (before : Segment → Segment → Bool) (mode : Mode) (edges : List Edge) where
  -- the edges of a cycle are level
  pub cycle_is_level : (rank : ℕ → ℕ) (len : ℕ) (positions : List ℕ) → IsNeverFalling rank edges → Contains (all_cycles before mode len edges) positions
      → All (λ e. rank e.held ≡ rank e.wanted) (picked edges positions)
  cycle_is_level rank len positions certified at =
      let is = there_is_cycle before mode len edges positions at in
      loop_is_level rank edges (picked edges positions) certified (loop_from_cycle before mode edges (picked edges positions) (picked_among edges positions) (test_from_cycle before mode len (picked edges positions) is.cycle))
