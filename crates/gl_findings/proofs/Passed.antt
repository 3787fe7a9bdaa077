-- Fronts that a search passes over: no finding begins so.
use Rattle.std.proofs.Common.{◌≡◌, ℕ, Bool, true, List, [], ◌∷◌, ◌++◌, length, map, Option, Some, None, ap, arith}
use Rattle.std.specs.Prelude.{slice_get, All}
use Rattle.std.proofs.lemmas.List.Elements.{All-head, All-tail}
use Rattle.gl_event.specs.declared.events.Segment.{Segment}
use Rattle.gl_edges.specs.declared.edge.Edge.{Edge}
use Rattle.gl_edges.specs.declared.edge.Sample.{Sample}
use Rattle.gl_filters.specs.declared.query.Mode.{Mode}
use Rattle.gl_filters.specs.Picked.{edges_of_table}
use Rattle.gl_sought.specs.OffCycles.{KeepsCycles}
use Rattle.gl_walks.specs.declared.purpose.Purpose.TheVariants.{Front}
use Rattle.gl_walks.specs.Walks.{NoWalk}
use Rattle.gl_grounds.specs.Classes.{classes_of}
use Rattle.gl_grounds.specs.Models.{AreModels, IsEmptyClass}
use Rattle.gl_findings.specs.bodies.Growing.{block}
use Rattle.gl_findings.proofs.Below.{block-without}
use Rattle.gl_findings.proofs.Cutting.{none_with}

-- the first of some classes
abbrev head : List (Option ℕ) → Option ℕ
head [] = None
head (x ∷ xs) = x

abbrev tail : List (Option ℕ) → List (Option ℕ)
tail [] = []
tail (x ∷ xs) = xs

-- through a class of which no edge is flagged goes no walk
empty_walk : (classes : List ℕ) (flags : List Bool) (class : ℕ) → IsEmptyClass classes flags class → (front positions : List ℕ) → All (λ i. slice_get flags i ≡ Some true) positions
    → map (slice_get classes) positions ≡ map Some (front ++ class ∷ []) → ⊥
empty_walk classes flags class empty [] [] flagged same = absurd (omega (arith, ap length same))
empty_walk classes flags class empty (c ∷ front) [] flagged same = absurd (omega (arith, ap length same))
empty_walk classes flags class empty [] (i ∷ is) flagged same = empty i (All-head (λ i. slice_get flags i ≡ Some true) i is flagged) (ap head same)
empty_walk classes flags class empty (c ∷ front) (i ∷ is) flagged same = empty_walk classes flags class empty front is (All-tail (λ i. slice_get flags i ≡ Some true) i is flagged) (ap tail same)

module _ (before : Segment → Segment → Bool) (mode : Mode) (len : ℕ) (table : List (Edge × Sample)) (kept models : List Bool) (keeps : KeepsCycles before mode len (edges_of_table table) kept) (have : AreModels (edges_of_table table) (classes_of table) kept models) where
  -- no finding begins with a front that models show no walk for
  pub none_begins : (n : ℕ) (front : List ℕ) → NoWalk Front before mode (edges_of_table table) (classes_of table) models front → block before mode len table n front ≡ []
  none_begins n front none = block-without before mode len table n front (λ rest. none_with before mode len table kept models keeps have front rest none)

  -- nor with one that goes on with a class that has no model
  pub none_through : (n : ℕ) (front : List ℕ) (class : ℕ) → IsEmptyClass (classes_of table) models class → block before mode len table n (front ++ class ∷ []) ≡ []
  none_through n front class empty = none_begins n (front ++ class ∷ []) (λ positions walk. empty_walk (classes_of table) models class empty front positions walk.flagged walk.of_classes)
