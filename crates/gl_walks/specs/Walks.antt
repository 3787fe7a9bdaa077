-- Walks of edges whose classes are given one by one.
use Rattle.std.specs.Prelude.{◌≡◌, ℕ, Bool, true, ◌&&◌, List, [], ◌∷◌, map, slice_get, Some, All, IsTrue}
use Rattle.std.specs.List.{list_all}
use Rattle.std.specs.Cmp.Lexicographic.{slice_cmp}
use Rattle.std.specs.Ordering.{nat_cmp, is_le}
use Rattle.gl_event.specs.declared.events.Segment.{Segment}
use Rattle.gl_edges.specs.declared.edge.Edge.{Edge}
use Rattle.gl_filters.specs.declared.query.Mode.{Mode}
use Rattle.gl_filters.specs.Picked.{picked}
use Rattle.gl_filters.specs.Test.{lead_on, leads_back, go_together, kinds_go_together, is_cycle}
use Rattle.gl_walks.specs.declared.purpose.Purpose.{Purpose}
use Rattle.gl_walks.specs.declared.purpose.Purpose.TheVariants.{Cycle, Front, Round, Turned}

-- the kind of each edge goes with that of each later one
abbrev pub kinds_together : Mode → List Edge → Bool
kinds_together mode [] = true
kinds_together mode (e ∷ es) = list_all (kinds_go_together mode e) es && kinds_together mode es

-- the edges may stand one behind the other in a round, as far as their kinds tell
unfoldable pub is_front : Mode → List Edge → Bool
is_front mode es = lead_on es && kinds_together mode es

-- the edges may stand one behind the other in a cycle, as far as each two of them tell
unfoldable pub is_chain : (Segment → Segment → Bool) → Mode → List Edge → Bool
is_chain before mode es = lead_on es && go_together before mode es

-- what a walk's edges have to be
abbrev pub fits : Purpose → (Segment → Segment → Bool) → Mode → List Edge → Bool
fits Cycle before mode es = is_cycle before mode es
fits Front before mode es = is_front mode es
fits Round before mode es = is_front mode es && leads_back es
fits Turned before mode es = is_chain before mode es && leads_back es

-- a walk through flagged edges, the first of the first class of the pattern, and so on to its last
pub record IsWalk (purpose : Purpose) (before : Segment → Segment → Bool) (mode : Mode)
    (edges : List Edge) (classes : List ℕ) (flags : List Bool)
    (pattern positions : List ℕ) : Type 0 where
  -- each edge is flagged
  pub flagged : All (λ i. slice_get flags i ≡ Some true) positions
  -- and of its class
  pub of_classes : map (slice_get classes) positions ≡ map Some pattern
  -- and together they are what is looked for
  pub fitting : fits purpose before mode (picked edges positions) ≡ true

-- no list of positions is such a walk
abbrev pub NoWalk : Purpose → (Segment → Segment → Bool) → Mode → List Edge → List ℕ → List Bool
    → List ℕ → Type 0
NoWalk purpose before mode edges classes flags pattern =
    (positions : List ℕ) → ¬ IsWalk purpose before mode edges classes flags pattern positions

-- these positions are such a walk, and no other one is less: the first position in which two differ decides
pub record IsFirstWalk (purpose : Purpose) (before : Segment → Segment → Bool) (mode : Mode)
    (edges : List Edge) (classes : List ℕ) (flags : List Bool)
    (pattern positions : List ℕ) : Type 0 where
  pub walk : IsWalk purpose before mode edges classes flags pattern positions
  pub least : (others : List ℕ) → IsWalk purpose before mode edges classes flags pattern others
      → IsTrue (is_le (slice_cmp nat_cmp positions others))

-- there is such a walk whose first edge holds this lock
pub record HasWalkFrom (purpose : Purpose) (before : Segment → Segment → Bool) (mode : Mode)
    (edges : List Edge) (classes : List ℕ) (flags : List Bool)
    (pattern : List ℕ) (lock : ℕ) : Type 0 where
  pub positions : List ℕ
  pub walk : IsWalk purpose before mode edges classes flags pattern positions
  pub first : Edge
  pub begins : slice_get (picked edges positions) 0 ≡ Some first
  pub holds : first.held ≡ lock
