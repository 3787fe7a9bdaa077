-- How edges are put into classes.
use Rattle.std.specs.Prelude.{◌≡◌, ℕ, ◌+◌, ◌<◌, ◌≤◌, Bool, true, false, List, length, slice_get, Option, Some}
use Rattle.std.specs.List.{position}
use Rattle.gl_edges.specs.declared.edge.Edge.{Edge}
use Rattle.gl_edges.specs.declared.edge.Sample.{Sample}
use Rattle.gl_grounds.specs.Classes.{are_places, places_of}

-- two places lead to the position of the first of these edges that was made there
abbrev pub AreFirsts : List (Edge × Sample) → (ℕ × ℕ → Option ℕ) → Type 0
AreFirsts pairs first =
    (places : ℕ × ℕ) → first places ≡ position (λ pair. are_places places (places_of pair)) pairs

-- the flagged edges so far have their classes flagged
abbrev pub AreFlaggedBefore : ℕ → List ℕ → List Bool → List Bool → Type 0
AreFlaggedBefore n classes flags occurs =
    (i class : ℕ) → i < n → class < length occurs → slice_get flags i ≡ Some true
    → slice_get classes i ≡ Some class → slice_get occurs class ≡ Some true

-- for each place from m on the next one, at it or after, where something may occur; size where there is none
pub record AreNextFrom (m size : ℕ) (occurs : List Bool) (nexts : List ℕ) : Type 0 where
  pub long : length nexts ≡ size + 1
  pub from : (k next : ℕ) → m ≤ k → slice_get nexts k ≡ Some next → (k ≤ next) × (next ≤ size)
  pub skipped : (k next place : ℕ) → m ≤ k → slice_get nexts k ≡ Some next → k ≤ place
      → place < next → slice_get occurs place ≡ Some false
