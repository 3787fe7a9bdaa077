-- How the different numbers of each class are counted.
use Rattle.std.specs.Prelude.{◌≡◌, ℕ, Bool, List, [], ◌∷◌, map, filter, slice_get, nat_eq, Some}
use Rattle.std.specs.List.{flat_map}
use Rattle.std.specs.Set.{distinct_count, is_member}
use Rattle.gl_edges.specs.declared.edge.Edge.{Edge}
use Rattle.gl_edges.specs.declared.edge.Sample.{Sample}
use Rattle.gl_grounds.specs.Classes.{class_of, are_places}

-- the numbers that are noted for a class, where each is noted with a class
abbrev pub numbers_of : ℕ → List (ℕ × ℕ) → List ℕ
numbers_of class noted = map (λ q. q.1) (filter (λ q. nat_eq q.0 class) noted)

-- each class has its count of different numbers
abbrev pub AreCounted : List (ℕ × ℕ) → List ℕ → Type 0
AreCounted noted counts =
    (class count : ℕ) → slice_get counts class ≡ Some count
    → count ≡ distinct_count nat_eq (numbers_of class noted)

-- what is noted so far is known, and counted
pub record IsTally (noted : List (ℕ × ℕ)) (seen : ℕ × ℕ → Bool) (counts : List ℕ) : Type 0 where
  pub known : (q : ℕ × ℕ) → seen q ≡ is_member are_places noted q
  pub counted : AreCounted noted counts

-- the thread that made an edge, and the locks that it holds or wants
abbrev pub threads_of : Edge × Sample → List ℕ
threads_of pair = pair.0.thread ∷ []

abbrev pub locks_of : Edge × Sample → List ℕ
locks_of pair = pair.0.held ∷ pair.0.wanted ∷ []

-- the numbers that these edges of a table have, each with its edge's class
abbrev pub noted_by : (Edge × Sample → List ℕ) → List (Edge × Sample) → List (Edge × Sample)
    → List (ℕ × ℕ)
noted_by numbers table pairs =
    flat_map (λ pair. map (λ n. (class_of table pair, n)) (numbers pair)) pairs
