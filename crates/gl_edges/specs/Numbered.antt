-- Numbers of guard sets.
use Rattle.std.specs.Prelude.{◌≡◌, ℕ, ◌<◌, List, map, length, take, slice_get, Some, Contains}
use Rattle.gl_edges.specs.declared.edge.Edge.{Edge}
use Rattle.gl_edges.specs.declared.edge.Sample.{Sample}
use Rattle.gl_edges.specs.declared.guards.Guard.{Guard}

-- a number for each position, and the guard set of each number
pub record Numbering : Type 0 where
  pub ids : List ℕ
  pub sets : List (List Guard)

-- the guard sets of edges with samples, in order
abbrev pub guards_in : List (Edge × Sample) → List (List Guard)
guards_in pairs = map (λ pair. pair.0.guards) pairs

-- these guard sets are numbered from 0 in order of first position, equal ones alike
pub record AreNumbered (all : List (List Guard)) (by : Numbering) : Type 0 where
  pub long : length by.ids ≡ length all
  -- each number stands for the guard set at its position
  pub stands : (i n : ℕ) → slice_get by.ids i ≡ Some n → slice_get by.sets n ≡ slice_get all i
  -- no other number does
  pub once : (m n : ℕ) (guards : List Guard) → slice_get by.sets m ≡ Some guards
      → slice_get by.sets n ≡ Some guards → m ≡ n
  -- each is given
  pub given : (n : ℕ) → n < length by.sets → Contains by.ids n
  -- and lesser ones were given before
  pub in_order : (i m n : ℕ) → slice_get by.ids i ≡ Some n → m < n → Contains (take i by.ids) m
