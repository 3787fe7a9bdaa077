-- What is known while guard sets are numbered.
use Rattle.std.specs.Prelude.{◌≡◌, ℕ, List, slice_get, Some}
use Rattle.std.specs.BTreeMap as tree
use Rattle.std.specs.BTreeMap.{BTreeMap}
use Rattle.std.specs.Cmp.Lexicographic.{slice_cmp}
use Rattle.gl_edges.specs.Guards.{guard_cmp}
use Rattle.gl_edges.specs.Numbered.{AreNumbered}
use Rattle.gl_edges.specs.declared.guards.Guard.{Guard}
use Rattle.gl_edges.specs.declared.numberer.Numberer.{Numberer}

-- the map has the number of each guard set
pub record IsMapOf (sets : List (List Guard)) (numbers : BTreeMap (List Guard) ℕ) : Type 0 where
  pub each : (guards : List Guard) (n : ℕ) → slice_get sets n ≡ Some guards
      → tree.get (slice_cmp guard_cmp) numbers guards ≡ Some n
  pub only : (guards : List Guard) (n : ℕ) → tree.get (slice_cmp guard_cmp) numbers guards ≡ Some n
      → slice_get sets n ≡ Some guards

-- so many guard sets are numbered, and the map has them
pub record IsNumbering (all : List (List Guard)) (n : Numberer) : Type 0 where
  pub numbered : AreNumbered all (record { ids = n.ids.items; sets = n.sets.items })
  pub mapped : IsMapOf n.sets.items n.numbers
