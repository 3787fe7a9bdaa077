-- The key of an edge, by what stands at its position.
use Rattle.std.proofs.Common.{◌≡◌, ℕ, Bool, true, false, List, Some, None}
use Rattle.std.specs.Prelude.{slice_get}
use Rattle.gl_edges.specs.declared.edge.Edge.{Edge}
use Rattle.gl_walks.specs.declared.keys.Keyed.{Keyed}
use Rattle.gl_walks.specs.bodies.Listing.{key_at, key_of, lock_in_key}

module _ (keyed : Keyed) (edges : List Edge) (classes : List ℕ) (flags : List Bool) (i : ℕ) where
  pub key_flagged : (e : Edge) (class : ℕ) → slice_get edges i ≡ Some e → slice_get classes i ≡ Some class → slice_get flags i ≡ Some true → key_at keyed edges classes flags i ≡ Some (class, lock_in_key keyed e)
  unfolding key_at
  key_flagged e class at of_class flagged = λ j. key_of keyed (at j) (of_class j) (flagged j)

  pub key_unflagged : (e : Edge) (class : ℕ) → slice_get edges i ≡ Some e → slice_get classes i ≡ Some class → slice_get flags i ≡ Some false → key_at keyed edges classes flags i ≡ None
  unfolding key_at
  key_unflagged e class at of_class out = λ j. key_of keyed (at j) (of_class j) (out j)
