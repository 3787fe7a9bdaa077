-- What an answer tells of flags of edges that are kept.
use Rattle.std.specs.Prelude.{◌≡◌, ℕ, Bool, true, false, List, slice_get, Some}

-- an edge that was kept is left out
pub record LeavesOutSome (before after : List Bool) : Type 0 where
  pub place : ℕ
  pub was_kept : slice_get before place ≡ Some true
  pub left_out : slice_get after place ≡ Some false

-- the answer tells whether any edge was left out
pub record TellsIfAny (any : Bool) (before after : List Bool) : Type 0 where
  pub some : any ≡ true → LeavesOutSome before after
  pub none : any ≡ false → after ≡ before
