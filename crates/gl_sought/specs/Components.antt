-- Components of the lock-order graph.
use Rattle.std.specs.Prelude.{◌≡◌, ℕ, ◌≤◌, Bool, true, List, slice_get, Some}
use Rattle.gl_filters.specs.Picked.{edges_of_table}
use Rattle.gl_sought.specs.Sought.{KeepsSought}
use Rattle.gl_sought.specs.declared.numbers.Ends.{Ends}
use Rattle.gl_sought.specs.declared.sought.Sought.{Sought}
use Rattle.gl_sought.specs.Walks.{IsNumbered, label_at}

-- along no edge that is kept does the number of the component fall
abbrev pub NoneGoesBack : List ℕ → List Ends → List Bool → Type 0
NoneGoesBack labels ends kept =
    (i : ℕ) (d : Ends) → slice_get kept i ≡ Some true → slice_get ends i ≡ Some d
    → label_at labels d.held ≤ label_at labels d.wanted

-- by these labels of locks no edge that is kept leads back to an earlier component
pub record AreComponents (sought : Sought) (labels : List ℕ) (ends : List Ends)
    (kept : List Bool) : Type 0 where
  pub keeps : KeepsSought sought kept
  pub numbered : IsNumbered (edges_of_table sought.table.now) ends
  pub onward : NoneGoesBack labels ends kept
