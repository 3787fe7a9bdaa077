-- Edges that a search may leave out, by what it is told is sought.
use Rattle.std.specs.Prelude.{◌≡◌, ℕ, Bool, false, List, slice_get, Some}
use Rattle.gl_filters.specs.Picked.{edges_of_table}
use Rattle.gl_segments.specs.Clocks.{is_before}
use Rattle.gl_sought.specs.declared.sought.Sought.{Sought}
use Rattle.gl_sought.specs.OffCycles.{KeepsCycles}

-- they leave out only edges that are in no cycle that is sought
abbrev pub KeepsSought : Sought → List Bool → Type 0
KeepsSought sought kept =
    KeepsCycles (is_before sought.order.now) sought.mode sought.len
    (edges_of_table sought.table.now) kept

-- edges that were left out stay so: none comes back
abbrev pub StayLeftOut : List Bool → List Bool → Type 0
StayLeftOut before after =
    (i : ℕ) → slice_get before i ≡ Some false → slice_get after i ≡ Some false

-- from these flags on more edges were left out, none of which is in a cycle that is sought, and none came back
pub record GoesOnSeeking (sought : Sought) (before after : List Bool) : Type 0 where
  pub keeps : KeepsSought sought after
  pub stay : StayLeftOut before after
