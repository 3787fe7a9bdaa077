-- Counts that end in zeros.
use Rattle.std.specs.Prelude.{◌≡◌, ℕ, ◌≤◌, List, length, slice_index}

-- from this place on there are only zeros
pub record IsEnd (counts : List ℕ) (end : ℕ) : Type 0 where
  -- it is a place of the list, or right after it
  pub within : end ≤ length counts
  -- the counts from there on
  pub zeros : (k : ℕ) → end ≤ k → slice_index counts k ≡ 0
