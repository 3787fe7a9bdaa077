-- Lists that are kept one after the other.
use Rattle.std.specs.Prelude.{ℕ, ◌+◌, ◌-◌, ◌<◌, ◌≤◌, List, length, take, drop, slice_index}
use Rattle.gl_segments.specs.bodies.Histories.{tabulated}

-- what stands from place a to before place b
abbrev pub between : {A : Type 0} → ℕ → ℕ → List A → List A
between a b xs = take (b - a) (drop a xs)

-- the lists that stand between the bounds
unfoldable pub lists_between : {A : Type 0} → List ℕ → List A → List (List A)
lists_between bounds xs =
    tabulated (length bounds - 1)
    (λ i. between (slice_index bounds i) (slice_index bounds (i + 1)) xs)

-- the bounds rise to at most n
pub record AreBounds (bounds : List ℕ) (n : ℕ) : Type 0 where
  -- there is one
  pub some : 0 < length bounds
  -- none is above the next one
  pub rising : (i : ℕ) → i + 1 < length bounds → slice_index bounds i ≤ slice_index bounds (i + 1)
  -- nor above the last one
  pub up_to_last : (i : ℕ) → i < length bounds
      → slice_index bounds i ≤ slice_index bounds (length bounds - 1)
  -- which is at most n
  pub within : slice_index bounds (length bounds - 1) ≤ n
