-- What a search finds that begins at one root after the other.
use Rattle.std.specs.Prelude.{ℕ, List, take}
use Rattle.std.specs.List.{flat_map, range_with_len}

-- the first of what there is from the roots below n, up to the cap
abbrev pub first_below : ℕ → (ℕ → List (List ℕ)) → ℕ → List (List ℕ)
first_below cap found_from n = take cap (flat_map found_from (range_with_len 0 n))
