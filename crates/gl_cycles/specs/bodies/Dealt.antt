-- The runs in which the roots of a search are dealt out.
use Rattle.std.specs.Prelude.{ℕ, ◌-◌, List, ◌++◌, take}
use Rattle.std.specs.List.{flat_map, range_with_len}

-- the first of what there was before and of what there is from the roots from one to another, up to the cap
abbrev pub first_with : ℕ → (ℕ → List (List ℕ)) → List (List ℕ) → ℕ → ℕ → List (List ℕ)
first_with cap found_from before from to =
    take cap (before ++ flat_map found_from (range_with_len from (to - from)))
