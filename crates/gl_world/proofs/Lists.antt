-- What is read from lists after a write, and from their fronts.
use Rattle.std.proofs.Common.{◌≡◌, ◌≢◌, ℕ, zero, suc, ◌+◌, ◌<◌, ◌≤◌, List, [], ◌∷◌, ◌++◌, length, take, set, get_or, Some, refl, sym, ap, arith, add-one, ◌⊎◌}
use Rattle.std.specs.Prelude.{slice_get}

pub same_some : {X : Type 0} (x y : X) → Some x ≡ Some y → x ≡ y
same_some x y h = cc

pub get_set_same : {X : Type 0} (xs : List X) (i : ℕ) (y : X) → i < length xs → slice_get (set xs i y) i ≡ Some y
get_set_same [] i y h = absurd (omega arith)
get_set_same (x ∷ xs) zero y h = refl
get_set_same (x ∷ xs) (suc i) y h = get_set_same xs i y (omega arith)

pub get_set_other : {X : Type 0} (xs : List X) (i j : ℕ) (y : X) → i ≢ j → slice_get (set xs i y) j ≡ slice_get xs j
get_set_other [] i j y h = refl
get_set_other (x ∷ xs) zero zero y h = absurd (h refl)
get_set_other (x ∷ xs) zero (suc j) y h = refl
get_set_other (x ∷ xs) (suc i) zero y h = refl
get_set_other (x ∷ xs) (suc i) (suc j) y h = get_set_other xs i j y (λ e. h (ap suc e))

pub get_of_take : {X : Type 0} (xs : List X) (n i : ℕ) (x : X) → slice_get (take n xs) i ≡ Some x → slice_get xs i ≡ Some x
get_of_take [] zero i x h = cc
get_of_take [] (suc n) i x h = cc
get_of_take (y ∷ xs) zero i x h = absurd (cc)
get_of_take (y ∷ xs) (suc n) zero x h = h
get_of_take (y ∷ xs) (suc n) (suc i) x h = get_of_take xs n i x h

pub length-take : {X : Type 0} (n : ℕ) (xs : List X) → n ≤ length xs → length (take n xs) ≡ n
length-take zero xs h = refl
length-take (suc n) [] h = absurd (omega arith)
length-take (suc n) (x ∷ xs) h = ap suc (length-take n xs (omega arith))

pub place_cases : (n k : ℕ) → k < n + 1 → (k < n) ⊎ (k ≡ n)
place_cases n k h = grind arith

take_suc : {X : Type 0} (xs : List X) (i : ℕ) (x : X) → slice_get xs i ≡ Some x → take (suc i) xs ≡ take i xs ++ x ∷ []
take_suc [] i x h = cc
take_suc (y ∷ xs) zero x h = let e = same_some y x h in rw e
take_suc (y ∷ xs) (suc i) x h = ap (λ zs. y ∷ zs) (take_suc xs i x h)

pub take_more : {X : Type 0} (xs : List X) (i : ℕ) (x : X) → slice_get xs i ≡ Some x → take (i + 1) xs ≡ take i xs ++ x ∷ []
take_more xs i x h = rw add-one (take_suc xs i x h)

pub found_within : {X : Type 0} (xs : List X) (i : ℕ) → i < length xs → (x : X) × (slice_get xs i ≡ Some x)
found_within [] i h = absurd (omega arith)
found_within (x ∷ xs) zero h = (x, refl)
found_within (x ∷ xs) (suc i) h = found_within xs i (omega arith)

pub get_at : {X : Type 0} (xs : List X) (i : ℕ) (x : X) → i < length xs → x ≡ get_or xs i x → slice_get xs i ≡ Some x
get_at [] i x h is = absurd (omega arith)
get_at (y ∷ xs) zero x h is = ap Some (sym is)
get_at (y ∷ xs) (suc i) x h is = get_at xs i x (omega arith) is

pub get_in : {X : Type 0} (xs : List X) (i : ℕ) (d : X) → i < length xs → slice_get xs i ≡ Some (get_or xs i d)
get_in [] i d h = absurd (omega arith)
get_in (x ∷ xs) zero d h = refl
get_in (x ∷ xs) (suc i) d h = get_in xs i d (omega arith)
