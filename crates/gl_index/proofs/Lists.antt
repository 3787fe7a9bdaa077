-- Elements of lists by their positions.
use Rattle.std.proofs.Common.{◌≡◌, ◌≢◌, ℕ, zero, suc, ◌+◌, ◌-◌, ◌<◌, ◌≤◌, Bool, true, false, cond, List, [], ◌∷◌, ◌++◌, length, set, filter, Option, Some, refl, sym, ap, subst, ◌∙◌, arith}
use Rattle.std.specs.Prelude.{slice_get, unwrap_or}
use Rattle.std.specs.List.{range_with_len}
use Rattle.std.proofs.lemmas.List.{length-set, get_or-set_same, get_or-set_other}
use Rattle.std.proofs.lemmas.Option.{slice_get-get_or}

-- a place within a list has an element
pub element_at : {X : Type 0} (xs : List X) (k : ℕ) → k < length xs → (x : X) × (slice_get xs k ≡ Some x)
element_at [] k within = absurd (omega arith)
element_at (x ∷ xs) zero within = (x, refl)
element_at (x ∷ xs) (suc k) within = element_at xs k (omega arith)

-- what stands in a list with one element set
pub set_here : {X : Type 0} (xs : List X) (i : ℕ) (x : X) → i < length xs → slice_get (set xs i x) i ≡ Some x
set_here xs i x within = slice_get-get_or (set xs i x) i x (omega (arith, length-set xs i x)) ∙ ap Some (get_or-set_same xs i x x within)

pub set_elsewhere : {X : Type 0} (xs : List X) (i j : ℕ) (x : X) → j ≢ i → j < length xs → slice_get (set xs i x) j ≡ slice_get xs j
set_elsewhere xs i j x other within =
    slice_get-get_or (set xs i x) j x (omega (arith, length-set xs i x)) ∙ ap Some (get_or-set_other xs i j x x other) ∙ sym (slice_get-get_or xs j x within)

-- what stands in a list with one element more
pub push_before : {X : Type 0} (xs : List X) (x : X) (j : ℕ) → j < length xs → slice_get (xs ++ x ∷ []) j ≡ slice_get xs j
push_before [] x j within = absurd (omega arith)
push_before (y ∷ xs) x zero within = refl
push_before (y ∷ xs) x (suc j) within = push_before xs x j (omega arith)

pub push_at_end : {X : Type 0} (xs : List X) (x : X) → slice_get (xs ++ x ∷ []) (length xs) ≡ Some x
push_at_end [] x = refl
push_at_end (y ∷ xs) x = push_at_end xs x

-- what passes of two lists
pub filter-append : {X : Type 0} (p : X → Bool) (xs ys : List X) → filter p (xs ++ ys) ≡ filter p xs ++ filter p ys
filter-append p [] ys = refl
filter-append p (x ∷ xs) ys = elim (p x) as (λ b. cond b (x ∷ filter p (xs ++ ys)) (filter p (xs ++ ys)) ≡ cond b (x ∷ filter p xs) (filter p xs) ++ filter p ys) [ true ↦ ap (λ l. x ∷ l) (filter-append p xs ys) | false ↦ filter-append p xs ys ]

-- one number more
pub range-more : (a n : ℕ) → range_with_len a (n + 1) ≡ range_with_len a n ++ (a + n) ∷ []
range-more a zero = let e : a ≡ a + 0 = omega arith in ap (λ k. k ∷ []) e
range-more a (suc n) =
    let long : suc n + 1 ≡ suc (n + 1) = omega arith in
    let e : a + 1 + n ≡ a + suc n = omega arith in
    ap (range_with_len a) long ∙ ap (λ l. a ∷ l) (range-more (a + 1) n ∙ ap (λ k. range_with_len (a + 1) n ++ k ∷ []) e)

-- a later position leaves fewer
pub fewer_left : (size many : ℕ) (next : Option ℕ) (other : ℕ) (after : Option ℕ) → size ≡ many → next ≡ Some other → other < size → other + 1 ≤ unwrap_or after size → many - unwrap_or after many < many - unwrap_or next many
fewer_left size many next other after same is within later =
    subst (λ m. m - unwrap_or after m < m - unwrap_or next m) same (subst (λ o. size - unwrap_or after size < size - unwrap_or o size) (sym is) (omega (arith, within, later)))
