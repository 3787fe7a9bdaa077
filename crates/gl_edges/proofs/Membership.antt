-- What stands in a list that is made of others, and which locks are held.
use Rattle.std.proofs.Common.{◌≡◌, ℕ, zero, suc, ◌+◌, ◌<◌, ◌≤◌, ◌⊎◌, inl, inr, Bool, true, false, ◌&&◌, ◌||◌, cond, eqb, ltb, List, [], ◌∷◌, get_or, map, filter, refl, sym, ap, subst, ◌∙◌, arith}
use Rattle.std.specs.Prelude.{Contains, count_by, nat_lt}
use Rattle.std.specs.List.{filter_map, flat_map, list_any, range_with_len}
use Rattle.std.proofs.lemmas.Bool.{eqb-true, eq-eqb, lt-ltb, le-ltb, cases_lt}
use Rattle.std.proofs.lemmas.List.Elements.{Contains-append_left, Contains-append_right, Contains-append_cases}
use Rattle.std.proofs.lemmas.List.Folds.{list_any-from_Any, Any-from_list_any}
use Rattle.std.proofs.lemmas.List.Sums.{sum_by-cons}
use Rattle.std.proofs.lemmas.Map.Views.{any-filter_same}
use Rattle.gl_event.specs.Events.{acquires, acquired_lock, depth, held}
use Rattle.gl_event.specs.declared.events.Event.{Event}
use Rattle.gl_event.specs.declared.events.Event.TheVariants.{Acquire, Release, TryAcquire, Fork, Join}
use Rattle.gl_edges.proofs.Guarding.{ascending_any}

-- the first element
pub contains_here : {X : Type 0} (x : X) (xs : List X) → Contains (x ∷ xs) x
contains_here x xs = (0, omega arith, refl)

-- an element of the rest
pub contains_later : {X : Type 0} (x y : X) (xs : List X) → Contains xs y → Contains (x ∷ xs) y
contains_later x y xs at = Contains-append_right (x ∷ []) xs y at

-- an element is the first or one of the rest
pub contains_cases : {X : Type 0} (x y : X) (xs : List X) → Contains (x ∷ xs) y → (x ≡ y) ⊎ Contains xs y
contains_cases x y xs (zero, within, is) = inl is
contains_cases x y xs (suc k, within, is) = inr (k, omega arith, is)

-- the empty list has none
pub contains_none : {X : Type 0} (y : X) → Contains [] y → ⊥
contains_none y (k, within, is) = absurd (omega arith)

-- an element of a `map` comes from one of the list
pub contains_map : {X Y : Type 0} (f : X → Y) (x : X) (xs : List X) → Contains xs x → Contains (map f xs) (f x)
contains_map f x [] at = absurd (contains_none x at)
contains_map f x (y ∷ xs) at =
    elim (contains_cases y x xs at) [
      | inl is ↦ subst (λ z. Contains (f y ∷ map f xs) (f z)) is (contains_here (f y) (map f xs))
      | inr later ↦ contains_later (f y) (f x) (map f xs) (contains_map f x xs later)
    ]

-- the same the other way round
pub contains_map_from : {X Y : Type 0} (f : X → Y) (y : Y) (xs : List X) → Contains (map f xs) y → (x : X) × Contains xs x × (f x ≡ y)
contains_map_from f y [] at = absurd (contains_none y at)
contains_map_from f y (x ∷ xs) at =
    elim (contains_cases (f x) y (map f xs) at) [
      | inl is ↦ (x, contains_here x xs, is)
      | inr later ↦ let from = contains_map_from f y xs later in (from.0, contains_later x from.0 xs from.1, from.2)
    ]

-- an element of a `flat_map` comes from the list that one of the elements gives
pub contains_flat_map : {X Y : Type 0} (f : X → List Y) (x : X) (y : Y) (xs : List X) → Contains xs x → Contains (f x) y → Contains (flat_map f xs) y
contains_flat_map f x y [] at there = absurd (contains_none x at)
contains_flat_map f x y (z ∷ xs) at there =
    elim (contains_cases z x xs at) [
      | inl is ↦ Contains-append_left (f z) (flat_map f xs) y (subst (λ w. Contains (f w) y) (sym is) there)
      | inr later ↦ Contains-append_right (f z) (flat_map f xs) y (contains_flat_map f x y xs later there)
    ]

-- the same the other way round
pub contains_flat_map_from : {X Y : Type 0} (f : X → List Y) (y : Y) (xs : List X) → Contains (flat_map f xs) y → (x : X) × Contains xs x × Contains (f x) y
contains_flat_map_from f y [] at = absurd (contains_none y at)
contains_flat_map_from f y (x ∷ xs) at =
    elim (Contains-append_cases (f x) (flat_map f xs) y at) [
      | inl there ↦ (x, contains_here x xs, there)
      | inr later ↦ let from = contains_flat_map_from f y xs later in (from.0, contains_later x from.0 xs from.1, from.2)
    ]

-- a range has the numbers from its start to its end
pub contains_range : (a n i : ℕ) → a ≤ i → i < a + n → Contains (range_with_len a n) i
contains_range a zero i low high = absurd (omega arith)
contains_range a (suc n) i low high =
    elim (cases_lt a i) [
      | inl above ↦ contains_later a i (range_with_len (a + 1) n) (contains_range (a + 1) n i (omega arith) (omega arith))
      | inr not_above ↦ let is : a ≡ i = omega arith in subst (Contains (a ∷ range_with_len (a + 1) n)) is (contains_here a (range_with_len (a + 1) n))
    ]

-- and no others
pub contains_range_from : (a n i : ℕ) → Contains (range_with_len a n) i → (a ≤ i) × (i < a + n)
contains_range_from a zero i at = absurd (contains_none i at)
contains_range_from a (suc n) i at =
    elim (contains_cases a i (range_with_len (a + 1) n) at) [
      | inl is ↦ (omega arith, omega arith)
      | inr later ↦ let r = contains_range_from (a + 1) n i later in (omega (arith, r.0), omega (arith, r.1))
    ]

-- ---- numbers by a test

-- a number of the list passes the test for it
pub any_from_contains : (ns : List ℕ) (q : ℕ) → Contains ns q → list_any (λ n. eqb n q) ns ≡ true
any_from_contains ns q (k, within, is) = list_any-from_Any (λ n. eqb n q) ns (k, q, within, is, eq-eqb q q refl)

-- what passes is in the list
pub contains_from_any : (ns : List ℕ) (q : ℕ) → list_any (λ n. eqb n q) ns ≡ true → Contains ns q
contains_from_any ns q any =
    let (k, x, within, is, same) = Any-from_list_any (λ n. eqb n q) ns any in
    let e : x ≡ q = eqb-true x q same in
    (k, within, subst (λ z. get_or ns k z ≡ z) e is)

-- ---- held locks

one_more : (b c : Bool) (n : ℕ) → c ≡ ltb 0 n → (b || c) ≡ ltb 0 (cond b 1 0 + n)
one_more true c n same = sym (lt-ltb 0 (1 + n) (omega arith))
one_more false c n same = same ∙ ap (ltb 0) (omega arith)

-- a lock is among those that the events acquire where it was acquired at least once
acquired_any : (es : List Event) (lock : ℕ) → list_any (λ l. eqb l lock) (filter_map acquired_lock es) ≡ ltb 0 (count_by (acquires lock) es)
acquired_any [] lock = refl
acquired_any (Acquire mode l loc ∷ es) lock = rw sum_by-cons (one_more (eqb l lock) _ _ (acquired_any es lock))
acquired_any (TryAcquire mode l loc ∷ es) lock = rw sum_by-cons (one_more (eqb l lock) _ _ (acquired_any es lock))
acquired_any (Release mode l loc ∷ es) lock = rw sum_by-cons (acquired_any es lock ∙ ap (ltb 0) (omega arith))
acquired_any (Fork t loc ∷ es) lock = rw sum_by-cons (acquired_any es lock ∙ ap (ltb 0) (omega arith))
acquired_any (Join t loc ∷ es) lock = rw sum_by-cons (acquired_any es lock ∙ ap (ltb 0) (omega arith))

-- a lock is held no deeper than it was acquired
depth_within : (es : List Event) (lock : ℕ) → depth es lock ≤ count_by (acquires lock) es
unfolding depth
depth_within es lock = omega arith

-- what is positive is below what is no less
both_tests : (d a : ℕ) → d ≤ a → (ltb 0 d && ltb 0 a) ≡ ltb 0 d
both_tests zero a within = refl
both_tests (suc d) a within =
    let first = lt-ltb 0 (suc d) (omega arith) in
    let second = lt-ltb 0 a (omega arith) in
    (λ i. first i && second i) ∙ sym first

-- a lock is among the held ones where its depth is positive
held_any : (es : List Event) (lock : ℕ) → list_any (λ l. eqb l lock) (held es) ≡ ltb 0 (depth es lock)
unfolding held
held_any es lock =
    ascending_any (filter (λ l. nat_lt 0 (depth es l)) (filter_map acquired_lock es)) lock
    ∙ any-filter_same (λ l. eqb l lock) (λ l. nat_lt 0 (depth es l)) (ltb 0 (depth es lock)) (λ k same. ap (λ l. ltb 0 (depth es l)) (eqb-true k lock same)) (filter_map acquired_lock es)
    ∙ ap (λ b. ltb 0 (depth es lock) && b) (acquired_any es lock)
    ∙ both_tests (depth es lock) (count_by (acquires lock) es) (depth_within es lock)

-- a lock of positive depth is held
pub held_where_deep : (es : List Event) (lock : ℕ) → 0 < depth es lock → Contains (held es) lock
held_where_deep es lock deep = contains_from_any (held es) lock (held_any es lock ∙ lt-ltb 0 (depth es lock) deep)

-- a held lock has positive depth
pub deep_where_held : (es : List Event) (lock : ℕ) → Contains (held es) lock → 0 < depth es lock
deep_where_held es lock at =
    elim (cases_lt 0 (depth es lock)) [
      | inl deep ↦ deep
      | inr not_deep ↦ let never = sym (any_from_contains (held es) lock at) ∙ held_any es lock ∙ le-ltb 0 (depth es lock) not_deep in absurd (cc)
    ]
