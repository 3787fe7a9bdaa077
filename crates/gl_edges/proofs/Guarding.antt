-- Ascending lists under a total order: the ascending list of a list that ascends is itself, and lists with the same members have the same one.
use Rattle.std.proofs.Common.{◌≡◌, ℕ, ◌+◌, ◌≤◌, Bool, true, false, eqb, List, [], ◌∷◌, length, map, Option, Some, None, refl, sym, ap, subst, cond, ◌∙◌, arith}
use Rattle.std.specs.Prelude.{◌||◌, Contains, is_some}
use Rattle.std.specs.Cmp.{IsTotalOrder, nat_cmp_total, nat_eq_equiv, tied_itself, unsigned_tied}
use Rattle.std.specs.FinMap as fin
use Rattle.std.specs.FinMap.{IsAntisymmetric}
use Rattle.std.specs.FinMap.Entries.{put, by_order, is_some-find}
use Rattle.std.specs.List.{list_any, dedup, AllByRecursion}
use Rattle.std.specs.List.Sorted.{IsStrictlySortedBy, IsPermutation, IsSorted}
use Rattle.std.specs.Ordering.{nat_cmp, eq_by_cmp, is_eq}
use Rattle.std.specs.declared.cmp.Ordering.{Ordering}
use Rattle.std.specs.declared.cmp.Ordering.TheVariants.{Less, Equal, Greater}
use Rattle.std.proofs.lemmas.List.{length-map, nil_from_length}
use Rattle.std.proofs.lemmas.List.Folds.{list_any-from_Any, Any-from_list_any}
use Rattle.std.proofs.lemmas.List.Kept.{IsStrictlySortedBy-dedup, Contains-dedup, Contains-from_dedup}
use Rattle.std.proofs.lemmas.List.Sorted.{Contains-permutation, IsPermutation-sym}
use Rattle.gl_event.specs.Events.{ascending}
use Rattle.gl_event.specs.declared.held.HeldEntry.{HeldEntry}
use Rattle.gl_edges.specs.Guards.{guard_cmp, guard_eq, guard_equiv, guard_ties, guard_total, ascending_guards, guard_of, guards_of}
use Rattle.gl_edges.specs.declared.guards.Guard.{Guard}
use Rattle.gl_edges.proofs.Orders.{guard_cmp_exact}

-- the test of a tie
pub tie : (r : Ordering) → is_eq r ≡ true → r ≡ Equal
tie Less e = absurd (cc)
tie Equal e = refl
tie Greater e = absurd (cc)

-- two tests that imply each other
either_way : (a b : Bool) → (a ≡ true → b ≡ true) → (b ≡ true → a ≡ true) → a ≡ b
either_way true b to from = sym (to refl)
either_way false true to from = from refl
either_way false false to from = refl

found : Bool → Option (Unit {0})
found b = cond b (Some tt) None

found_is : (x : Option (Unit {0})) → x ≡ found (is_some x)
unfolding found
found_is None = refl
found_is (Some u) = refl

-- elements as the keys of a map with nothing at each
abbrev marked : {K : Type 0} → List K → List (K × Unit {0})
marked xs = map (λ x. (x, tt {0})) xs

-- the keys are the elements
keys_marked : {K : Type 0} (xs : List K) → map (λ e. e.0) (marked xs) ≡ xs
keys_marked [] = refl
keys_marked (x ∷ xs) = ap (λ ys. x ∷ ys) (keys_marked xs)

module _ {K : Type 0} (R : K → K → Ordering) (total : IsTotalOrder R) where
  abbrev set_of : List K → fin.FinMap R (Unit {0})
  set_of xs = fin.from_entries {R = R} (marked xs)

  abbrev ascending_by : List K → List K
  ascending_by xs = fin.keys (set_of xs)

  -- a key that is below all others goes to the front
  put_front : (x : K) (xs : List K) → AllByRecursion (λ y. R x y ≡ Less) xs → put R x tt (marked xs) ≡ marked (x ∷ xs)
  put_front x [] all = refl
  put_front x (y ∷ xs) all = ap (λ r. by_order r ((x, tt) ∷ (y, tt) ∷ marked xs) ((y, tt) ∷ marked xs) ((y, tt) ∷ put R x tt (marked xs))) all.0

  -- the map of an ascending list has it as its entries
  entries_of : (xs : List K) → IsStrictlySortedBy R xs → fin.entries (set_of xs) ≡ marked xs
  unfolding IsStrictlySortedBy
  entries_of [] sorted = nil_from_length _ (sym (fin.len-entries _) ∙ fin.len-empty R (Unit {0}))
  entries_of (x ∷ xs) sorted = fin.entries-insert total _ x tt ∙ ap (put R x tt) (entries_of xs sorted.1) ∙ put_front x xs sorted.0

  -- the ascending list of an ascending list is itself
  pub sorted_stays : (xs : List K) → IsStrictlySortedBy R xs → ascending_by xs ≡ xs
  sorted_stays xs sorted = ap (map (λ e. e.0)) (entries_of xs sorted) ∙ keys_marked xs

  -- the map has no more entries than were put in
  one_more : (b : Bool) (n m : ℕ) → n ≤ m → cond b n (n + 1) ≤ m + 1
  one_more true n m few = omega arith
  one_more false n m few = omega arith

  set_few : (es : List (K × Unit {0})) → fin.len (fin.from_entries {R = R} es) ≤ length es
  set_few [] = subst (λ n. n ≤ 0) (sym (fin.len-empty R (Unit {0}))) (omega arith)
  set_few (e ∷ es) =
      let known = fin.from_entries {R = R} es in
      let more = fin.len-insert total known e.0 e.1 in
      let few = one_more (fin.contains_key known e.0) (fin.len known) (length es) (set_few es) in
      let all : fin.len (fin.insert known e.0 e.1) ≤ length (e ∷ es) = omega (arith, more, few) in
      all

  -- the ascending list isn't longer
  pub ascending_few : (xs : List K) → length (ascending_by xs) ≤ length xs
  ascending_few xs =
      let few = set_few (marked xs) in
      let put_in = length-map {B = K × Unit {0}} xs (λ x. (x, tt {0})) in
      let listed = length-map (fin.entries (set_of xs)) (λ e. e.0) in
      let counted = fin.len-entries (set_of xs) in
      omega (arith, few, put_in, listed, counted)

  -- the set has what the list has
  set_has : (xs : List K) (q : K) → fin.contains_key (set_of xs) q ≡ list_any (eq_by_cmp R q) xs
  set_has xs q = ap is_some (fin.get-from_entries total (marked xs) q) ∙ is_some-find R q (marked xs) ∙ ap (list_any (eq_by_cmp R q)) (keys_marked xs)

  any_from : (xs : List K) (q : K) → Contains xs q → list_any (eq_by_cmp R q) xs ≡ true
  any_from xs q (k, within, is) = list_any-from_Any (eq_by_cmp R q) xs (k, q, within, is, ap is_eq (tied_itself total q))

  module _ (exact : IsAntisymmetric R) where
    from_any : (xs : List K) (q : K) → list_any (eq_by_cmp R q) xs ≡ true → Contains xs q
    from_any xs q any =
        let (k, x, within, is, same) = Any-from_list_any (eq_by_cmp R q) xs any in
        let e : q ≡ x = exact q x (tie (R q x) same) in
        subst (Contains xs) (sym e) (k, within, is)

    -- the ascending list has the elements of the list
    pub ascending_has : (xs : List K) (q : K) → Contains xs q → Contains (ascending_by xs) q
    ascending_has xs q at = from_any (ascending_by xs) q (sym (fin.contains_key-keys (set_of xs) q) ∙ set_has xs q ∙ any_from xs q at)

    -- and no others
    pub ascending_from : (xs : List K) (q : K) → Contains (ascending_by xs) q → Contains xs q
    ascending_from xs q at = from_any xs q (sym (set_has xs q) ∙ fin.contains_key-keys (set_of xs) q ∙ any_from (ascending_by xs) q at)

    -- lists with the same members have the same ascending list
    pub same_members : (xs ys : List K) → ((q : K) → Contains xs q → Contains ys q) → ((q : K) → Contains ys q → Contains xs q) → ascending_by xs ≡ ascending_by ys
    same_members xs ys to from =
        ap fin.keys (fin.same_map total exact (set_of xs) (set_of ys) (λ q.
        found_is _ ∙ ap found (set_has xs q
        ∙ either_way _ _ (λ any. any_from ys q (to q (from_any xs q any))) (λ any. any_from xs q (from q (from_any ys q any)))
        ∙ sym (set_has ys q)) ∙ sym (found_is _)))

-- ---- numbers

-- a test by the order is one by equality
tested : (ns : List ℕ) (q : ℕ) → list_any (eq_by_cmp nat_cmp q) ns ≡ list_any (λ l. eqb l q) ns
tested [] q = refl
tested (n ∷ ns) q = λ i. (unsigned_tied q n ∙ nat_eq_equiv.symm q n) i || tested ns q i

-- the ascending list has the numbers of the list
pub ascending_any : (ns : List ℕ) (q : ℕ) → list_any (λ l. eqb l q) (ascending ns) ≡ list_any (λ l. eqb l q) ns
ascending_any ns q =
    sym (tested (ascending ns) q)
    ∙ sym (fin.contains_key-keys (set_of nat_cmp nat_cmp_total ns) q)
    ∙ set_has nat_cmp nat_cmp_total ns q
    ∙ tested ns q

-- ---- guards

-- guards that are sorted and freed of repeats ascend
pub dedup_ascends : (gs : List Guard) → IsSorted guard_cmp gs → IsStrictlySortedBy guard_cmp (dedup guard_eq gs)
dedup_ascends gs sorted = IsStrictlySortedBy-dedup guard_total guard_ties gs sorted

-- guards that are counted as the same are
same_guard : (a b : Guard) → guard_eq a b ≡ true → a ≡ b
same_guard a b same = guard_cmp_exact a b (tie (guard_cmp a b) (sym (guard_ties a b) ∙ same))

-- there are no more guards than held locks
pub guards_few : (hs : List HeldEntry) → length (guards_of hs) ≤ length hs
guards_few hs =
    let few = ascending_few guard_cmp guard_total (map guard_of hs) in
    let each = length-map hs guard_of in
    omega (arith, few, each)

-- they are the ascending list of the guards
pub dedup_is_ascending : (xs ys : List Guard) → IsPermutation xs ys → IsSorted guard_cmp ys → dedup guard_eq ys ≡ ascending_guards xs
dedup_is_ascending xs ys same sorted =
    sym (sorted_stays guard_cmp guard_total (dedup guard_eq ys) (dedup_ascends ys sorted))
    ∙ same_members guard_cmp guard_total guard_cmp_exact (dedup guard_eq ys) xs
    (λ q at. Contains-permutation ys xs q (IsPermutation-sym xs ys same) (Contains-from_dedup guard_eq ys q at))
    (λ q at. Contains-dedup guard_equiv same_guard ys q (Contains-permutation xs ys q same at))
