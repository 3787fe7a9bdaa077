-- The lists of positions ascend.
use Rattle.std.proofs.Common.{◌≡◌, ℕ, zero, suc, ◌+◌, ◌<◌, List, [], ◌∷◌, ◌++◌, map, refl, sym, ap, ◌∙◌, arith}
use Rattle.std.specs.declared.cmp.Ordering.{Ordering}
use Rattle.std.specs.declared.cmp.Ordering.TheVariants.{Less, Equal}
use Rattle.std.specs.List.{AllByRecursion, flat_map, range_with_len}
use Rattle.std.specs.List.Sorted.{IsStrictlySortedBy}
use Rattle.std.specs.Ordering.{nat_cmp, ordering_then}
use Rattle.std.specs.Cmp.{nat_cmp_is}
use Rattle.std.specs.Cmp.Lexicographic.{slice_cmp}
use Rattle.gl_edges.proofs.Holding.{sorted_mapped}
use Rattle.gl_cycles.specs.AllCycles.{lists_below}

-- what holds of two lists' elements holds of those of the joined list
all_append : {X : Type 0} (P : X → Type 0) (xs ys : List X) → AllByRecursion P xs → AllByRecursion P ys → AllByRecursion P (xs ++ ys)
all_append P [] ys here later = later
all_append P (x ∷ xs) ys here later = (here.0, all_append P xs ys here.1 later)

-- what holds of each value of a function
all_map : {X Y : Type 0} (P : Y → Type 0) (f : X → Y) (xs : List X) → ((x : X) → P (f x)) → AllByRecursion P (map f xs)
all_map P f [] all = tt
all_map P f (x ∷ xs) all = (all x, all_map P f xs all)

-- a list that ascends, and then another one that does, each element of which is above those of the first
sorted_append : {X : Type 0} (c : X → X → Ordering) (xs ys : List X) → IsStrictlySortedBy c xs → IsStrictlySortedBy c ys
    → AllByRecursion (λ x. AllByRecursion (λ y. c x y ≡ Less) ys) xs → IsStrictlySortedBy c (xs ++ ys)
unfolding IsStrictlySortedBy
sorted_append c [] ys front back above = back
sorted_append c (x ∷ xs) ys front back above = (all_append (λ y. c x y ≡ Less) xs ys front.0 above.0, sorted_append c xs ys front.1 back above.1)

-- the order of lists of positions
abbrev order : List ℕ → List ℕ → Ordering
order = slice_cmp nat_cmp

-- lists with one first position are ordered as their rests
same_first : (i : ℕ) (xs ys : List ℕ) → order xs ys ≡ Less → order (i ∷ xs) (i ∷ ys) ≡ Less
same_first i xs ys less = ap (λ o. ordering_then o (order xs ys)) (sym (nat_cmp_is i i Equal refl)) ∙ less

-- a lesser first position decides
lesser_first : (i j : ℕ) (xs ys : List ℕ) → i < j → order (i ∷ xs) (j ∷ ys) ≡ Less
lesser_first i j xs ys less = ap (λ o. ordering_then o (order xs ys)) (sym (nat_cmp_is i j Less less))

-- the lists with one first position
abbrev starting : List (List ℕ) → ℕ → List (List ℕ)
starting ls i = map (λ rest. i ∷ rest) ls

sorted_starting : (i : ℕ) (ls : List (List ℕ)) → IsStrictlySortedBy order ls → IsStrictlySortedBy order (starting ls i)
sorted_starting i ls sorted = sorted_mapped order order (λ rest. i ∷ rest) (same_first i) ls sorted

-- a list is below those with a later first position
below_later : (i : ℕ) (xs : List ℕ) (ls : List (List ℕ)) (b m : ℕ) → i < b → AllByRecursion (λ ys. order (i ∷ xs) ys ≡ Less) (flat_map (starting ls) (range_with_len b m))
below_later i xs ls b zero less = tt
below_later i xs ls b (suc m) less =
    all_append (λ ys. order (i ∷ xs) ys ≡ Less) (starting ls b) (flat_map (starting ls) (range_with_len (b + 1) m))
    (all_map (λ ys. order (i ∷ xs) ys ≡ Less) (λ rest. b ∷ rest) ls (λ rest. lesser_first i b xs rest less))
    (below_later i xs ls (b + 1) m (omega arith))

sorted_flat : (ls : List (List ℕ)) (b m : ℕ) → IsStrictlySortedBy order ls → IsStrictlySortedBy order (flat_map (starting ls) (range_with_len b m))
unfolding IsStrictlySortedBy
sorted_flat ls b zero sorted = tt
sorted_flat ls b (suc m) sorted =
    sorted_append order (starting ls b) (flat_map (starting ls) (range_with_len (b + 1) m)) (sorted_starting b ls sorted) (sorted_flat ls (b + 1) m sorted)
    (all_map (λ xs. AllByRecursion (λ ys. order xs ys ≡ Less) (flat_map (starting ls) (range_with_len (b + 1) m))) (λ rest. b ∷ rest) ls (λ rest. below_later b rest ls (b + 1) m (omega arith)))

-- no positions come before some
nothing_first : (ls : List (List ℕ)) (b m : ℕ) → AllByRecursion (λ ys. order [] ys ≡ Less) (flat_map (starting ls) (range_with_len b m))
nothing_first ls b zero = tt
nothing_first ls b (suc m) =
    all_append (λ ys. order [] ys ≡ Less) (starting ls b) (flat_map (starting ls) (range_with_len (b + 1) m)) (all_map (λ ys. order [] ys ≡ Less) (λ rest. b ∷ rest) ls (λ rest. refl)) (nothing_first ls (b + 1) m)

pub sorted_lists : (size n : ℕ) → IsStrictlySortedBy order (lists_below size n)
unfolding IsStrictlySortedBy
sorted_lists size zero = (tt, tt)
sorted_lists size (suc n) = (nothing_first (lists_below size n) 0 size, sorted_flat (lists_below size n) 0 size (sorted_lists size n))
