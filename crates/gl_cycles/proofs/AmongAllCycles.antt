-- The lists of positions that stand among all cycles.
use Rattle.std.proofs.Common.{◌≡◌, ℕ, zero, suc, ◌+◌, ◌<◌, ◌≤◌, inl, inr, Bool, true, false, cond, List, [], ◌∷◌, length, map, filter, refl, sym, ap, subst, ◌∙◌, arith}
use Rattle.std.specs.Prelude.{All, Contains}
use Rattle.std.specs.List.{flat_map, range_with_len}
use Rattle.std.proofs.lemmas.List.Elements.{All-nil, All-cons, All-head, All-tail}
use Rattle.gl_event.specs.declared.events.Segment.{Segment}
use Rattle.gl_edges.specs.declared.edge.Edge.{Edge}
use Rattle.gl_edges.proofs.Membership.{contains_here, contains_later, contains_cases, contains_none, contains_map, contains_map_from, contains_flat_map, contains_flat_map_from, contains_range, contains_range_from}
use Rattle.gl_filters.specs.declared.query.Mode.{Mode}
use Rattle.gl_filters.specs.Test.{is_cycle}
use Rattle.gl_filters.specs.Picked.{picked}
use Rattle.gl_cycles.specs.AllCycles.{lists_below, all_cycles}
use Rattle.gl_cycles.specs.Laws.{IsCycleAt}
use Rattle.gl_cycles.proofs.EdgesOfPaths.{length-picked}
use Rattle.gl_filters.proofs.Cycling.{cycle_from_test, test_from_cycle}

-- an element that passes the test is kept
pub filter_has : {X : Type 0} (p : X → Bool) (x : X) (xs : List X) → Contains xs x → p x ≡ true → Contains (filter p xs) x
filter_has p x [] at passes = absurd (contains_none x at)
filter_has p x (y ∷ xs) at passes =
    elim (contains_cases y x xs at) [
      | inl is ↦
          let same : p y ≡ true = ap p is ∙ passes in
          subst (λ b. Contains (cond b (y ∷ filter p xs) (filter p xs)) x) (sym same) (subst (Contains (y ∷ filter p xs)) is (contains_here y (filter p xs)))
      | inr later ↦ kept (p y) (filter_has p x xs later passes)
    ]
  where
    kept : (b : Bool) → Contains (filter p xs) x → Contains (cond b (y ∷ filter p xs) (filter p xs)) x
    kept true there = contains_later y x (filter p xs) there
    kept false there = there

-- and nothing else is
pub filter_from : {X : Type 0} (p : X → Bool) (x : X) (xs : List X) → Contains (filter p xs) x → Contains xs x × (p x ≡ true)
filter_from p x [] at = absurd (contains_none x at)
filter_from p x (y ∷ xs) at = by (p y) refl at (λ there. filter_from p x xs there)
  where
    by : (b : Bool) → p y ≡ b → Contains (cond b (y ∷ filter p xs) (filter p xs)) x → (Contains (filter p xs) x → Contains xs x × (p x ≡ true)) → Contains (y ∷ xs) x × (p x ≡ true)
    by true passes there rest =
        elim (contains_cases y x (filter p xs) there) [
          | inl is ↦ (subst (Contains (y ∷ xs)) is (contains_here y xs), ap p (sym is) ∙ passes)
          | inr later ↦ (contains_later y x xs (rest later).0, (rest later).1)
        ]
    by false fails there rest = (contains_later y x xs (rest there).0, (rest there).1)

-- the lists that begin with one position
abbrev starting : List (List ℕ) → ℕ → List (List ℕ)
starting ls i = map (λ rest. i ∷ rest) ls

-- each list of so many positions is there
lists_have : (size n : ℕ) (positions : List ℕ) → length positions ≤ n → All (λ i. i < size) positions → Contains (lists_below size n) positions
lists_have size zero [] short within = contains_here [] []
lists_have size zero (i ∷ rest) short within = absurd (omega arith)
lists_have size (suc n) [] short within = contains_here [] (flat_map (starting (lists_below size n)) (range_with_len 0 size))
lists_have size (suc n) (i ∷ rest) short within =
    let first : i < size = All-head (λ i. i < size) i rest within in
    let below : i < 0 + size = omega (arith, first) in
    contains_later [] (i ∷ rest) (flat_map (starting (lists_below size n)) (range_with_len 0 size))
    (contains_flat_map (starting (lists_below size n)) i (i ∷ rest) (range_with_len 0 size) (contains_range 0 size i (omega arith) below)
    (contains_map (λ tail. i ∷ tail) rest (lists_below size n) (lists_have size n rest (omega arith) (All-tail (λ i. i < size) i rest within))))

-- and no other
pub lists_from : (size n : ℕ) (positions : List ℕ) → Contains (lists_below size n) positions → (length positions ≤ n) × All (λ i. i < size) positions
lists_from size zero positions at =
    elim (contains_cases [] positions [] at) [
      | inl is ↦ subst (λ l. (length l ≤ 0) × All (λ i. i < size) l) is (omega arith, All-nil (λ i. i < size))
      | inr none ↦ absurd (contains_none positions none)
    ]
lists_from size (suc n) positions at =
    elim (contains_cases [] positions (flat_map (starting (lists_below size n)) (range_with_len 0 size)) at) [
      | inl is ↦ subst (λ l. (length l ≤ suc n) × All (λ i. i < size) l) is (omega arith, All-nil (λ i. i < size))
      | inr some ↦
          let (i, among, there) = contains_flat_map_from (starting (lists_below size n)) positions (range_with_len 0 size) some in
          let (rest, listed, is) = contains_map_from (λ tail. i ∷ tail) positions (lists_below size n) there in
          let among_these = contains_range_from 0 size i among in
          let below : i < size = omega (arith, among_these.1) in
          let from = lists_from size n rest listed in
          let short = from.0 in
          subst (λ l. (length l ≤ suc n) × All (λ i. i < size) l) is (omega arith, All-cons (λ i. i < size) i rest below from.1)
    ]

module _ (before : Segment → Segment → Bool) (mode : Mode) (len : ℕ) (edges : List Edge) (positions : List ℕ) where
  -- each cycle is there
  pub cycle_is_there : IsCycleAt before mode len edges positions → Contains (all_cycles before mode len edges) positions
  unfolding all_cycles
  cycle_is_there is =
      let short : length positions ≤ len = omega (arith, is.cycle.not_too_long, length-picked edges positions is.within) in
      filter_has (λ l. is_cycle before mode (picked edges l)) positions (lists_below (length edges) len) (lists_have (length edges) len positions short is.within) (test_from_cycle before mode len (picked edges positions) is.cycle)

  -- and what is there is a cycle
  pub there_is_cycle : Contains (all_cycles before mode len edges) positions → IsCycleAt before mode len edges positions
  unfolding all_cycles
  there_is_cycle at =
      let from = filter_from (λ l. is_cycle before mode (picked edges l)) positions (lists_below (length edges) len) at in
      let below = lists_from (length edges) len positions from.0 in
      let short : length (picked edges positions) ≤ len = omega (arith, below.0, length-picked edges positions below.1) in
      record { within = below.1; cycle = cycle_from_test before mode len (picked edges positions) short from.1 }
