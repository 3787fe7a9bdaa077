-- Which edges a trim takes away follows from the edges.
use Rattle.std.proofs.Common.{◌≡◌, ℕ, zero, suc, ◌+◌, ◌<◌, ◌≤◌, ◌⊎◌, Bool, true, false, not, ◌&&◌, ◌||◌, cond, eqb, List, [], ◌∷◌, ◌++◌, length, filter, take, set, get_or, replicate, Option, Some, None, refl, sym, ap, subst, ◌∙◌, arith, inl, inr}
use Rattle.std.specs.Prelude.{slice_get, Contains}
use Rattle.std.specs.List.{list_any, range_with_len, cons_option}
use Rattle.std.proofs.lemmas.Bool.{cases_eq, cases_lt, false≢true, false_from_ne_true, and_parts, and_from, and_left, and_right, not-true, ne_eqb}
use Rattle.std.proofs.lemmas.List.{append-nil, take_more, take_all}
use Rattle.std.proofs.lemmas.Option.{slice_get-get_or, slice_get_within}
use Rattle.gl_event.specs.declared.events.Segment.{Segment}
use Rattle.gl_edges.specs.declared.edge.Edge.{Edge}
use Rattle.gl_edges.proofs.Membership.{any_from_contains, contains_from_any, contains_here, contains_later, contains_cases, contains_none, contains_range}
use Rattle.gl_filters.specs.declared.query.Mode.{Mode}
use Rattle.gl_filters.specs.Picked.{picked}
use Rattle.gl_cycles.specs.AllCycles.{all_cycles}
use Rattle.gl_index.specs.Sides.{is_beside}
use Rattle.gl_trims.specs.Trims.{HasBeside, IsStuck, IsFirstStuck, IsTrimOrder, IsTrimmed, others, is_alone, is_stuck, removals, whole_trim}
use Rattle.gl_index.specs.declared.sides.Side.{Side}
use Rattle.gl_trims.specs.bodies.Trimming.{AreFlagsOf}
use Rattle.gl_cycles.proofs.AmongAllCycles.{filter_has, filter_from, there_is_cycle}
use Rattle.gl_trims.proofs.Removing.{flags_none, flags_more, left, fewer, none_set, unflagged, order_push}
use Rattle.gl_cycles.proofs.TrimsSpareCycles.{cycles_survive, cycle_has_some}
use Rattle.gl_index.specs.declared.sides.Side.TheVariants.{Follower, Leader}

-- the first number of a range that passes
first_in : (p : ℕ → Bool) (a n i : ℕ) → a ≤ i → i < a + n → p i ≡ true → ((j : ℕ) → j < i → p j ≡ false) → take 1 (filter p (range_with_len a n)) ≡ i ∷ []
first_in p a zero i from below passes none = absurd (omega arith)
first_in p a (suc n) i from below passes none =
    elim (cases_eq a i) [
      | inl same ↦ ap (λ b. take 1 (cond b (a ∷ filter p (range_with_len (a + 1) n)) (filter p (range_with_len (a + 1) n)))) (ap p same ∙ passes) ∙ ap (λ k. k ∷ []) same
      | inr other ↦
          ap (λ b. take 1 (cond b (a ∷ filter p (range_with_len (a + 1) n)) (filter p (range_with_len (a + 1) n)))) (none a (omega arith))
          ∙ first_in p (a + 1) n i (omega arith) (omega arith) passes none
    ]

none_in : (p : ℕ → Bool) (a n : ℕ) → ((j : ℕ) → j < a + n → p j ≡ false) → filter p (range_with_len a n) ≡ []
none_in p a zero none = refl
none_in p a (suc n) none = ap (λ b. cond b (a ∷ filter p (range_with_len (a + 1) n)) (filter p (range_with_len (a + 1) n))) (none a (omega arith)) ∙ none_in p (a + 1) n (λ j below. none j (omega arith))

-- there is a first one, or none
first_or_none : (p : ℕ → Bool) (n : ℕ) → ((i : ℕ) × (i < n) × (p i ≡ true) × ((j : ℕ) → j < i → p j ≡ false)) ⊎ ((j : ℕ) → j < n → p j ≡ false)
first_or_none p zero = inr (λ j below. absurd (omega arith))
first_or_none p (suc n) = elim (first_or_none p n) [
  | inl found ↦ inl (found.0, omega (arith, found.1), found.2, found.3)
  | inr none ↦ by (p n) refl none
]
  where
    by : (b : Bool) → p n ≡ b → ((j : ℕ) → j < n → p j ≡ false) → ((i : ℕ) × (i < suc n) × (p i ≡ true) × ((j : ℕ) → j < i → p j ≡ false)) ⊎ ((j : ℕ) → j < suc n → p j ≡ false)
    by true is none = inl (n, omega arith, is, none)
    by false is none = inr (λ j below. elim (cases_eq j n) [ inl same ↦ ap p same ∙ is | inr other ↦ none j (omega arith) ])

-- a test of two of which one fails
one_fails : (a b : Bool) → (a && b) ≡ false → (a ≡ false) ⊎ (b ≡ false)
one_fails true b is = inr is
one_fails false b is = inl refl

module _ (edges : List Edge) where
  -- an edge at one of these positions that passes
  any_picked : (q : Edge → Bool) (ps : List ℕ) → list_any q (picked edges ps) ≡ true → (i : ℕ) × (e : Edge) × Contains ps i × (slice_get edges i ≡ Some e) × (q e ≡ true)
  any_picked q [] any = absurd (false≢true any)
  any_picked q (p ∷ ps) any = by (slice_get edges p) refl any (any_picked q ps)
    where
      Found : List ℕ → Type 0
      Found ps = (i : ℕ) × (e : Edge) × Contains ps i × (slice_get edges i ≡ Some e) × (q e ≡ true)

      later : Found ps → Found (p ∷ ps)
      later found = (found.0, found.1, contains_later p found.0 ps found.2, found.3, found.4)

      here : (e : Edge) → slice_get edges p ≡ Some e → (b : Bool) → q e ≡ b → (b || list_any q (picked edges ps)) ≡ true → (list_any q (picked edges ps) ≡ true → Found ps) → Found (p ∷ ps)
      here e at true passes any rest = (p, e, contains_here p ps, at, passes)
      here e at false fails any rest = later (rest any)

      by : (o : Option Edge) → slice_get edges p ≡ o → list_any q (cons_option o (picked edges ps)) ≡ true → (list_any q (picked edges ps) ≡ true → Found ps) → Found (p ∷ ps)
      by (Some e) at any rest = here e at (q e) refl any rest
      by None at any rest = later (rest any)

  picked_any : (q : Edge → Bool) (ps : List ℕ) (i : ℕ) (e : Edge) → Contains ps i → slice_get edges i ≡ Some e → q e ≡ true → list_any q (picked edges ps) ≡ true
  picked_any q [] i e at stands passes = absurd (contains_none i at)
  picked_any q (p ∷ ps) i e at stands passes =
      elim (contains_cases p i ps at) [
        | inl same ↦ ap (λ o. list_any q (cons_option o (picked edges ps))) (ap (slice_get edges) same ∙ stands) ∙ ap (λ b. b || list_any q (picked edges ps)) passes
        | inr later ↦ by (slice_get edges p) (picked_any q ps i e later stands passes)
      ]
    where
      or_true : (b : Bool) → (b || true) ≡ true
      or_true true = refl
      or_true false = refl

      by : (o : Option Edge) → list_any q (picked edges ps) ≡ true → list_any q (cons_option o (picked edges ps)) ≡ true
      by (Some f) any = ap (λ b. q f || b) any ∙ or_true (q f)
      by None any = any

  -- the positions that are left
  other_than : (removed : List ℕ) (i : ℕ) → i < length edges → ¬ Contains removed i → Contains (others edges removed) i
  other_than removed i below kept =
      filter_has (λ k. not (list_any (λ r. eqb r k) removed)) i (range_with_len 0 (length edges)) (contains_range 0 (length edges) i (omega arith) (omega arith))
      (ap not (false_from_ne_true _ (λ any. kept (contains_from_any removed i any))))

  is_other : (removed : List ℕ) (i : ℕ) → Contains (others edges removed) i → ¬ Contains removed i
  is_other removed i at among =
      let passes = (filter_from (λ k. not (list_any (λ r. eqb r k) removed)) i (range_with_len 0 (length edges)) at).1 in
      false≢true (sym (ap not (any_from_contains removed i among)) ∙ passes)

module _ (before : Segment → Segment → Bool) (mode : Mode) (edges : List Edge) where
  -- what the test of one side tells
  beside_told : (removed : List ℕ) (side : Side) (e : Edge) → list_any (is_beside before mode side e) (picked edges (others edges removed)) ≡ true → HasBeside before mode edges (Contains removed) side e
  beside_told removed side e any =
      let found = any_picked edges (is_beside before mode side e) (others edges removed) any in
      record { place = found.0; other = found.1; stands = found.3; is_left = is_other edges removed found.0 found.2; fits = found.4 }

  none_beside : (removed : List ℕ) (side : Side) (e : Edge) → ¬ HasBeside before mode edges (Contains removed) side e → list_any (is_beside before mode side e) (picked edges (others edges removed)) ≡ false
  none_beside removed side e none = false_from_ne_true _ (λ any. none (beside_told removed side e any))

  beside_tested : (removed : List ℕ) (side : Side) (e : Edge) → HasBeside before mode edges (Contains removed) side e → list_any (is_beside before mode side e) (picked edges (others edges removed)) ≡ true
  beside_tested removed side e has =
      picked_any edges (is_beside before mode side e) (others edges removed) has.place has.other (other_than edges removed has.place (slice_get_within edges has.place has.other has.stands) has.is_left) has.stands has.fits

  -- the test of an edge that is stuck
  stuck_told : (removed : List ℕ) (i : ℕ) → is_stuck before mode edges removed i ≡ true → IsStuck before mode edges (Contains removed) i
  stuck_told removed i passes =
      let parts = and_parts (not (list_any (λ k. eqb k i) removed)) _ passes in
      let found = any_picked edges (is_alone before mode edges (picked edges (others edges removed))) (i ∷ []) parts.1 in
      let here : found.0 ≡ i = elim (contains_cases i found.0 [] found.2) [ inl is ↦ sym is | inr none ↦ absurd (contains_none found.0 none) ] in
      let left : ¬ Contains removed i = (λ among. false≢true (sym (ap not (any_from_contains removed i among)) ∙ parts.0)) in
      let stands : slice_get edges i ≡ Some found.1 = ap (slice_get edges) (sym here) ∙ found.3 in
      elim (one_fails _ _ (not-true _ found.4)) [
        | inl alone ↦ record { edge = found.1; stands = stands; is_left = left; side = Follower; alone = λ has. false≢true (sym alone ∙ beside_tested removed Follower found.1 has) }
        | inr alone ↦ record { edge = found.1; stands = stands; is_left = left; side = Leader; alone = λ has. false≢true (sym alone ∙ beside_tested removed Leader found.1 has) }
      ]

  stuck_tested : (removed : List ℕ) (i : ℕ) → IsStuck before mode edges (Contains removed) i → is_stuck before mode edges removed i ≡ true
  stuck_tested removed i stuck =
      and_from _ _ (ap not (false_from_ne_true _ (λ any. stuck.is_left (contains_from_any removed i any))))
      (picked_any edges (is_alone before mode edges (picked edges (others edges removed))) (i ∷ []) i stuck.edge (contains_here i []) stuck.stands (ap not (fails stuck.side stuck.alone)))
    where
      fails : (side : Side) → ¬ HasBeside before mode edges (Contains removed) side stuck.edge
          → (list_any (is_beside before mode Follower stuck.edge) (picked edges (others edges removed)) && list_any (is_beside before mode Leader stuck.edge) (picked edges (others edges removed))) ≡ false
      fails Follower none = and_left _ _ (none_beside removed Follower stuck.edge none)
      fails Leader none = and_right _ _ (none_beside removed Leader stuck.edge none)

  -- those that go are a trim order, however many
  pub removals_order : (n : ℕ) → IsTrimOrder before mode edges (removals before mode edges n)
  removals_order zero = λ n i at. absurd (let within = slice_get_within [] n i at in omega arith)
  removals_order (suc n) =
      let gone = removals before mode edges n in
      elim (first_or_none (is_stuck before mode edges gone) (length edges)) [
        | inl found ↦
            let is_first : IsFirstStuck before mode edges (Contains gone) found.0 = (stuck_told gone found.0 found.2, λ j below stuck. false≢true (sym (found.3 j below) ∙ stuck_tested gone j stuck)) in
            subst (IsTrimOrder before mode edges) (sym (ap (λ l. gone ++ l) (first_in (is_stuck before mode edges gone) 0 (length edges) found.0 (omega arith) (omega (arith, found.1)) found.2 found.3)))
            (order_push before mode edges gone found.0 (removals_order n) is_first)
        | inr none ↦
            subst (IsTrimOrder before mode edges) (sym (ap (λ l. gone ++ take 1 l) (none_in (is_stuck before mode edges gone) 0 (length edges) (λ j below. none j (omega arith))) ∙ append-nil gone)) (removals_order n)
      ]

  -- they are the first edges of each whole order
  module _ (removed : List ℕ) (in_order : IsTrimOrder before mode edges removed) where
    removals_are : ((i : ℕ) → ¬ IsStuck before mode edges (Contains removed) i) → (n : ℕ) → removals before mode edges n ≡ take n removed
    removals_are done zero = refl
    removals_are done (suc n) =
        let next : suc n ≡ n + 1 = omega arith in
        elim (cases_lt n (length removed)) [
          | inl below ↦
              let gone = take n removed in
              let i = get_or removed n 0 in
              let first = in_order n i (slice_get-get_or removed n 0 below) in
              ap (λ r. r ++ take 1 (filter (is_stuck before mode edges r) (range_with_len 0 (length edges)))) (removals_are done n)
              ∙ ap (λ l. gone ++ l) (first_in (is_stuck before mode edges gone) 0 (length edges) i (omega arith) (omega (arith, slice_get_within edges i first.0.edge first.0.stands)) (stuck_tested gone i first.0)
              (λ j lower. false_from_ne_true _ (λ passes. first.1 j lower (stuck_told gone j passes))))
              ∙ sym (ap (λ m. take m removed) next ∙ take_more removed n 0 below)
          | inr above ↦
              let all : take n removed ≡ removed = take_all n removed (omega arith) in
              ap (λ r. r ++ take 1 (filter (is_stuck before mode edges r) (range_with_len 0 (length edges)))) (removals_are done n ∙ all)
              ∙ ap (λ l. removed ++ take 1 l) (none_in (is_stuck before mode edges removed) 0 (length edges) (λ j lower. false_from_ne_true _ (λ passes. done j (stuck_told removed j passes))))
              ∙ append-nil removed ∙ sym (take_all (suc n) removed (omega arith))
        ]

    -- the flags of the first that went, and how many more are left
    left_after : (k : ℕ) → k ≤ length removed → (gone : List Bool) × AreFlagsOf (length edges) gone (take k removed) × (left gone + k ≤ length edges)
    left_after zero le = (replicate (length edges) false, flags_none (length edges) _ (length edges) refl refl, none_set (length edges))
    left_after (suc k) le =
        let next : suc k ≡ k + 1 = omega arith in
        let had = left_after k (omega arith) in
        let i = get_or removed k 0 in
        let first = in_order k i (slice_get-get_or removed k 0 (omega arith)) in
        let within = slice_get_within edges i first.0.edge first.0.stands in
        let unset = unflagged before mode edges had.0 (take k removed) had.1 i within first.0.is_left in
        let less = fewer had.0 i unset in (
          set had.0 i true,
          subst (AreFlagsOf (length edges) (set had.0 i true)) (sym (ap (λ m. take m removed) next ∙ take_more removed k 0 (omega arith))) (flags_more (length edges) had.0 (take k removed) i within had.1),
          omega (arith, less, had.2),
        )

    -- no more edges go than there are
    no_more : length removed ≤ length edges
    no_more = let all = left_after (length removed) (omega arith) in omega (arith, all.2)

  -- what a trim takes away is what the definition says
  pub trim_is : (kept removed : List ℕ) → IsTrimmed before mode edges kept removed → removals before mode edges (length edges) ≡ removed
  trim_is kept removed is = removals_are removed is.in_order is.done (length edges) ∙ take_all (length edges) removed (no_more removed is.in_order)

  -- the trim order is whole where none is kept
  pub whole_is : (kept removed : List ℕ) → IsTrimmed before mode edges kept removed → whole_trim before mode edges ≡ cond (eqb (length kept) 0) (Some removed) None
  unfolding whole_trim
  whole_is kept removed is =
      ap (λ r. cond (eqb (length (others edges r)) 0) (Some r) None) (trim_is kept removed is) ∙ ap (λ k. cond (eqb (length k) 0) (Some removed) None) (sym is.rest)

  -- and it isn't where there is a cycle
  pub none_with_cycle : (len : ℕ) (positions : List ℕ) → Contains (all_cycles before mode len edges) positions → whole_trim before mode edges ≡ None
  unfolding whole_trim
  none_with_cycle len positions at =
      let gone = removals before mode edges (length edges) in
      let is = there_is_cycle before mode len edges positions at in
      let survive = cycles_survive before mode len edges gone positions (removals_order (length edges)) at in
      let some : 0 < length positions = cycle_has_some before mode len edges positions is in
      let i = get_or positions 0 0 in
      let among : Contains (others edges gone) i = other_than edges gone i (is.within 0 0 some) (survive 0 0 some) in
      ap (λ b. cond b (Some gone) None) (ne_eqb (length (others edges gone)) 0 (λ none. absurd (omega (arith, among.1, none))))

-- the first of some
pub first_of_taken : {X : Type 0} (n : ℕ) (xs : List X) → 0 < length (take n xs) → (x : X) × Contains xs x
first_of_taken zero xs some = absurd (omega arith)
first_of_taken (suc n) [] some = absurd (omega arith)
first_of_taken (suc n) (x ∷ xs) some = (x, contains_here x xs)

-- what isn't none is some
pub some_from_test : (n : ℕ) → false ≡ eqb n 0 → 0 < n
some_from_test zero other = absurd (false≢true other)
some_from_test (suc n) other = omega arith
