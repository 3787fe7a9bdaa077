-- Trimming takes away no edge of a cycle.
use Rattle.std.proofs.Common.{◌≡◌, ℕ, zero, suc, ◌+◌, ◌-◌, ◌<◌, ◌⊎◌, Bool, true, false, eqb, leb, cond, List, [], ◌∷◌, ◌++◌, length, take, get_or, Some, refl, sym, ap, subst, ◌∙◌, arith, inl, inr}
use Rattle.std.specs.Prelude.{slice_get, All, Contains}
use Rattle.std.proofs.lemmas.Bool.{cases_Bool, eq-eqb, ne_eqb, leb-true, leb-false}
use Rattle.std.proofs.lemmas.List.{take_more, take_all}
use Rattle.std.proofs.lemmas.Option.{slice_get-get_or, slice_get_within, get_or_from_slice_get, same_Some}
use Rattle.gl_event.specs.declared.events.Segment.{Segment}
use Rattle.gl_edges.specs.declared.edge.Edge.{Edge}
use Rattle.gl_edges.proofs.Membership.{contains_here, contains_later, contains_cases, contains_none}
use Rattle.gl_filters.specs.Verdicts.{following}
use Rattle.gl_filters.specs.declared.query.Mode.{Mode}
use Rattle.gl_filters.proofs.Round.{compatible_round}
use Rattle.gl_filters.specs.Picked.{picked}
use Rattle.gl_cycles.specs.AllCycles.{all_cycles}
use Rattle.gl_cycles.specs.Laws.{IsCycleAt}
use Rattle.gl_trims.specs.Trims.{HasBeside, IsRemovalOrder, IsTrimOrder, IsWholeRemoval}
use Rattle.gl_index.specs.declared.sides.Side.{Side}
use Rattle.gl_index.specs.declared.sides.Side.TheVariants.{Follower, Leader}
use Rattle.gl_index.proofs.Lists.{element_at}
use Rattle.gl_cycles.proofs.EdgesOfPaths.{length-picked, picked-cons}
use Rattle.gl_index.proofs.Tables.{AreWithin}
use Rattle.gl_cycles.proofs.AmongAllCycles.{there_is_cycle}

-- what is in a list with one element more
contains_push : (xs : List ℕ) (x i : ℕ) → Contains (xs ++ x ∷ []) i → Contains xs i ⊎ (x ≡ i)
contains_push [] x i at = elim (contains_cases x i [] at) [ inl is ↦ inr is | inr none ↦ absurd (contains_none i none) ]
contains_push (y ∷ xs) x i at =
    elim (contains_cases y i (xs ++ x ∷ []) at) [
      | inl is ↦ inl (subst (Contains (y ∷ xs)) is (contains_here y xs))
      | inr later ↦ elim (contains_push xs x i later) [ inl there ↦ inl (contains_later y i xs there) | inr is ↦ inr is ]
    ]

-- the edge at a place of the positions
picked_at : (edges : List Edge) (positions : List ℕ) (k i : ℕ) (e : Edge) → AreWithin edges positions → slice_get positions k ≡ Some i → slice_get edges i ≡ Some e → slice_get (picked edges positions) k ≡ Some e
picked_at edges [] k i e within at at_e = absurd (let below = slice_get_within [] k i at in omega arith)
picked_at edges (j ∷ positions) zero i e within at at_e =
    let same : j ≡ i = same_Some j i at in
    ap (λ l. slice_get l 0) (picked-cons edges j positions e (ap (slice_get edges) same ∙ at_e))
picked_at edges (j ∷ positions) (suc k) i e within at at_e =
    let first = element_at edges j (within 0 0 (omega arith)) in
    ap (λ l. slice_get l (suc k)) (picked-cons edges j positions first.0 first.1) ∙ picked_at edges positions k i e (λ m d lt. within (suc m) d (omega arith)) at at_e

-- the place before this one, round
abbrev earlier : ℕ → ℕ → ℕ
earlier n zero = n - 1
earlier n (suc k) = k

follows_earlier : (n k : ℕ) → k < n → following n (earlier n k) ≡ k
follows_earlier n zero within = ap (λ b. cond b 0 (n - 1 + 1)) (eq-eqb (n - 1 + 1) n (omega arith))
follows_earlier n (suc k) within =
    let next : k + 1 ≡ suc k = omega arith in
    ap (λ b. cond b 0 (k + 1)) (ne_eqb (k + 1) n (λ same. absurd (omega arith))) ∙ next

earlier_within : (n k : ℕ) → k < n → earlier n k < n
earlier_within n zero within = omega arith
earlier_within n (suc k) within = omega arith

following_within : (n k : ℕ) → k < n → following n k < n
following_within n k within = by (eqb (k + 1) n) refl
  where
    by : (b : Bool) → eqb (k + 1) n ≡ b → cond b 0 (k + 1) < n
    by true is = omega arith
    by false is = elim (cases_Bool (leb (k + 2) n)) [
      | inl below ↦ omega (arith, leb-true _ _ below)
      | inr above ↦ absurd (cc (is, eq-eqb (k + 1) n (omega (arith, leb-false _ _ above))))
    ]

module _ (before : Segment → Segment → Bool) (mode : Mode) (len : ℕ) (edges : List Edge) (positions : List ℕ) (is : IsCycleAt before mode len edges positions) where
  size : length (picked edges positions) ≡ length positions
  size = length-picked edges positions is.within

  -- the edge at the place k has an edge of the cycle at its side
  beside : (IsGone : ℕ → Type 0) → ((k i : ℕ) → slice_get positions k ≡ Some i → ¬ IsGone i) → (k i : ℕ) (e : Edge) (side : Side)
      → slice_get positions k ≡ Some i → slice_get edges i ≡ Some e → HasBeside before mode edges IsGone side e
  beside IsGone free k i e Follower at at_e =
      let within = slice_get_within positions k i at in
      let next = following (length (picked edges positions)) k in
      let below = following_within (length (picked edges positions)) k (omega (arith, size)) in
      let j = element_at positions next (omega (arith, size)) in
      let f = element_at edges j.0 (subst (λ p. p < length edges) (get_or_from_slice_get positions next j.0 0 j.1) (is.within next 0 (omega (arith, size)))) in
      record {
        place = j.0;
        other = f.0;
        stands = f.1;
        is_left = free next j.0 j.1;
        fits = compatible_round before mode len (picked edges positions) is.cycle k e f.0 (picked_at edges positions k i e is.within at at_e) (picked_at edges positions next j.0 f.0 is.within j.1 f.1);
      }
  beside IsGone free k i e Leader at at_e =
      let within = slice_get_within positions k i at in
      let n = length (picked edges positions) in
      let last = earlier n k in
      let below = earlier_within n k (omega (arith, size)) in
      let j = element_at positions last (omega (arith, size)) in
      let f = element_at edges j.0 (subst (λ p. p < length edges) (get_or_from_slice_get positions last j.0 0 j.1) (is.within last 0 (omega (arith, size)))) in
      record {
        place = j.0;
        other = f.0;
        stands = f.1;
        is_left = free last j.0 j.1;
        fits =
            compatible_round before mode len (picked edges positions) is.cycle last f.0 e (picked_at edges positions last j.0 f.0 is.within j.1 f.1)
            (ap (slice_get (picked edges positions)) (follows_earlier n k (omega (arith, size))) ∙ picked_at edges positions k i e is.within at at_e);
      }

  module _ (removed : List ℕ) (order : IsRemovalOrder before mode edges removed) where
    -- none of its edges goes
    free : (n : ℕ) (k i : ℕ) → slice_get positions k ≡ Some i → ¬ Contains (take n removed) i
    free zero k i at among = contains_none i among
    free (suc n) k i at among = elim (cases_Bool (leb (suc n) (length removed))) [
      | inl below ↦
          let within : n < length removed = leb-true _ _ below in
          let more : take (suc n) removed ≡ take n removed ++ get_or removed n 0 ∷ [] = (let same : suc n ≡ n + 1 = omega arith in ap (λ m. take m removed) same ∙ take_more removed n 0 within) in
          elim (contains_push (take n removed) (get_or removed n 0) i (subst (λ l. Contains l i) more among)) [
            | inl before_it ↦ free n k i at before_it
            | inr now ↦
                let stuck = order n i (slice_get-get_or removed n 0 within ∙ ap Some now) in
                stuck.alone (beside (Contains (take n removed)) (free n) k i stuck.edge stuck.side at stuck.stands)
          ]
      | inr above ↦
          let short = leb-false (suc n) (length removed) above in
          let same : take (suc n) removed ≡ take n removed = take_all (suc n) removed (omega arith) ∙ sym (take_all n removed (omega arith)) in
          free n k i at (subst (λ l. Contains l i) same among)
    ]

    pub survives : All (λ i. ¬ Contains removed i) positions
    survives k d below among =
        free (length removed) k (get_or positions k d) (slice_get-get_or positions k d below) (subst (λ l. Contains l (get_or positions k d)) (sym (take_all (length removed) removed (omega arith))) among)

pub cycles_survive : (before : Segment → Segment → Bool) (mode : Mode) (len : ℕ) (edges : List Edge) (removed positions : List ℕ) → IsTrimOrder before mode edges removed
    → Contains (all_cycles before mode len edges) positions → All (λ i. ¬ Contains removed i) positions
cycles_survive before mode len edges removed positions order at = survives before mode len edges positions (there_is_cycle before mode len edges positions at) removed (λ n i is. (order n i is).0)

-- a cycle has a first position
pub cycle_has_some : (before : Segment → Segment → Bool) (mode : Mode) (len : ℕ) (edges : List Edge) (positions : List ℕ) → IsCycleAt before mode len edges positions → 0 < length positions
cycle_has_some before mode len edges positions is = let two = is.cycle.two_or_more in omega (arith, two, length-picked edges positions is.within)

-- where each edge can go there is no cycle
pub none_if_all_go : (before : Segment → Segment → Bool) (mode : Mode) (len : ℕ) (edges : List Edge) (removed positions : List ℕ) → IsWholeRemoval before mode edges removed → ¬ IsCycleAt before mode len edges positions
none_if_all_go before mode len edges removed positions all is =
    let some = cycle_has_some before mode len edges positions is in
    survives before mode len edges positions is removed all.in_order 0 0 some (all.whole (get_or positions 0 0) (is.within 0 0 some))
