-- How counts are raised to those of another clock.
use Rattle.std.proofs.Common.{◌≡◌, ℕ, suc, ◌+◌, ◌<◌, ◌≤◌, ◌⊎◌, Bool, true, false, cond, List, [], ◌∷◌, length, max, Some, refl, sym, ap, subst, ◌∙◌, inl, inr, arith}
use Rattle.std.specs.Prelude.{filter, slice_get, slice_index, slice_index_or, slice_set}
use Rattle.std.proofs.lemmas.Bool.{cases_eq, cases_lt}
use Rattle.std.proofs.lemmas.List.{length-set, get_or_past, get_or-set_other}
use Rattle.std.proofs.lemmas.Grind.{get_or-set_at}
use Rattle.std.proofs.lemmas.Bool.Decides.{nat_tests}
use Rattle.gl_segments.specs.declared.growths.Growth.{Growth}
use Rattle.gl_segments.specs.bodies.Histories.{is_past, last_count, count_at, clocks_along}
use Rattle.gl_segments.specs.bodies.Merging.{IsMerged, IsReached}
use Rattle.gl_segments.proofs.Along.{count_outside, count_own, count_of_other}

-- no counts were raised yet
pub merged_none : (old other : List ℕ) → IsMerged old other old 0
merged_none old other = record {
  width = refl;
  kept = λ k. omega arith;
  covers = λ k below. absurd (omega arith);
  only = λ k. inl refl;
}

-- one more count was raised
pub merged_more : (old other now : List ℕ) (n count : ℕ) → n < length now → count ≡ slice_index other n → IsMerged old other now n
    → IsMerged old other (slice_set now n (max (slice_index now n) count)) (n + 1)
merged_more old other now n count within is so_far =
    let new : List ℕ = slice_set now n (max (slice_index now n) count) in
    let here : (k : ℕ) → k ≡ n → slice_index new k ≡ max (slice_index now n) count = λ k same. get_or-set_at now n k (max (slice_index now n) count) 0 same within in
    let there : (k : ℕ) → (k ≡ n → ⊥) → slice_index new k ≡ slice_index now k = λ k other. get_or-set_other now n k (max (slice_index now n) count) 0 other in
    let same_count : (xs : List ℕ) (k : ℕ) → k ≡ n → slice_index xs k ≡ slice_index xs n = λ xs k same. ap (slice_index xs) same in
    record {
      width = length-set now n (max (slice_index now n) count) ∙ so_far.width;
      kept = λ k.
          elim (cases_eq k n) [
            | inl same ↦ let a = so_far.kept k in let b = here k same in let c = same_count now k same in omega arith
            | inr apart ↦ let a = so_far.kept k in let b = there k apart in omega arith
          ];
      covers = λ k below.
          elim (cases_eq k n) [
            | inl same ↦ let b = here k same in let c = same_count other k same in omega arith
            | inr apart ↦ let a = so_far.covers k (omega arith) in let b = there k apart in omega arith
          ];
      only = λ k.
          elim (cases_eq k n) [
            | inl same ↦
                let b = here k same in
                let c = same_count other k same in
                let d = same_count now k same in
                elim (cases_lt (slice_index now n) count) [
                  | inl less ↦ inr (omega arith)
                  | inr most ↦
                      let now_is : slice_index new k ≡ slice_index now k = omega arith in
                      elim (so_far.only k) [
                        | inl old_is ↦ inl (now_is ∙ old_is)
                        | inr below ↦ inr (omega arith)
                      ]
                ]
            | inr apart ↦
                let b = there k apart in
                elim (so_far.only k) [
                  | inl old_is ↦ inl (b ∙ old_is)
                  | inr below ↦ inr (omega arith)
                ]
          ];
    }

-- counts that are raised twice
pub merged_twice : (old other now new : List ℕ) → IsMerged old other now 0 → IsMerged now other new 0 → IsMerged old other new 0
merged_twice old other now new a b = record {
  width = b.width ∙ a.width;
  kept = λ k. let x = a.kept k in let y = b.kept k in omega arith;
  covers = λ k below. absurd (omega arith);
  only = λ k.
      elim (b.only k) [
        | inl same ↦
            elim (a.only k) [
              | inl old_is ↦ inl (same ∙ old_is)
              | inr below ↦ inr (omega arith)
            ]
        | inr below ↦ inr below
      ];
}

-- what was reached stays so
pub reached_still : (old other now new : List ℕ) (k count : ℕ) → IsMerged now other new 0 → IsReached other now k count → IsReached other new k count
reached_still old other now new k count merged (inl a) = let b = merged.kept k in inl (omega arith)
reached_still old other now new k count merged (inr (inl a)) = let b = merged.kept k in inr (inl (omega arith))
reached_still old other now new k count merged (inr (inr a)) = let w = merged.width in inr (inr (omega arith))

past_thread : (g : Growth) (index k : ℕ) → is_past index k g ≡ true → g.thread ≡ k
past_thread g index k past = grind (arith, nat_tests)

-- a count that growths tell is that of one of them, or the one from which they start
abbrev IsAmong : ℕ → ℕ → List Growth → ℕ → Type 0
IsAmong k base gs count = (count ≡ base) ⊎ ((p : ℕ) × (g : Growth) × (slice_get gs p ≡ Some g) × (g.thread ≡ k) × (count ≡ g.count))

kept_among : (index k base : ℕ) (gs : List Growth) → IsAmong k base gs (last_count base (filter (is_past index k) gs))
kept_among index k base [] = inl refl
kept_among index k base (g ∷ gs) = by (is_past index k g) refl (kept_among index k g.count gs) (kept_among index k base gs)
  where
    rest : List Growth
    rest = filter (is_past index k) gs

    later : (b count : ℕ) → IsAmong k b gs count → (count ≡ b → IsAmong k base (g ∷ gs) count) → IsAmong k base (g ∷ gs) count
    later b count (inl is) here = here is
    later b count (inr (p, h, at, same, is)) here = inr (suc p, h, at, same, is)

    by : (b : Bool) → is_past index k g ≡ b → IsAmong k g.count gs (last_count g.count rest) → IsAmong k base gs (last_count base rest) → IsAmong k base (g ∷ gs) (last_count base (cond b (g ∷ rest) rest))
    by true past this other = later g.count (last_count g.count rest) this (λ is. inr (0, g, refl, past_thread g index k past, is))
    by false not_past this other = later base (last_count base rest) other (λ is. inl is)

among : (first index k : ℕ) (gs : List Growth) → IsAmong k first gs (count_at first gs index k)
unfolding count_at
among first index k gs = kept_among index k first gs

-- counts that reach all that is kept of another thread's clocks reach the clock
pub merged_all : (own segments threads index : ℕ) (first : List ℕ) (gs : List Growth) (old new other : List ℕ) → other ≡ slice_index_or (clocks_along own segments threads first gs) index []
    → IsMerged old other new 0 → IsReached other new own index → ((k : ℕ) → k < length first → IsReached other new k (slice_index first k))
    → ((p : ℕ) (g : Growth) → slice_get gs p ≡ Some g → IsReached other new g.thread g.count) → IsMerged old other new (length old)
merged_all own segments threads index first gs old new other is merged own_reached first_reached growths_reached = record {
  width = merged.width;
  kept = merged.kept;
  covers = λ k below.
      let width = merged.width in
      let clock : slice_index other k ≡ slice_index (slice_index_or (clocks_along own segments threads first gs) index []) k = ap (λ c. slice_index c k) is in
      let enough : (count : ℕ) → IsReached other new k count → slice_index other k ≤ count → slice_index other k ≤ slice_index new k = λ count reached most. by_reach k count reached most (omega arith) in
      elim (cases_lt index segments) [
        | inl here ↦
            elim (cases_lt k threads) [
              | inl within ↦
                  elim (cases_eq k own) [
                    | inl same ↦
                        let e = count_own own segments threads first gs index k here within same in
                        enough index (subst (λ t. IsReached other new t index) (sym same) own_reached) (omega arith)
                    | inr apart ↦
                        let e = count_of_other own segments threads first gs index k here within apart in
                        elim (among (slice_index first k) index k gs) [
                          | inl first_is ↦
                              elim (cases_lt k (length first)) [
                                | inl has ↦ enough (slice_index first k) (first_reached k has) (omega arith)
                                | inr past ↦ let none = get_or_past first k 0 past in omega arith
                              ]
                          | inr (p, g, at, thread, count) ↦ enough g.count (subst (λ t. IsReached other new t g.count) thread (growths_reached p g at)) (omega arith)
                        ]
                  ]
              | inr outside ↦ let none = count_outside own segments threads first gs index k (inr outside) in omega arith
            ]
        | inr outside ↦ let none = count_outside own segments threads first gs index k (inl outside) in omega arith
      ];
  only = merged.only;
}
  where
    by_reach : (k count : ℕ) → IsReached other new k count → slice_index other k ≤ count → k < length new → slice_index other k ≤ slice_index new k
    by_reach k count (inl a) most below = omega arith
    by_reach k count (inr (inl a)) most below = a
    by_reach k count (inr (inr a)) most below = absurd (omega arith)
