-- The positions with a key, from the last one back to the first.
use Rattle.std.proofs.Common.{◌≡◌, ◌≢◌, ℕ, ◌+◌, ◌<◌, ◌⊎◌, Bool, true, false, cond, eqb, List, length, set, Option, Some, None, refl, sym, ap, subst, ◌∙◌, arith, inl, inr}
use Rattle.std.specs.Option.{option_eq}
use Rattle.std.specs.Prelude.{slice_get}
use Rattle.std.proofs.lemmas.Bool.{cases_eq, eq-eqb, ne_eqb, and_from, and_left, and_right}
use Rattle.std.proofs.lemmas.List.{length-set, get_or-set_same, get_or-set_other}
use Rattle.std.proofs.lemmas.Option.{slice_get_within, slice_get-get_or, same_Some}
use Rattle.gl_walks.specs.bodies.Listing.{IsNext, AreListed, Key, same_key}

-- the test says whether the two are the same
abbrev Tells : {K : Type 0} → (K → K → Bool) → Type 0
Tells {K} same = (a b : K) → ((same a b ≡ true) × (a ≡ b)) ⊎ ((same a b ≡ false) × (a ≢ b))

tells_number : Tells eqb
tells_number a b = elim (cases_eq a b) [ inl is ↦ inl (eq-eqb a b is, is) | inr other ↦ inr (ne_eqb a b other, other) ]

tells_option : (a b : Option ℕ) → ((option_eq eqb a b ≡ true) × (a ≡ b)) ⊎ ((option_eq eqb a b ≡ false) × (a ≢ b))
tells_option None None = inl (refl, refl)
tells_option None (Some y) = inr (refl, λ is. cc)
tells_option (Some x) None = inr (refl, λ is. cc)
tells_option (Some x) (Some y) = elim (tells_number x y) [ inl same ↦ inl (same.0, ap Some same.1) | inr other ↦ inr (other.0, λ is. other.1 (same_Some x y is)) ]

tells_key : (a b : Key) → ((same_key a b ≡ true) × (a ≡ b)) ⊎ ((same_key a b ≡ false) × (a ≢ b))
tells_key a b =
    elim (tells_number a.0 b.0) [
      | inl first ↦
          elim (tells_option a.1 b.1) [
            | inl second ↦ inl (and_from _ _ first.0 second.0, λ i. (first.1 i, second.1 i))
            | inr other ↦ inr (and_right _ _ other.0, λ is. other.1 (ap (λ x. x.1) is))
          ]
      | inr other ↦ inr (and_left _ _ other.0, λ is. other.1 (ap (λ x. x.0) is))
    ]

module _ (key : ℕ → Option Key) (size : ℕ) where
  -- past the end nothing has a key
  none_past : (k : Key) → IsNext key size k size None
  none_past k = record {
    from = omega arith;
    within = omega arith;
    has = λ i is. absurd (cc);
    skipped = λ i from below. absurd (omega arith);
  }

  -- before any position is listed
  pub none_listed : (first : Key → Option ℕ) (next : List (Option ℕ)) → length next ≡ size → ((k : Key) → first k ≡ None) → AreListed key size size first next
  none_listed first next long none = record {
    long = long;
    begins = λ k. subst (IsNext key size k size) (sym (none k)) (none_past k);
    goes_on = λ i k after from at there. let within = slice_get_within next i after there in absurd (omega arith);
  }

  module _ (n : ℕ) where
    -- a position with the key is the first from itself on
    next_here : (k : Key) → n < size → key n ≡ Some k → IsNext key size k n (Some n)
    next_here k within at = record {
      from = omega arith;
      within = omega arith;
      has = λ i is.
          let same : n ≡ i = same_Some n i is in
          (subst (λ m. m < size) same within, subst (λ m. key m ≡ Some k) same at);
      skipped = λ i from below. absurd (omega arith);
    }

    -- one without it is passed over
    next_later : (k : Key) (next : Option ℕ) → key n ≢ Some k → IsNext key size k (n + 1) next → IsNext key size k n next
    next_later k next other later =
        let from = later.from in
        record {
          from = omega arith;
          within = later.within;
          has = later.has;
          skipped = λ i from_n below.
              elim (cases_eq i n) [
                | inl same ↦ subst (λ m. key m ≢ Some k) (sym same) other
                | inr apart ↦ later.skipped i (omega arith) below
              ];
        }

    -- a position without a key
    pub listed_passed : (first : Key → Option ℕ) (next : List (Option ℕ)) → key n ≡ None → AreListed key size (n + 1) first next → AreListed key size n first next
    listed_passed first next none had =
        let other = λ (k : Key) (at : key n ≡ Some k). not_both k none at in
        record {
          long = had.long;
          begins = λ k. next_later k (first k) (other k) (had.begins k);
          goes_on = λ i k after from at there.
              elim (cases_eq i n) [
                | inl same ↦ absurd (other k (sym (ap key same) ∙ at))
                | inr apart ↦ had.goes_on i k after (omega arith) at there
              ];
        }
      where
        not_both : (k : Key) → key n ≡ None → key n ≡ Some k → ⊥
        not_both k none some = let clash = sym none ∙ some in cc

    -- one with a key
    pub listed_more : (first more : Key → Option ℕ) (next after : List (Option ℕ)) (here : Key) → n < size → key n ≡ Some here → AreListed key size (n + 1) first next → after ≡ set next n (first here)
        → ((k : Key) → more k ≡ cond (same_key here k) (Some n) (first k)) → AreListed key size n more after
    listed_more first more next after here within at had is_set updated = record {
      long = ap length is_set ∙ length-set next n (first here) ∙ had.long;
      begins = λ k.
          elim (tells_key here k) [
            | inl is ↦ subst (IsNext key size k n) (sym (updated k ∙ ap (λ b. cond b (Some n) (first k)) is.0)) (next_here k within (at ∙ ap Some is.1))
            | inr other ↦
                subst (IsNext key size k n) (sym (updated k ∙ ap (λ b. cond b (Some n) (first k)) other.0))
                (next_later k (first k) (λ same. other.1 (same_Some here k (sym at ∙ same))) (had.begins k))
          ];
      goes_on = λ i k later from at_i there.
          let long = had.long in
          let found = first here in
          let stands : slice_get (set next n found) i ≡ Some later = sym (ap (λ l. slice_get l i) is_set) ∙ there in
          let in_set = slice_get_within (set next n found) i later stands in
          let in_i : i < length next = omega (arith, length-set next n found) in
          elim (cases_eq i n) [
            | inl same ↦
                let in_n : n < length next = omega arith in
                let is : found ≡ later =
                same_Some found later
                (sym (ap Some (get_or-set_same next n found found in_n)) ∙ sym (slice_get-get_or (set next n found) n found (omega (arith, length-set next n found)))
                ∙ ap (slice_get (set next n found)) (sym same) ∙ stands) in
                let is_k : here ≡ k = same_Some here k (sym at ∙ sym (ap key same) ∙ at_i) in
                subst (λ m. IsNext key size k (m + 1) later) (sym same) (subst (λ x. IsNext key size x (n + 1) later) is_k (subst (IsNext key size here (n + 1)) is (had.begins here)))
            | inr other ↦
                had.goes_on i k later (omega arith) at_i
                (slice_get-get_or next i later in_i ∙ ap Some (sym (get_or-set_other next n i found later other)) ∙ sym (slice_get-get_or (set next n found) i later in_set) ∙ stands)
          ];
    }
