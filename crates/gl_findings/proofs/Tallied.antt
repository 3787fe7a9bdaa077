-- The different numbers of each class, as they are noted and counted one by one.
use Rattle.std.proofs.Common.{◌≡◌, ℕ, ◌+◌, ◌<◌, ◌≤◌, Bool, true, false, ◌||◌, ◌&&◌, cond, List, [], ◌∷◌, ◌++◌, length, map, filter, set, not, refl, sym, ap, ◌∙◌, inl, inr, arith}
use Rattle.std.specs.Prelude.{nat_eq, slice_get, Some}
use Rattle.std.specs.Set.{distinct_count, is_member, unique_keys}
use Rattle.std.proofs.lemmas.List.{append-nil, map-append, length-map, length-set}
use Rattle.std.proofs.lemmas.List.Elements.{filter-append}
use Rattle.std.proofs.lemmas.List.Folds.{list_any-append}
use Rattle.std.proofs.lemmas.List.Sums.{count_by-le-length, length-filter}
use Rattle.std.proofs.lemmas.Map.Made.{distinct_count-le}
use Rattle.std.proofs.lemmas.Option.{same_Some, slice_get_within}
use Rattle.gl_index.proofs.Lists.{set_here, set_elsewhere}
use Rattle.gl_index.proofs.Listed.{tells_lock, tells_locks}
use Rattle.gl_grounds.specs.Classes.{are_places}
use Rattle.gl_findings.specs.bodies.Tallies.{IsTally, numbers_of}

abbrev if_new : Bool → ℕ
if_new there = cond there 0 1

-- an element that is there, or is put before
one_longer : (there : Bool) (x : ℕ) (l : List ℕ) → length (cond there l (x ∷ l)) ≡ length l + if_new there
one_longer true x l = omega arith
one_longer false x l = omega arith

or_false : (b : Bool) → (b || false) ≡ b
or_false true = refl
or_false false = refl

or_true : (b : Bool) → (b || true) ≡ true
or_true true = refl
or_true false = refl

pub same_back : (a b : ℕ) → a ≡ b → nat_eq b a ≡ true
same_back a b same = elim (tells_lock b a) [ inl is ↦ is.0 | inr other ↦ absurd (other.1 (sym same)) ]

pub other_back : (a b : ℕ) → (a ≡ b → ⊥) → nat_eq b a ≡ false
other_back a b other = elim (tells_lock b a) [ inl is ↦ absurd (other (sym is.1)) | inr differ ↦ differ.0 ]

-- the count with one number more: it is counted if it is a new one
count_push : (xs : List ℕ) (n : ℕ) → distinct_count nat_eq (xs ++ n ∷ []) ≡ distinct_count nat_eq xs + if_new (is_member nat_eq xs n)
count_push [] n = refl
count_push (x ∷ xs) n =
    let rest = count_push xs n in
    let long = one_longer (is_member nat_eq (xs ++ n ∷ []) x) x (unique_keys nat_eq (xs ++ n ∷ [])) in
    let short = one_longer (is_member nat_eq xs x) x (unique_keys nat_eq xs) in
    let there : is_member nat_eq (xs ++ n ∷ []) x ≡ (is_member nat_eq xs x || (nat_eq x n || false)) = list_any-append (nat_eq x) xs (n ∷ []) in
    elim (tells_lock n x) [
      | inl same ↦
          let first : if_new (is_member nat_eq (xs ++ n ∷ []) x) ≡ if_new true = ap if_new (there ∙ ap (λ b. is_member nat_eq xs x || (b || false)) (same_back n x same.1) ∙ or_true (is_member nat_eq xs x)) in
          let last : if_new (nat_eq n x || is_member nat_eq xs n) ≡ if_new true = ap (λ b. if_new (b || is_member nat_eq xs n)) same.0 in
          let alike : if_new (is_member nat_eq xs x) ≡ if_new (is_member nat_eq xs n) = ap (λ y. if_new (is_member nat_eq xs y)) (sym same.1) in
          omega (arith, rest, long, short, first, last, alike)
      | inr other ↦
          let first : if_new (is_member nat_eq (xs ++ n ∷ []) x) ≡ if_new (is_member nat_eq xs x) = ap if_new (there ∙ ap (λ b. is_member nat_eq xs x || (b || false)) (other_back n x other.1) ∙ or_false (is_member nat_eq xs x)) in
          let last : if_new (nat_eq n x || is_member nat_eq xs n) ≡ if_new (is_member nat_eq xs n) = ap (λ b. if_new (b || is_member nat_eq xs n)) other.0 in
          omega (arith, rest, long, short, first, last)
    ]

-- the numbers of a class, with one more that is noted
numbers_push : (class : ℕ) (noted : List (ℕ × ℕ)) (q : ℕ × ℕ) → numbers_of class (noted ++ q ∷ []) ≡ numbers_of class noted ++ cond (nat_eq q.0 class) (q.1 ∷ []) []
numbers_push class noted q =
    ap (map (λ p. p.1)) (filter-append (λ p. nat_eq p.0 class) noted (q ∷ []))
    ∙ map-append (λ p. p.1) (filter (λ p. nat_eq p.0 class) noted) (filter (λ p. nat_eq p.0 class) (q ∷ []))
    ∙ ap (λ l. numbers_of class noted ++ l) (one (nat_eq q.0 class))
  where
    one : (b : Bool) → map (λ p. p.1) (cond b (q ∷ []) []) ≡ cond b (q.1 ∷ []) []
    one true = refl
    one false = refl

-- a number is one of a class if it was noted for it
members : (class n : ℕ) (noted : List (ℕ × ℕ)) → is_member nat_eq (numbers_of class noted) n ≡ is_member are_places noted (class, n)
members class n [] = refl
members class n (q ∷ noted) =
    elim (tells_lock q.0 class) [
      | inl same ↦ by (nat_eq q.0 class) (nat_eq class q.0) (same.0 ∙ sym (same_back q.0 class same.1)) (members class n noted)
      | inr other ↦ by (nat_eq q.0 class) (nat_eq class q.0) (other.0 ∙ sym (other_back q.0 class other.1)) (members class n noted)
    ]
  where
    by : (b back : Bool) → b ≡ back → is_member nat_eq (numbers_of class noted) n ≡ is_member are_places noted (class, n)
        → is_member nat_eq (map (λ p. p.1) (cond b (q ∷ filter (λ p. nat_eq p.0 class) noted) (filter (λ p. nat_eq p.0 class) noted))) n ≡ ((back && nat_eq n q.1) || is_member are_places noted (class, n))
    by true true same rest = ap (λ b. nat_eq n q.1 || b) rest
    by false false same rest = rest
    by true false same rest = absurd (cc)
    by false true same rest = absurd (cc)

-- no class has more different numbers than are noted
few_numbers : (class : ℕ) (noted : List (ℕ × ℕ)) → distinct_count nat_eq (numbers_of class noted) ≤ length noted
few_numbers class noted =
    omega
    (arith, distinct_count-le nat_eq (numbers_of class noted), length-map (filter (λ p. nat_eq p.0 class) noted) (λ p. p.1), length-filter (λ p. nat_eq p.0 class) noted, count_by-le-length (λ p. nat_eq p.0 class) noted)

-- no count is greater than how many are noted
pub tally_few : (noted : List (ℕ × ℕ)) (seen : ℕ × ℕ → Bool) (counts : List ℕ) (class count : ℕ) → IsTally noted seen counts → slice_get counts class ≡ Some count → count ≤ length noted
tally_few noted seen counts class count tally at = omega (arith, tally.counted class count at, few_numbers class noted)

-- whether a number was known, by whether it is added
pub was_known : (known added : Bool) → added ≡ not known → added ≡ false → known ≡ true
was_known true added is old = refl
was_known false added is old = absurd (cc)

pub was_new : (known added : Bool) → added ≡ not known → added ≡ true → known ≡ false
was_new false added is new = refl
was_new true added is new = absurd (cc)

module _ (noted : List (ℕ × ℕ)) (seen then : ℕ × ℕ → Bool) (counts : List ℕ) (class number : ℕ) (tally : IsTally noted seen counts) (updates : (q : ℕ × ℕ) → then q ≡ cond (are_places (class, number) q) true (seen q)) where
  -- what was noted and the number are known then
  known : (q : ℕ × ℕ) → then q ≡ is_member are_places (noted ++ (class, number) ∷ []) q
  known q =
      let there : is_member are_places (noted ++ (class, number) ∷ []) q ≡ (is_member are_places noted q || (are_places q (class, number) || false)) = list_any-append (are_places q) noted ((class, number) ∷ []) in
      updates q ∙ by (are_places (class, number) q) (are_places q (class, number)) (seen q) (is_member are_places noted q) back (tally.known q) ∙ sym there
    where
      back : are_places (class, number) q ≡ are_places q (class, number)
      back =
          elim (tells_locks (class, number) q) [
            | inl same ↦ elim (tells_locks q (class, number)) [ inl is ↦ same.0 ∙ sym is.0 | inr other ↦ absurd (other.1 (sym same.1)) ]
            | inr other ↦ elim (tells_locks q (class, number)) [ inl is ↦ absurd (other.1 (sym is.1)) | inr differ ↦ other.0 ∙ sym differ.0 ]
          ]

      by : (b other s t : Bool) → b ≡ other → s ≡ t → cond b true s ≡ (t || (other || false))
      by true true s true same is = refl
      by true true s false same is = refl
      by false false true true same is = refl
      by false false false false same is = refl
      by true false s t same is = absurd (cc)
      by false true s t same is = absurd (cc)
      by false false true false same is = absurd (cc)
      by false false false true same is = absurd (cc)

  -- the number was noted for its class if it was known
  was : is_member nat_eq (numbers_of class noted) number ≡ seen (class, number)
  was = members class number noted ∙ sym (tally.known (class, number))

  -- the count of the number's class, and of the others
  here : distinct_count nat_eq (numbers_of class (noted ++ (class, number) ∷ [])) ≡ distinct_count nat_eq (numbers_of class noted) + if_new (seen (class, number))
  here =
      ap (distinct_count nat_eq) (numbers_push class noted (class, number) ∙ ap (λ b. numbers_of class noted ++ cond b (number ∷ []) []) (same_back class class refl))
      ∙ count_push (numbers_of class noted) number ∙ ap (λ b. distinct_count nat_eq (numbers_of class noted) + if_new b) was

  elsewhere : (k : ℕ) → (k ≡ class → ⊥) → distinct_count nat_eq (numbers_of k (noted ++ (class, number) ∷ [])) ≡ distinct_count nat_eq (numbers_of k noted)
  elsewhere k other =
      ap (distinct_count nat_eq)
      (numbers_push k noted (class, number) ∙ ap (λ b. numbers_of k noted ++ cond b (number ∷ []) []) (other_back k class other) ∙ append-nil (numbers_of k noted))

  -- a number that is not new
  pub tally_old : seen (class, number) ≡ true → IsTally (noted ++ (class, number) ∷ []) then counts
  tally_old old = record {
    known = known;
    counted = λ k count at.
        elim (tells_lock k class) [
          | inl same ↦
              let before : count ≡ distinct_count nat_eq (numbers_of class noted) = tally.counted k count at ∙ ap (λ j. distinct_count nat_eq (numbers_of j noted)) same.1 in
              let none : if_new (seen (class, number)) ≡ if_new true = ap if_new old in
              let after : count ≡ distinct_count nat_eq (numbers_of class (noted ++ (class, number) ∷ [])) = omega (arith, before, none, here) in
              after ∙ ap (λ j. distinct_count nat_eq (numbers_of j (noted ++ (class, number) ∷ []))) (sym same.1)
          | inr other ↦ tally.counted k count at ∙ sym (elsewhere k other.1)
        ];
  }

  -- a new one
  pub tally_new : (count : ℕ) → slice_get counts class ≡ Some count → seen (class, number) ≡ false → IsTally (noted ++ (class, number) ∷ []) then (set counts class (count + 1))
  tally_new count had new = record {
    known = known;
    counted = λ k more at.
        elim (tells_lock k class) [
          | inl same ↦
              let is : more ≡ count + 1 = same_Some more (count + 1) (sym at ∙ ap (slice_get (set counts class (count + 1))) same.1 ∙ set_here counts class (count + 1) (slice_get_within counts class count had)) in
              let before : count ≡ distinct_count nat_eq (numbers_of class noted) = tally.counted class count had in
              let one : if_new (seen (class, number)) ≡ if_new false = ap if_new new in
              let after : more ≡ distinct_count nat_eq (numbers_of class (noted ++ (class, number) ∷ [])) = omega (arith, is, before, one, here) in
              after ∙ ap (λ j. distinct_count nat_eq (numbers_of j (noted ++ (class, number) ∷ []))) (sym same.1)
          | inr other ↦
              let inside : k < length counts = omega (arith, slice_get_within (set counts class (count + 1)) k more at, length-set counts class (count + 1)) in
              tally.counted k more (sym (set_elsewhere counts class k (count + 1) other.1 inside) ∙ at) ∙ sym (elsewhere k other.1)
        ];
  }
