-- The first position of each pair of places, as a map learns it.
use Rattle.std.proofs.Common.{◌≡◌, ℕ, ◌+◌, ◌<◌, Bool, true, false, cond, nat_lt, List, [], ◌∷◌, ◌++◌, length, map, get_or, take, position, Option, Some, None, refl, sym, ap, ◌∙◌, ⊎_elim, inl, inr, arith}
use Rattle.std.specs.Prelude.{slice_get}
use Rattle.std.specs.List.{position_or_len}
use Rattle.std.specs.Option.{option_map_or}
use Rattle.std.proofs.lemmas.Bool.{cases_Bool, cases_lt, le-ltb, lt-ltb, ltb-false}
use Rattle.std.proofs.lemmas.List.{get_or-take, get_or_append_left, get_or_push, length-take-le, length_push, map-append, take_more}
use Rattle.std.proofs.lemmas.List.Quantifiers.{position-Some}
use Rattle.std.proofs.lemmas.List.Sums.{fails_before_first, position_or_len_is}
use Rattle.std.proofs.lemmas.Option.{get_or_from_slice_get, slice_get_within}
use Rattle.gl_edges.specs.declared.edge.Edge.{Edge}
use Rattle.gl_edges.specs.declared.edge.Sample.{Sample}
use Rattle.gl_index.proofs.Listed.{tells_locks}
use Rattle.gl_grounds.specs.Classes.{class_of, are_places, places_of}
use Rattle.gl_grounds.specs.bodies.Classing.{AreFirsts}

-- the first place that passes
position_at : {X : Type 0} (p : X → Bool) (xs : List X) (i : ℕ) (d : X) → i < length xs → ((k : ℕ) → k < i → p (get_or xs k d) ≡ false) → p (get_or xs i d) ≡ true → position p xs ≡ Some i
position_at p xs i d within before here =
    let is = position_or_len_is p xs i d (omega arith) before (λ h. here) in
    ap (λ n. cond (nat_lt n (length xs)) (Some n) None) is ∙ ap (λ b. cond b (Some i) None) (lt-ltb i (length xs) within)

-- where there is none
position_none : {X : Type 0} (p : X → Bool) (xs : List X) (d : X) → ((k : ℕ) → k < length xs → p (get_or xs k d) ≡ false) → position p xs ≡ None
position_none p xs d all =
    let is = position_or_len_is p xs (length xs) d (omega arith) all (λ h. absurd (omega arith)) in
    ap (λ n. cond (nat_lt n (length xs)) (Some n) None) is ∙ ap (λ b. cond b (Some (length xs)) None) (le-ltb (length xs) (length xs) (omega arith))

all_fail : {X : Type 0} (p : X → Bool) (xs : List X) (d : X) → position p xs ≡ None → (k : ℕ) → k < length xs → p (get_or xs k d) ≡ false
all_fail p xs d none k within =
    elim (cases_Bool (nat_lt (position_or_len p xs) (length xs))) [
      | inl early ↦ absurd (let is = sym (ap (λ b. cond b (Some (position_or_len p xs)) None) early) ∙ none in cc)
      | inr late ↦ let whole = ltb-false (position_or_len p xs) (length xs) late in fails_before_first p xs k d (omega arith)
    ]

-- the place in a list with one more element
abbrev place_after : Option ℕ → Bool → ℕ → Option ℕ
place_after place passes size = option_map_or (λ i. Some i) place (cond passes (Some size) None)

position-push : {X : Type 0} (p : X → Bool) (xs : List X) (y : X) → position p (xs ++ y ∷ []) ≡ place_after (position p xs) (p y) (length xs)
position-push p xs y = by (position p xs) refl (p y) refl
  where
    front : (k : ℕ) → k < length xs → p (get_or (xs ++ y ∷ []) k y) ≡ p (get_or xs k y)
    front k h = ap p (get_or_append_left xs (y ∷ []) y k h)

    by : (r : Option ℕ) → position p xs ≡ r → (b : Bool) → p y ≡ b → position p (xs ++ y ∷ []) ≡ place_after r b (length xs)
    by (Some i) e b is =
        let at = position-Some p xs i y e in
        position_at p (xs ++ y ∷ []) i y (omega (arith, at.0, length_push xs y)) (λ k h. front k (omega (arith, at.0)) ∙ at.2 k h) (front i at.0 ∙ at.1)
    by None e true is =
        position_at p (xs ++ y ∷ []) (length xs) y (omega (arith, length_push xs y)) (λ k h. front k h ∙ all_fail p xs y e k h) (ap p (get_or_push xs y y (length xs) refl) ∙ is)
    by None e false is = position_none p (xs ++ y ∷ []) y (λ k h. ⊎_elim (λ low. front k low ∙ all_fail p xs y e k low) (λ high. ap p (get_or_push xs y y k (omega (arith, length_push xs y))) ∙ is) (cases_lt k (length xs)))

-- one that fails changes nothing
passed_by : (place : Option ℕ) (size : ℕ) → place_after place false size ≡ place
passed_by None size = refl
passed_by (Some i) size = refl

module _ {X : Type 0} (p : X → Bool) (table : List X) (i : ℕ) (d : X) (within : i < length table) where
  long : length (take i table) ≡ i
  long = length-take-le i table (omega arith)

  -- a place that is found in a front is the first of all
  first_in_front : (k : ℕ) → position p (take i table) ≡ Some k → position_or_len p table ≡ k
  first_in_front k found =
      let at = position-Some p (take i table) k d found in
      let below : k < i = omega (arith, at.0, long) in
      position_or_len_is p table k d (omega arith) (λ j lower. ap p (sym (get_or-take i table j d (omega arith))) ∙ at.2 j lower) (λ h. ap p (sym (get_or-take i table k d below)) ∙ at.1)

  -- where none of a front passes and the next one does, it is the first
  first_after_front : position p (take i table) ≡ None → p (get_or table i d) ≡ true → position_or_len p table ≡ i
  first_after_front none passes =
      position_or_len_is p table i d (omega arith) (λ j lower. ap p (sym (get_or-take i table j d lower)) ∙ all_fail p (take i table) d none j (omega (arith, lower, long))) (λ h. passes)

-- the test of places tells of itself
same_itself : (q : ℕ × ℕ) → are_places q q ≡ true
same_itself q = elim (tells_locks q q) [ inl same ↦ same.0 | inr other ↦ absurd (other.1 refl) ]

module _ (table : List (Edge × Sample)) (pair : Edge × Sample) (i : ℕ) (first : ℕ × ℕ → Option ℕ) (at : slice_get table i ≡ Some pair) (had : AreFirsts (take i table) first) where
  within : i < length table
  within = slice_get_within table i pair at

  more : take (i + 1) table ≡ take i table ++ pair ∷ []
  more = take_more table i pair within ∙ ap (λ x. take i table ++ x ∷ []) (get_or_from_slice_get table i pair pair at)

  known : (k : ℕ) → first (places_of pair) ≡ Some k → k ≡ class_of table pair
  known k found = sym (first_in_front (λ x. are_places (places_of pair) (places_of x)) table i pair within k (sym (had (places_of pair)) ∙ found))

  new : first (places_of pair) ≡ None → i ≡ class_of table pair
  new none =
      sym
      (first_after_front (λ x. are_places (places_of pair) (places_of x)) table i pair within (sym (had (places_of pair)) ∙ none)
      (ap (λ x. are_places (places_of pair) (places_of x)) (get_or_from_slice_get table i pair pair at) ∙ same_itself (places_of pair)))

  after : (q : ℕ × ℕ) → position (λ x. are_places q (places_of x)) (take (i + 1) table) ≡ place_after (first q) (are_places q (places_of pair)) i
  after q =
      ap (position (λ x. are_places q (places_of x))) more ∙ position-push (λ x. are_places q (places_of x)) (take i table) pair
      ∙ ap (λ r. place_after r (are_places q (places_of pair)) (length (take i table))) (sym (had q)) ∙ ap (place_after (first q) (are_places q (places_of pair))) (length-take-le i table (let w = within in omega arith))

  -- places that are known stay as they are
  firsts_stay : (k : ℕ) → first (places_of pair) ≡ Some k → AreFirsts (take (i + 1) table) first
  firsts_stay k found q =
      elim (tells_locks q (places_of pair)) [
        | inl same ↦ ap first same.1 ∙ found ∙ sym (ap (λ r. place_after r (are_places q (places_of pair)) i) (ap first same.1 ∙ found)) ∙ sym (after q)
        | inr other ↦ sym (passed_by (first q) i) ∙ sym (ap (λ b. place_after (first q) b i) other.0) ∙ sym (after q)
      ]

  -- new ones have their first position
  firsts_more : (then : ℕ × ℕ → Option ℕ) → first (places_of pair) ≡ None → ((q : ℕ × ℕ) → then q ≡ cond (are_places (places_of pair) q) (Some i) (first q)) → AreFirsts (take (i + 1) table) then
  firsts_more then none updates q =
      elim (tells_locks (places_of pair) q) [
        | inl same ↦
            updates q ∙ ap (λ b. cond b (Some i) (first q)) same.0
            ∙ sym (ap (λ r. place_after r (are_places q (places_of pair)) i) (ap first (sym same.1) ∙ none) ∙ ap (λ b. place_after None b i) (ap (are_places q) same.1 ∙ same_itself q)) ∙ sym (after q)
        | inr other ↦
            let apart : are_places q (places_of pair) ≡ false = elim (tells_locks q (places_of pair)) [ inl same ↦ absurd (other.1 (sym same.1)) | inr differ ↦ differ.0 ] in
            updates q ∙ ap (λ b. cond b (Some i) (first q)) other.0 ∙ sym (passed_by (first q) i) ∙ sym (ap (λ b. place_after (first q) b i) apart) ∙ sym (after q)
      ]

-- the classes of one edge more
pub classes_more : (table : List (Edge × Sample)) (i : ℕ) (d : Edge × Sample) → i < length table → map (class_of table) (take (i + 1) table) ≡ map (class_of table) (take i table) ++ class_of table (get_or table i d) ∷ []
classes_more table i d within = ap (map (class_of table)) (take_more table i d within) ∙ map-append (class_of table) (take i table) (get_or table i d ∷ [])

pub class_known : (table : List (Edge × Sample)) (pair : Edge × Sample) (i : ℕ) (first : ℕ × ℕ → Option ℕ) (k : ℕ) (places : ℕ × ℕ) → AreFirsts (take i table) first → slice_get table i ≡ Some pair → places_of pair ≡ places → first places ≡ Some k
    → (k ≡ class_of table pair) × AreFirsts (take (i + 1) table) first
class_known table pair i first k places had at is found =
    let here = ap first is ∙ found in
    (known table pair i first at had k here, firsts_stay table pair i first at had k here)

pub class_new : (table : List (Edge × Sample)) (pair : Edge × Sample) (i : ℕ) (first then : ℕ × ℕ → Option ℕ) (places : ℕ × ℕ) → AreFirsts (take i table) first → slice_get table i ≡ Some pair → places_of pair ≡ places → first places ≡ None
    → ((q : ℕ × ℕ) → then q ≡ cond (are_places places q) (Some i) (first q)) → (i ≡ class_of table pair) × AreFirsts (take (i + 1) table) then
class_new table pair i first then places had at is none updates =
    let here = ap first is ∙ none in
    (new table pair i first at had here, firsts_more table pair i first at had then here (λ q. updates q ∙ ap (λ p. cond (are_places p q) (Some i) (first q)) (sym is)))
