-- The forks and joins of a list: the one at a position closes the segment of that index.
use Rattle.std.proofs.Common.{◌≡◌, ℕ, zero, suc, ◌+◌, ◌<◌, ◌≤◌, Bool, true, false, cond, List, [], ◌∷◌, length, take, Some, None, refl, sym, ap, subst, ◌∙◌, arith}
use Rattle.std.specs.Prelude.{filter, slice_get}
use Rattle.std.proofs.lemmas.Option.{same_Some}
use Rattle.std.proofs.lemmas.List.Sums.{sum_by-cons, length-filter, count_by-le-length}
use Rattle.gl_event.specs.Bounds.{greatest}
use Rattle.gl_event.specs.Events.{closes, segment}
use Rattle.gl_event.specs.Lawful.{IsLawful, refusal}
use Rattle.gl_event.specs.declared.events.Event.{Event}

-- the segment after an event and others
segment_cons : (x : Event) (xs : List Event) → segment (x ∷ xs) ≡ cond (closes x) 1 0 + segment xs
unfolding segment
segment_cons x xs = sum_by-cons (λ y. cond (closes y) 1 0) x xs

-- the first segment
segment_nil : segment [] ≡ 0
unfolding segment
segment_nil = refl

-- one more event before a fork or join
cut_step : (x : Event) (xs : List Event) (b : Bool) (n : ℕ) (e : Event) → slice_get (filter closes xs) n ≡ Some e → slice_get (cond b (x ∷ filter closes xs) (filter closes xs)) (cond b 1 0 + n) ≡ Some e
cut_step x xs true n e at = let one : 1 + n ≡ suc n = omega arith in rw one at
cut_step x xs false n e at = let none : 0 + n ≡ n = omega arith in rw none at

-- the fork or join at a place closes the segment in which it stands
pub place_to_cut : (es : List Event) (p : ℕ) (e : Event) → slice_get es p ≡ Some e → closes e ≡ true → slice_get (filter closes es) (segment (take p es)) ≡ Some e
place_to_cut [] p e at closing = cc
place_to_cut (x ∷ xs) zero e at closing =
    let here : closes x ≡ true = ap closes (same_Some x e at) ∙ closing in
    rw segment_nil (subst (λ b. slice_get (cond b (x ∷ filter closes xs) (filter closes xs)) 0 ≡ Some e) (sym here) at)
place_to_cut (x ∷ xs) (suc p) e at closing =
    let rest = place_to_cut xs p e at closing in
    subst (λ n. slice_get (cond (closes x) (x ∷ filter closes xs) (filter closes xs)) n ≡ Some e) (sym (segment_cons x (take p xs))) (cut_step x xs (closes x) (segment (take p xs)) e rest)

-- the place of a fork or join
pub record IsPlaceOf (es : List Event) (i : ℕ) (e : Event) : Type 0 where
  pub place : ℕ
  pub there : slice_get es place ≡ Some e
  pub in_segment : segment (take place es) ≡ i
  pub closing : closes e ≡ true

-- one more event before its place
place_later : (x : Event) (xs : List Event) (b : Bool) (i : ℕ) (e : Event) → closes x ≡ b → IsPlaceOf xs i e → IsPlaceOf (x ∷ xs) (cond b 1 0 + i) e
place_later x xs b i e is rest = record {
  place = suc rest.place;
  there = rest.there;
  in_segment = segment_cons x (take rest.place xs) ∙ ap (λ c. cond c 1 0 + segment (take rest.place xs)) is ∙ ap (λ n. cond b 1 0 + n) rest.in_segment;
  closing = rest.closing;
}

-- the first event is itself at its place
place_here : (x : Event) (xs : List Event) (e : Event) → closes x ≡ true → x ≡ e → IsPlaceOf (x ∷ xs) 0 e
place_here x xs e is same = record {
  place = 0;
  there = ap Some same;
  in_segment = segment_nil;
  closing = sym (ap closes same) ∙ is;
}

-- its place in a list with one more event, by whether that is a fork or join
place_cases_on : (x : Event) (xs : List Event) (b : Bool) (i : ℕ) (e : Event) → closes x ≡ b → ((j : ℕ) → slice_get (filter closes xs) j ≡ Some e → IsPlaceOf xs j e)
    → slice_get (cond b (x ∷ filter closes xs) (filter closes xs)) i ≡ Some e → IsPlaceOf (x ∷ xs) i e
place_cases_on x xs true zero e is rest at = place_here x xs e is (same_Some x e at)
place_cases_on x xs true (suc i) e is rest at = let one : 1 + i ≡ suc i = omega arith in rw one at (place_later x xs true i e is (rest i at))
place_cases_on x xs false i e is rest at = let none : 0 + i ≡ i = omega arith in rw none at (place_later x xs false i e is (rest i at))

-- a fork or join has a place, in the segment that it closes
pub cut_to_place : (es : List Event) (i : ℕ) (e : Event) → slice_get (filter closes es) i ≡ Some e → IsPlaceOf es i e
cut_to_place [] i e at = cc
cut_to_place (x ∷ xs) i e at = place_cases_on x xs (closes x) i e refl (λ j h. cut_to_place xs j e h) at

-- as many segments after the first as forks and joins
pub segment_is_length : (es : List Event) → segment es ≡ length (filter closes es)
unfolding segment
segment_is_length es = sym (length-filter closes es)

-- no more of them than events
pub segment_at_most : (es : List Event) → segment es ≤ length es
unfolding segment
segment_at_most es = count_by-le-length closes es

-- the front of a list has no more segments
pub segment_take : (es : List Event) (n : ℕ) → segment (take n es) ≤ segment es
segment_take es zero = rw segment_nil (omega arith)
segment_take [] (suc n) = omega arith
segment_take (x ∷ xs) (suc n) =
    let rest = segment_take xs n in
    let front = segment_cons x (take n xs) in
    let whole = segment_cons x xs in
    omega arith

-- a list that may get one more event is shorter than may be
allowed_length : (thread : ℕ) (es : List Event) (e : Event) → refusal greatest thread es e ≡ None → length es < 4000000000
unfolding refusal
allowed_length thread es e h = grind arith

-- an element at each place within
pub some_at : {X : Type 0} (xs : List X) (i : ℕ) → i < length xs → (x : X) × (slice_get xs i ≡ Some x)
some_at [] i h = absurd (omega arith)
some_at (x ∷ xs) zero h = (x, refl)
some_at (x ∷ xs) (suc i) h = some_at xs i (omega arith)

-- the length of a front
pub length_take_within : {X : Type 0} (n : ℕ) (xs : List X) → n ≤ length xs → length (take n xs) ≡ n
length_take_within zero xs h = refl
length_take_within (suc n) [] h = absurd (omega arith)
length_take_within (suc n) (x ∷ xs) h = ap suc (length_take_within n xs (omega arith))

-- a lawful list isn't longer than may be
pub lawful_length : (thread : ℕ) (es : List Event) → IsLawful greatest thread es → length es ≤ 4000000000
lawful_length thread [] lawful = omega arith
lawful_length thread (x ∷ xs) lawful =
    let last = some_at (x ∷ xs) (length xs) (omega arith) in
    let short = allowed_length thread (take (length xs) (x ∷ xs)) last.0 (lawful.each (length xs) last.0 last.1) in
    let exact = length_take_within (length xs) (x ∷ xs) (omega arith) in
    omega arith
