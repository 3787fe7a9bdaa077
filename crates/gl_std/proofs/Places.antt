-- The place of a name after another name joined the list, and the events of a thread after an event of a thread.
use Rattle.std.proofs.Common.{◌≡◌, ◌≢◌, ℕ, ◌<◌, Bool, true, false, ◌&&◌, cond, nat_lt, List, [], ◌∷◌, ◌++◌, length, get_or, position, AllPairs, Option, Some, None, refl, sym, ap, subst, ◌∙◌, ⊎_elim, arith}
use Rattle.std.specs.Prelude.{slice_get, slice_set}
use Rattle.std.specs.Option.{option_map_or}
use Rattle.std.specs.Str.{bytes_eq}
use Rattle.std.proofs.lemmas.Bool.{false≢true, cases_lt}
use Rattle.std.proofs.lemmas.Bool.Decides.{nat_tests}
use Rattle.std.proofs.lemmas.List.{get_or_append_left, get_or_push, length_push, get_or-set_same, get_or-set_other}
use Rattle.std.proofs.lemmas.List.Folds.{list_any_at}
use Rattle.std.proofs.lemmas.Option.{get_or_from_slice_get, slice_get_within}
use Rattle.std.proofs.lemmas.List.Sums.{position_or_len_is}
use Rattle.std.proofs.lemmas.List.Quantifiers.{position-Some}
use Rattle.std.proofs.lemmas.Slice.Eq.{bytes_eq-Decides}
use Rattle.gl_event.specs.declared.events.Event.{Event}
use Rattle.gl_std.specs.Line.{Operation, is_on_itself, is_on_thread}
use Rattle.gl_std.specs.Trace.{events_of, with_event, with_list}
use Rattle.gl_std.specs.bodies.Finding.{with_name}
use Rattle.gl_std.proofs.NameBytes.{list_any-absent}

append_nil : {X : Type 0} (xs : List X) → xs ++ [] ≡ xs
append_nil [] = refl
append_nil (x ∷ xs) = ap (λ ys. x ∷ ys) (append_nil xs)

-- the first place that passes
pub position_at : {X : Type 0} (p : X → Bool) (xs : List X) (i : ℕ) (d : X) → i < length xs → ((k : ℕ) → k < i → p (get_or xs k d) ≡ false) → p (get_or xs i d) ≡ true → position p xs ≡ Some i
position_at p xs i d within before here =
    let is = position_or_len_is p xs i d (omega arith) before (λ h. here) in
    let test : nat_lt i (length xs) ≡ true = grind (arith, nat_tests, within) in
    ap (λ n. cond (nat_lt n (length xs)) (Some n) None) is ∙ ap (λ b. cond b (Some i) None) test

position_none : {X : Type 0} (p : X → Bool) (xs : List X) (d : X) → ((k : ℕ) → k < length xs → p (get_or xs k d) ≡ false) → position p xs ≡ None
position_none p xs d all =
    let is = position_or_len_is p xs (length xs) d (omega arith) all (λ h. absurd (omega arith)) in
    let test : nat_lt (length xs) (length xs) ≡ false = grind (arith, nat_tests) in
    ap (λ n. cond (nat_lt n (length xs)) (Some n) None) is ∙ ap (λ b. cond b (Some (length xs)) None) test

all_fail : {X : Type 0} (p : X → Bool) (xs : List X) (d : X) → position p xs ≡ None → (k : ℕ) → k < length xs → p (get_or xs k d) ≡ false
all_fail p xs d none k within = by (p (get_or xs k d)) refl
  where
    by : (b : Bool) → p (get_or xs k d) ≡ b → b ≡ false
    by true e = absurd (false≢true (sym (list_any-absent p xs none) ∙ list_any_at p xs k d within e))
    by false e = refl

-- the place in a list with one more element
abbrev pub place_after : Option ℕ → Bool → ℕ → Option ℕ
place_after place passes size = option_map_or (λ i. Some i) place (cond passes (Some size) None)

pub position-push : {X : Type 0} (p : X → Bool) (xs : List X) (y : X) → position p (xs ++ y ∷ []) ≡ place_after (position p xs) (p y) (length xs)
position-push p xs y = by (position p xs) refl (p y) refl
  where
    front : (k : ℕ) → k < length xs → p (get_or (xs ++ y ∷ []) k y) ≡ p (get_or xs k y)
    front k h = ap p (get_or_append_left xs (y ∷ []) y k h)

    by : (r : Option ℕ) → position p xs ≡ r → (b : Bool) → p y ≡ b → position p (xs ++ y ∷ []) ≡ place_after r b (length xs)
    by (Some i) e b is =
        let at = position-Some p xs i y e in
        position_at p (xs ++ y ∷ []) i y (omega (arith, at.0, length_push xs y)) (λ k h. front k (omega (arith, at.0)) ∙ at.2 k h) (front i at.0 ∙ at.1)
    by None e true is =
        position_at p (xs ++ y ∷ []) (length xs) y (omega (arith, length_push xs y)) (λ k h. front k h ∙ all_fail p xs y e k h) (ap p (get_or_push xs y y (length xs) refl) ∙ is)
    by None e false is = position_none p (xs ++ y ∷ []) y (λ k h. ⊎_elim (λ low. front k low ∙ all_fail p xs y e k low) (λ high. ap p (get_or_push xs y y k (omega (arith, length_push xs y))) ∙ is) (cases_lt k (length xs)))

-- ---- names

pub same_name : (a b : List ℕ) → bytes_eq a b ≡ true → a ≡ b
same_name a b h = (bytes_eq-Decides a b).0 h

pub itself : (a : List ℕ) → bytes_eq a a ≡ true
itself a = (bytes_eq-Decides a a).1 refl

pub other_name : (a b : List ℕ) → a ≢ b → bytes_eq a b ≡ false
other_name a b apart = by (bytes_eq a b) refl
  where
    by : (r : Bool) → bytes_eq a b ≡ r → r ≡ false
    by true same = absurd (apart (same_name a b same))
    by false e = refl

-- the number of a name is where it stands among different names
pub number_of : (names : List (List ℕ)) (name at : List ℕ) (i : ℕ) → AllPairs (λ a b. a ≢ b) names → slice_get names i ≡ Some at → bytes_eq name at ≡ true → position (bytes_eq name) names ≡ Some i
number_of names name at i differ stands same =
    let within = slice_get_within names i at stands in
    let is : get_or names i at ≡ name = get_or_from_slice_get names i at at stands ∙ sym (same_name name at same) in
    position_at (bytes_eq name) names i at within (λ k low. other_name name (get_or names k at) (λ equal. differ k i at low within (sym equal ∙ sym is))) (ap (bytes_eq name) is ∙ itself name)

-- ---- the events of a thread

-- the events of the thread with this name
abbrev pub events_named : List (List ℕ) → List (List Event) → List ℕ → List Event
events_named names lists name = events_of lists (position (bytes_eq name) names)

-- the event, where it is this thread's
abbrev pub own : Bool → Event → List Event
own mine e = cond mine (e ∷ []) []

past_end : (lists : List (List Event)) (x : List Event) (i n : ℕ) → i < length lists → get_or (lists ++ x ∷ []) i [] ≡ get_or lists i []
past_end lists x i n h = get_or_append_left lists (x ∷ []) [] i h

new_thread : (names : List (List ℕ)) (lists : List (List Event)) (thread name : List ℕ) (e : Event) → length lists ≡ length names → position (bytes_eq thread) names ≡ None → events_of (lists ++ (e ∷ []) ∷ []) (position (bytes_eq name) (names ++ thread ∷ [])) ≡ events_named names lists name ++ own (bytes_eq name thread) e
new_thread names lists thread name e each none =
    ap (events_of (lists ++ (e ∷ []) ∷ [])) (position-push (bytes_eq name) names thread) ∙ by (position (bytes_eq name) names) refl (bytes_eq name thread) refl
  where
    by : (r : Option ℕ) → position (bytes_eq name) names ≡ r → (b : Bool) → bytes_eq name thread ≡ b → events_of (lists ++ (e ∷ []) ∷ []) (place_after r b (length names)) ≡ events_of lists r ++ own b e
    by (Some i) is true same = absurd (some_none (sym is ∙ ap (λ n. position (bytes_eq n) names) (same_name name thread same) ∙ none))
      where
        some_none : Some i ≡ None → ⊥
        some_none e = cc
    by (Some i) is false same = let at = position-Some (bytes_eq name) names i [] is in past_end lists (e ∷ []) i 0 (omega (arith, at.0, each)) ∙ sym (append_nil (get_or lists i []))
    by None is true same = get_or_push lists (e ∷ []) [] (length names) each
    by None is false same = refl

known_thread : (names : List (List ℕ)) (lists : List (List Event)) (thread name : List ℕ) (e : Event) (i : ℕ) → length lists ≡ length names → position (bytes_eq thread) names ≡ Some i → events_named names (slice_set lists i (get_or lists i [] ++ e ∷ [])) name ≡ events_named names lists name ++ own (bytes_eq name thread) e
known_thread names lists thread name e i each found = by (position (bytes_eq name) names) refl (bytes_eq name thread) refl
  where
    at : (i < length names) × (bytes_eq thread (get_or names i []) ≡ true) × ((k : ℕ) → k < i → bytes_eq thread (get_or names k []) ≡ false)
    at = position-Some (bytes_eq thread) names i [] found

    by : (r : Option ℕ) → position (bytes_eq name) names ≡ r → (b : Bool) → bytes_eq name thread ≡ b → events_of (slice_set lists i (get_or lists i [] ++ e ∷ [])) r ≡ events_of lists r ++ own b e
    by r is true same =
        let here : Some i ≡ r = sym found ∙ ap (λ n. position (bytes_eq n) names) (sym (same_name name thread same)) ∙ is in
        subst (λ q. events_of (slice_set lists i (get_or lists i [] ++ e ∷ [])) q ≡ events_of lists q ++ e ∷ []) here (get_or-set_same lists i (get_or lists i [] ++ e ∷ []) [] (omega (arith, at.0, each)))
    by None is false same = refl
    by (Some j) is false same =
        let there = position-Some (bytes_eq name) names j [] is in
        get_or-set_other lists i j (get_or lists i [] ++ e ∷ []) [] (λ eq. false≢true (sym same ∙ ap (bytes_eq name) (same_name thread (get_or names i []) at.1 ∙ ap (λ n. get_or names n []) (sym eq)) ∙ there.1)) ∙ sym (append_nil (get_or lists j []))

-- an event goes to the end of its own thread's events, and to no other's
pub events_named-after : (names : List (List ℕ)) (lists : List (List Event)) (thread name : List ℕ) (e : Event) → length lists ≡ length names → events_named (with_name names (position (bytes_eq thread) names) thread) (with_event lists (position (bytes_eq thread) names) e) name ≡ events_named names lists name ++ own (bytes_eq name thread) e
events_named-after names lists thread name e each = by (position (bytes_eq thread) names) refl
  where
    by : (r : Option ℕ) → position (bytes_eq thread) names ≡ r → events_named (with_name names r thread) (with_event lists r e) name ≡ events_named names lists name ++ own (bytes_eq name thread) e
    by None is = new_thread names lists thread name e each is
    by (Some i) is = known_thread names lists thread name e i each is

-- a thread that joins the list changes the events of none
pub events_named-listed : (names : List (List ℕ)) (lists : List (List Event)) (thread name : List ℕ) → length lists ≡ length names → events_named (with_name names (position (bytes_eq thread) names) thread) (with_list lists (position (bytes_eq thread) names)) name ≡ events_named names lists name
events_named-listed names lists thread name each = by (position (bytes_eq thread) names) refl
  where
    new : (r : Option ℕ) → position (bytes_eq name) names ≡ r → (b : Bool) → events_of (lists ++ [] ∷ []) (place_after r b (length names)) ≡ events_of lists r
    new (Some i) is b = let at = position-Some (bytes_eq name) names i [] is in past_end lists [] i 0 (omega (arith, at.0, each))
    new None is true = get_or_push lists [] [] (length names) each
    new None is false = refl

    by : (r : Option ℕ) → position (bytes_eq thread) names ≡ r → events_named (with_name names r thread) (with_list lists r) name ≡ events_named names lists name
    by None is = ap (events_of (lists ++ [] ∷ [])) (position-push (bytes_eq name) names thread) ∙ new (position (bytes_eq name) names) refl (bytes_eq name thread)
    by (Some i) is = refl

-- another name has its place where the acting thread's joins the list, too
pub place_apart : (names : List (List ℕ)) (thread operand : List ℕ) → bytes_eq operand thread ≡ false → position (bytes_eq operand) (with_name names (position (bytes_eq thread) names) thread) ≡ position (bytes_eq operand) names
place_apart names thread operand apart = by (position (bytes_eq thread) names)
  where
    same : (r : Option ℕ) → place_after r false (length names) ≡ r
    same (Some i) = refl
    same None = refl

    by : (r : Option ℕ) → position (bytes_eq operand) (with_name names r thread) ≡ position (bytes_eq operand) names
    by (Some i) = refl
    by None = position-push (bytes_eq operand) names thread ∙ ap (λ b. place_after (position (bytes_eq operand) names) b (length names)) apart ∙ same (position (bytes_eq operand) names)

-- the operand of a line has its place where the acting thread's name joins the list, too
pub operand_place : (operation : Operation) (names : List (List ℕ)) (thread operand : List ℕ) → is_on_itself operation thread operand ≡ false → is_on_thread operation ≡ true → position (bytes_eq operand) names ≡ position (bytes_eq operand) (with_name names (position (bytes_eq thread) names) thread)
operand_place operation names thread operand apart on = sym (place_apart names thread operand (sym (ap (λ a. a && bytes_eq operand thread) on) ∙ apart))
