-- The first cycle of each signature, as one cycle more is put to those of its signature.
use Rattle.std.proofs.Common.{◌≡◌, ℕ, ◌+◌, ◌<◌, Bool, true, false, cond, List, [], ◌∷◌, ◌++◌, filter, get_or, length, take, Option, Some, None, refl, sym, ap, ◌∙◌, inl, inr}
use Rattle.std.specs.Prelude.{is_some, slice_get}
use Rattle.std.specs.BTreeMap as tree
use Rattle.std.specs.BTreeMap.{BTreeMap}
use Rattle.std.specs.Cmp.Lexicographic.{nat_list_cmp_total, same_text, slice_cmp, texts_ties}
use Rattle.std.specs.Global.{Vec}
use Rattle.std.specs.List.{cons_option, filter_map}
use Rattle.std.specs.Option.{option_map}
use Rattle.std.specs.Ordering.{is_eq, nat_cmp}
use Rattle.std.specs.declared.cmp.Ordering.{Ordering}
use Rattle.std.proofs.lemmas.Bool.{and_parts, and_from, cases_Bool, false≢true}
use Rattle.std.proofs.lemmas.Cmp.{tied_itself}
use Rattle.std.proofs.lemmas.List.{map-append, take_more, take-map}
use Rattle.std.proofs.lemmas.List.Elements.{filter_map-append}
use Rattle.std.proofs.lemmas.Option.{slice_get-get_or}
use Rattle.gl_cycles.specs.Cycles.{cycles_in}
use Rattle.gl_findings.specs.Findings.{begins_least}
use Rattle.gl_findings.specs.bodies.Grouping.{AreFirsts, is_told}
use Rattle.gl_findings.proofs.LeastTurns.{IsTurnOf, turn_tells, turn_from, turn_and_back, told_once}

abbrev order : List ℕ → List ℕ → Ordering
order = slice_cmp nat_cmp

module _ {X : Type 0} (p : X → Bool) (x : X) where
  -- one that fails changes nothing
  passed_over : (xs : List X) → p x ≡ false → filter p (xs ++ x ∷ []) ≡ filter p xs
  passed_over [] fails = ap (λ b. cond b (x ∷ []) []) fails
  passed_over (y ∷ xs) fails = ap (λ l. cond (p y) (y ∷ l) l) (passed_over xs fails)

  -- where there is one before, it stays the first
  first_stays : (xs : List X) (first : X) → slice_get (filter p xs) 0 ≡ Some first → slice_get (filter p (xs ++ x ∷ [])) 0 ≡ Some first
  first_stays [] first is = absurd (cc)
  first_stays (y ∷ xs) first is = by (p y) is (first_stays xs first)
    where
      by : (b : Bool) → slice_get (cond b (y ∷ filter p xs) (filter p xs)) 0 ≡ Some first → (slice_get (filter p xs) 0 ≡ Some first → slice_get (filter p (xs ++ x ∷ [])) 0 ≡ Some first)
          → slice_get (cond b (y ∷ filter p (xs ++ x ∷ [])) (filter p (xs ++ x ∷ []))) 0 ≡ Some first
      by true is rest = is
      by false is rest = rest is

  -- where there is none before, it is the first
  first_new : (xs : List X) → p x ≡ true → slice_get (filter p xs) 0 ≡ None → slice_get (filter p (xs ++ x ∷ [])) 0 ≡ Some x
  first_new [] passes none = ap (λ b. slice_get (cond b (x ∷ []) []) 0) passes
  first_new (y ∷ xs) passes none = by (p y) none (first_new xs passes)
    where
      by : (b : Bool) → slice_get (cond b (y ∷ filter p xs) (filter p xs)) 0 ≡ None → (slice_get (filter p xs) 0 ≡ None → slice_get (filter p (xs ++ x ∷ [])) 0 ≡ Some x)
          → slice_get (cond b (y ∷ filter p (xs ++ x ∷ [])) (filter p (xs ++ x ∷ []))) 0 ≡ Some x
      by true none rest = absurd (cc)
      by false none rest = rest none

-- the classes of one edge more
pub classes_more : (classes positions : List ℕ) (i d e : ℕ) → i < length positions → get_or positions i d < length classes → filter_map (slice_get classes) (take (i + 1) positions) ≡ filter_map (slice_get classes) (take i positions) ++ get_or classes (get_or positions i d) e ∷ []
classes_more classes positions i d e within there =
    ap (filter_map (slice_get classes)) (take_more positions i d within) ∙ filter_map-append (slice_get classes) (take i positions) (get_or positions i d ∷ [])
    ∙ ap (λ o. filter_map (slice_get classes) (take i positions) ++ cons_option o []) (slice_get-get_or classes (get_or positions i d) e there)

-- one cycle more
pub cycles_more : (cycles : List (Vec ℕ)) (i : ℕ) (d : Vec ℕ) → i < length cycles → take (i + 1) (cycles_in cycles) ≡ take i (cycles_in cycles) ++ (get_or cycles i d).items ∷ []
cycles_more cycles i d within =
    take-map (λ c. c.items) (i + 1) cycles ∙ ap cycles_in (take_more cycles i d within) ∙ map-append (λ c. c.items) (take i cycles) (get_or cycles i d ∷ [])
    ∙ ap (λ l. l ++ (get_or cycles i d).items ∷ []) (sym (take-map (λ c. c.items) i cycles))

-- a turn of a signature that begins least tells what the signature is told by
pub told_from : (classes positions signature turn : List ℕ) → signature ≡ filter_map (slice_get classes) positions → begins_least turn ≡ true → IsTurnOf signature turn → is_told classes turn positions ≡ true
told_from classes positions signature turn is begins of =
    let (k, below, back) = turn_and_back signature turn of in
    and_from (begins_least turn) _ begins (turn_from turn (filter_map (slice_get classes) positions) k below (back ∙ is))

-- no two signatures tell a cycle
told_by_one : (classes positions one other : List ℕ) → is_told classes one positions ≡ true → is_told classes other positions ≡ true → one ≡ other
told_by_one classes positions one other by_one by_other =
    let signature = filter_map (slice_get classes) positions in
    let first = and_parts (begins_least one) _ by_one in
    let second = and_parts (begins_least other) _ by_other in
    told_once signature one other first.0 second.0 (turn_tells one signature first.1) (turn_tells other signature second.1)

module _ (classes : List ℕ) (cycles : List (List ℕ)) (firsts : BTreeMap (List ℕ) (Vec ℕ)) (had : AreFirsts classes cycles firsts) (key cycle : List ℕ) (told : is_told classes key cycle ≡ true) where
  abbrev known : List ℕ → Option (List ℕ)
  known signature = option_map (λ c. c.items) (tree.get order firsts signature)

  has_one : (o : Option (Vec ℕ)) → is_some o ≡ true → (c : List ℕ) × (option_map (λ c. c.items) o ≡ Some c)
  has_one (Some v) some = (v.items, refl)
  has_one None some = absurd (false≢true some)

  has_none : (o : Option (Vec ℕ)) → is_some o ≡ false → option_map (λ c. c.items) o ≡ None
  has_none (Some v) none = absurd (false≢true (sym none))
  has_none None none = refl

  -- a signature that is known keeps its cycle
  pub add_known : is_some (tree.get order firsts key) ≡ true → AreFirsts classes (cycles ++ cycle ∷ []) firsts
  add_known there = record {
    ordered = had.ordered;
    first = λ signature. elim (cases_Bool (is_told classes signature cycle)) [
      | inl tells ↦
          let same = told_by_one classes cycle key signature told tells in
          let (c, is) = has_one (tree.get order firsts key) there in
          let here : known signature ≡ Some c = ap known (sym same) ∙ is in
          here ∙ sym (first_stays (is_told classes signature) cycle cycles c (sym (had.first signature) ∙ here))
      | inr fails ↦ had.first signature ∙ ap (λ l. slice_get l 0) (sym (passed_over (is_told classes signature) cycle cycles fails))
    ];
  }

  -- a new one has this cycle
  pub add_new : (then : BTreeMap (List ℕ) (Vec ℕ)) (v : Vec ℕ) → is_some (tree.get order firsts key) ≡ false → v.items ≡ cycle → tree.IsOrdered order then
      → ((q : List ℕ) → tree.get order then q ≡ cond (is_eq (order key q)) (Some v) (tree.get order firsts q)) → AreFirsts classes (cycles ++ cycle ∷ []) then
  add_new then v absent copy ordered updates = record {
    ordered = ordered;
    first = λ signature. elim (cases_Bool (is_told classes signature cycle)) [
      | inl tells ↦
          let same = told_by_one classes cycle key signature told tells in
          let none : known signature ≡ None = ap known (sym same) ∙ has_none (tree.get order firsts key) absent in
          let equal : is_eq (order key signature) ≡ true = ap (λ q. is_eq (order key q)) (sym same) ∙ ap is_eq (tied_itself nat_list_cmp_total key) in
          ap (option_map (λ c. c.items)) (updates signature ∙ ap (λ b. cond b (Some v) (tree.get order firsts signature)) equal) ∙ ap Some copy
          ∙ sym (first_new (is_told classes signature) cycle cycles tells (sym (had.first signature) ∙ none))
      | inr fails ↦
          let apart : is_eq (order key signature) ≡ false = elim (cases_Bool (is_eq (order key signature))) [
            | inl equal ↦ absurd (false≢true (sym fails ∙ ap (λ q. is_told classes q cycle) (sym (same_text key signature (sym (texts_ties key signature ∙ equal)))) ∙ told))
            | inr differ ↦ differ
          ] in
          ap (option_map (λ c. c.items)) (updates signature ∙ ap (λ b. cond b (Some v) (tree.get order firsts signature)) apart) ∙ had.first signature
          ∙ ap (λ l. slice_get l 0) (sym (passed_over (is_told classes signature) cycle cycles fails))
    ];
  }
