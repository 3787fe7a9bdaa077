-- What a set of names says of the list of their bytes.
use Rattle.std.proofs.Common.{◌≡◌, ◌≢◌, ℕ, suc, ◌+◌, Bool, true, false, not, cond, ◌||◌, nat_lt, List, [], ◌∷◌, ◌++◌, length, Some, None, position, AllPairs, get_or, sym, ap, ◌∙◌, refl, arith}
use Rattle.std.specs.List.{position_or_len, list_any, IsDistinct}
use Rattle.std.specs.Str.{bytes_eq}
use Rattle.indexmap.specs.IndexSet.{insert_key}
use Rattle.std.proofs.lemmas.Map.Keys.{apart_from_distinct}
use Rattle.std.proofs.lemmas.Slice.Eq.{bytes_eq-Decides}
use Rattle.std.proofs.lemmas.Bool.Decides.{nat_tests}
use Rattle.std.proofs.lemmas.Bool.{false≢true}

-- a value is in the list where it has a place
any_where_placed : {X : Type 0} (p : X → Bool) (xs : List X) → list_any p xs ≡ nat_lt (position_or_len p xs) (length xs)
any_where_placed p [] = refl
any_where_placed p (x ∷ xs) =
    let rest = any_where_placed p xs in
    elim (p x) as (λ b. (b || list_any p xs) ≡ nat_lt (cond (not b) (1 + position_or_len p xs) 0) (suc (length xs))) [
      | true ↦ grind (arith, nat_tests)
      | false ↦ grind (arith, nat_tests, rest)
    ]

-- a value that has no place is none of the list's
pub list_any-absent : {X : Type 0} (p : X → Bool) (xs : List X) → position p xs ≡ None → list_any p xs ≡ false
list_any-absent p xs h = any_where_placed p xs ∙ by (nat_lt (position_or_len p xs) (length xs)) h
  where
    by : (b : Bool) → cond b (Some (position_or_len p xs)) None ≡ None → b ≡ false
    by true e = cc
    by false e = refl

-- names that no test finds equal are different
pub AllPairs-from_distinct : (names : List (List ℕ)) → IsDistinct bytes_eq names → AllPairs (λ a b. a ≢ b) names
AllPairs-from_distinct names h = λ i j d low high same.
    let apart = apart_from_distinct bytes_eq names i j d h low high in
    false≢true (sym apart ∙ (bytes_eq-Decides (get_or names i d) (get_or names j d)).1 same)

-- what a new name adds to the list of names
pub names_added : (keys new : List (List ℕ)) (key name : List ℕ) (names : List (List ℕ)) → keys ≡ names → key ≡ name → position (bytes_eq name) names ≡ None → new ≡ insert_key bytes_eq keys key → new ≡ names ++ name ∷ []
names_added keys new key name names view is absent inserted =
    let none : position (bytes_eq key) keys ≡ None = rw (view, is) absent in
    let at_end : new ≡ keys ++ key ∷ [] = inserted ∙ ap (λ b. cond b keys (keys ++ key ∷ [])) (list_any-absent (bytes_eq key) keys none) in
    at_end ∙ ap (λ ns. ns ++ key ∷ []) view ∙ ap (λ n. names ++ n ∷ []) is
