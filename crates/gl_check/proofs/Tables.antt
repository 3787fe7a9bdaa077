-- Two lists, one after the other: where they differ first.
use Rattle.std.proofs.Common.{◌≡◌, ◌≢◌, ℕ, ◌+◌, ◌<◌, ◌≤◌, List, [], ◌∷◌, ◌++◌, length, take, get_or, map, Result, Ok, Err, IfOk, IfErr, sym, ap, subst, ◌∙◌, arith}
use Rattle.std.specs.Prelude.{slice_get}
use Rattle.std.proofs.lemmas.List.{length-map, map_more, take_all, take-map}
use Rattle.std.proofs.lemmas.Option.{slice_get-get_or, slice_get_past, same_Some}
use Rattle.gl_check.specs.Edges.{IsFirstDifference}
use Rattle.gl_check.proofs.Shapes.{mapped_at}

module _ {X Y Z : Type 0} (f : X → Z) (g : Y → Z) (xs : List X) (ys : List Y) (k : ℕ) (same : map f (take k xs) ≡ map g (take k ys)) where
  first_difference : slice_get (map f xs) k ≢ slice_get (map g ys) k → IsFirstDifference (map f xs) (map g ys) k
  first_difference differs = record { same_before = take-map f k xs ∙ same ∙ sym (take-map g k ys); differs = differs }

  -- the first list ends
  pub ends_early : Z → length xs ≤ k → k < length ys → IsFirstDifference (map f xs) (map g ys) k
  ends_early z short within =
      let past = slice_get_past (map f xs) k (omega (arith, short, length-map xs f)) in
      let there = slice_get-get_or (map g ys) k z (omega (arith, within, length-map ys g)) in
      first_difference (λ alike. let clash = sym past ∙ alike ∙ there in cc)

  -- the second one ends
  pub ends_late : Z → length ys ≤ k → k < length xs → IsFirstDifference (map f xs) (map g ys) k
  ends_late z short within =
      let past = slice_get_past (map g ys) k (omega (arith, short, length-map ys g)) in
      let there = slice_get-get_or (map f xs) k z (omega (arith, within, length-map xs f)) in
      first_difference (λ alike. let clash = sym past ∙ sym alike ∙ there in cc)

  -- they have other elements there
  pub differ_here : (x : X) (y : Y) → k < length xs → x ≡ get_or xs k x → k < length ys → y ≡ get_or ys k y → ¬ (f x ≡ g y) → IsFirstDifference (map f xs) (map g ys) k
  differ_here x y within is within_too is_too other =
      first_difference (λ alike. other (same_Some (f x) (g y) (sym (mapped_at f xs k x within is) ∙ alike ∙ mapped_at g ys k y within_too is_too)))

  -- they have the same one there
  pub same_here : (x : X) (y : Y) → k < length xs → x ≡ get_or xs k x → k < length ys → y ≡ get_or ys k y → f x ≡ g y → map f (take (k + 1) xs) ≡ map g (take (k + 1) ys)
  same_here x y within is within_too is_too alike =
      map_more f xs k x within ∙ (λ i. same i ++ (ap f (sym is) ∙ alike ∙ ap g is_too) i ∷ []) ∙ sym (map_more g ys k y within_too)

  -- both end
  pub same_at_end : length xs ≤ k → length ys ≤ k → map f xs ≡ map g ys
  same_at_end end end_too = ap (map f) (sym (take_all k xs end)) ∙ same ∙ ap (map g) (take_all k ys end_too)

-- what follows of an answer
pub on_ok : {T E : Type 0} (P Q : T → Type 0) (r : Result T E) → ((v : T) → P v → Q v) → IfOk r P → IfOk r Q
on_ok P Q (Ok v) gives is = gives v is
on_ok P Q (Err e) gives is = tt

pub on_err : {T E : Type 0} (P Q : E → Type 0) (r : Result T E) → ((e : E) → P e → Q e) → IfErr r P → IfErr r Q
on_err P Q (Ok v) gives is = tt
on_err P Q (Err e) gives is = gives e is

-- what is told of other things that are the same
pub retold : {A B C : Type 0} (P : A → B → C → Type 0) (a b : A) (c d : B) (e f : C) → a ≡ b → c ≡ d → e ≡ f → P a c e → P b d f
retold P a b c d e f one two three is = subst (λ x. P x d f) one (subst (λ y. P a y f) two (subst (P a c) three is))
