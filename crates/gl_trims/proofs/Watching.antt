-- Who watches which position, and who waits.
use Rattle.std.proofs.Common.{◌≡◌, ◌≢◌, ℕ, ◌<◌, ◌⊎◌, Bool, true, false, ◌||◌, List, [], ◌∷◌, ◌++◌, length, set, get_or, Option, Some, None, refl, sym, ap, subst, ◌∙◌, inl, inr}
use Rattle.std.specs.Prelude.{Contains, IfSome}
use Rattle.std.proofs.lemmas.Bool.{cases_eq}
use Rattle.std.proofs.lemmas.List.{length-set, get_or-set_same, get_or-set_other}
use Rattle.std.proofs.lemmas.List.Elements.{Contains-append_left, Contains-append_right}
use Rattle.gl_edges.proofs.Membership.{contains_here}
use Rattle.gl_trims.specs.bodies.Trimming.{watched_at}

-- those that watch position q, as one list is set
set_cases : (lists : List (List ℕ)) (p q : ℕ) (xs : List ℕ) → p < length lists → ((q ≡ p) × (get_or (set lists p xs) q [] ≡ xs)) ⊎ (get_or (set lists p xs) q [] ≡ get_or lists q [])
set_cases lists p q xs within =
    elim (cases_eq q p) [
      | inl same ↦ inl (same, ap (λ m. get_or (set lists p xs) m []) same ∙ get_or-set_same lists p xs [] within)
      | inr other ↦ inr (get_or-set_other lists p q xs [] other)
    ]

-- one watcher more
pub length_watched : (hint : Option ℕ) (i : ℕ) (lists : List (List ℕ)) → length (watched_at hint i lists) ≡ length lists
length_watched None i lists = refl
length_watched (Some p) i lists = length-set lists p (get_or lists p [] ++ i ∷ [])

pub watched_has : (p i : ℕ) (lists : List (List ℕ)) → p < length lists → Contains (get_or (watched_at (Some p) i lists) p []) i
watched_has p i lists within =
    subst (λ l. Contains l i) (sym (get_or-set_same lists p (get_or lists p [] ++ i ∷ []) [] within)) (Contains-append_right (get_or lists p []) (i ∷ []) i (contains_here i []))

pub watched_keeps : (hint : Option ℕ) (i : ℕ) (lists : List (List ℕ)) (q j : ℕ) → IfSome hint (λ p. p < length lists) → Contains (get_or lists q []) j → Contains (get_or (watched_at hint i lists) q []) j
watched_keeps None i lists q j within at = at
watched_keeps (Some p) i lists q j within at =
    elim (set_cases lists p q (get_or lists p [] ++ i ∷ []) within) [
      | inl here ↦ subst (λ l. Contains l j) (sym here.1) (Contains-append_left (get_or lists p []) (i ∷ []) j (subst (λ m. Contains (get_or lists m []) j) here.0 at))
      | inr same ↦ subst (λ l. Contains l j) (sym same) at
    ]

-- nobody watches a position any more
pub left_other : (lists : List (List ℕ)) (p q j : ℕ) → q ≢ p → Contains (get_or lists q []) j → Contains (get_or (set lists p []) q []) j
left_other lists p q j other at = subst (λ l. Contains l j) (sym (get_or-set_other lists p q [] [] other)) at

-- one more that waits
pub one_more_waits : (old any one : Bool) → ((old || any) || one) ≡ (old || (any || one))
one_more_waits true any one = refl
one_more_waits false any one = refl
