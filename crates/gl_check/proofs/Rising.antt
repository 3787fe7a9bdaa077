-- Lists that ascend and get one element more.
use Rattle.std.proofs.Common.{◌≡◌, ℕ, ◌+◌, ◌-◌, ◌<◌, List, [], ◌∷◌, ◌++◌, length, get_or, Ordering, Less, ap, subst, ◌∙◌, arith, inl, inr}
use Rattle.std.specs.Prelude.{slice_get, IfSome}
use Rattle.std.specs.Cmp.{IsTotalOrder}
use Rattle.std.specs.List.Sorted.{IsStrictlySortedBy}
use Rattle.std.proofs.lemmas.Bool.{cases_lt}
use Rattle.std.proofs.lemmas.List.{get_or_append_left, get_or_push, length_push}
use Rattle.std.proofs.lemmas.Map.Keys.{Less-from_sorted, sorted_from_all_adjacent}
use Rattle.std.proofs.lemmas.Option.{slice_get-get_or}

module _ {K : Type 0} {R : K → K → Ordering} (total : IsTotalOrder R) (ks : List K) (x : K) (up : IsStrictlySortedBy R ks) (above : IfSome (slice_get ks (length ks - 1)) (λ last. R last x ≡ Less)) where
  below_new : (k : ℕ) → length ks ≡ k + 1 → R (get_or ks k x) x ≡ Less
  below_new k long =
      let place : length ks - 1 ≡ k = omega arith in
      subst (λ o. IfSome o (λ last. R last x ≡ Less)) (ap (slice_get ks) place ∙ slice_get-get_or ks k x (omega arith)) above

  adjacent : (k : ℕ) → k + 1 < length (ks ++ x ∷ []) → R (get_or (ks ++ x ∷ []) k x) (get_or (ks ++ x ∷ []) (k + 1) x) ≡ Less
  adjacent k within =
      let long = length_push ks x in
      let here : get_or (ks ++ x ∷ []) k x ≡ get_or ks k x = get_or_append_left ks (x ∷ []) x k (omega arith) in
      elim (cases_lt (k + 1) (length ks)) [
        | inl both ↦
            let next = get_or_append_left ks (x ∷ []) x (k + 1) both in
            rw (here, next) (Less-from_sorted R ks k (k + 1) x up (omega arith) both)
        | inr last ↦
            let end : length ks ≡ k + 1 = omega arith in
            let next = get_or_push ks x x (k + 1) end in
            rw (here, next) (below_new k end)
      ]

  -- an element above the last one leaves them ascending
  pub sorted_push : IsStrictlySortedBy R (ks ++ x ∷ [])
  sorted_push = sorted_from_all_adjacent total (ks ++ x ∷ []) x adjacent
