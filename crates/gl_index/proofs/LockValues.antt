-- Values by lock: where a lock's value is found.
use Rattle.std.proofs.Common.{◌≡◌, ℕ, Bool, List, [], ◌∷◌, length, None, refl, sym, ap, ◌∙◌, arith}
use Rattle.std.specs.Map.{lookup}
use Rattle.std.specs.Option.{option_flatten, option_or}
use Rattle.std.specs.Prelude.{slice_get, nat_eq}
use Rattle.gl_index.specs.ByLock.{value_at}
use Rattle.gl_index.specs.declared.by_lock.ByLock.{ByLock}

-- nothing is found among no entries
nothing_in : {K X : Type 0} (test : K → Bool) (entries : List (K × X)) → length entries ≡ 0 → lookup test entries ≡ None
nothing_in test [] none = refl
nothing_in test (e ∷ es) none = absurd (omega (arith, none))

module _ {V : Type 0} (map : ByLock V) (lock : ℕ) where
  -- a lock without a place, or with an empty one, has what it has among the others
  pub is_among_others : option_flatten (slice_get map.near.items lock) ≡ None → lookup (λ k. nat_eq lock k) map.far.entries ≡ value_at map lock
  is_among_others none = sym (ap (λ near. option_or near (lookup (λ k. nat_eq lock k) map.far.entries)) none)

  -- which is nothing where there are none
  pub is_nowhere : option_flatten (slice_get map.near.items lock) ≡ None → length map.far.entries ≡ 0 → None ≡ value_at map lock
  is_nowhere none few = sym (nothing_in (λ k. nat_eq lock k) map.far.entries few) ∙ is_among_others none
