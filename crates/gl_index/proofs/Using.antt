-- Users of locks, one edge after the other.
use Rattle.std.proofs.Common.{◌≡◌, ◌≢◌, ℕ, ◌+◌, ◌⊎◌, Bool, true, false, eqb, cond, List, Option, Some, None, refl, sym, ap, subst, ◌∙◌, arith, inl, inr}
use Rattle.std.specs.Prelude.{◌↔◌, slice_get, IsTrue}
use Rattle.std.proofs.lemmas.Bool.{eqb-true, cases_Bool, cases_eq, eq-eqb, ne_eqb}
use Rattle.std.proofs.lemmas.Option.{same_Some}
use Rattle.gl_edges.specs.declared.edge.Edge.{Edge}
use Rattle.gl_index.specs.Sides.{lock_towards}
use Rattle.gl_index.specs.Users.{known_of, and_user, AddsUser, MayUse, AreUsers, Uses, UseAsKnown}
use Rattle.gl_index.specs.declared.sides.Side.{Side}
use Rattle.gl_index.specs.declared.users.Users.{Users}

module _ (old : Users) (lock thread : ℕ) where
  -- what is known of the lock was set to what it has to be
  pub adds_set : (new : Users) (known : Option ℕ) → and_user (known_of old lock) thread ≡ Some known → ((l : ℕ) → known_of new l ≡ cond (eqb lock l) (Some known) (known_of old l)) → AddsUser old lock thread new
  adds_set new known is updated l = updated l ∙ ap (λ k. cond (eqb lock l) k (known_of old l)) (sym is)

  -- nothing more is known of the lock
  pub adds_nothing : and_user (known_of old lock) thread ≡ known_of old lock → AddsUser old lock thread old
  adds_nothing is l =
      elim (cases_Bool (eqb lock l)) [
        | inl same ↦ sym (ap (λ b. cond b (and_user (known_of old lock) thread) (known_of old l)) same ∙ is ∙ ap (known_of old) (eqb-true lock l same))
        | inr other ↦ sym (ap (λ b. cond b (and_user (known_of old lock) thread) (known_of old l)) other)
      ]

  module _ (new : Users) (adds : AddsUser old lock thread new) where
    -- what is known of a lock afterwards
    known_after : (l : ℕ) → ((lock ≡ l) × (known_of new l ≡ and_user (known_of old l) thread)) ⊎ (known_of new l ≡ known_of old l)
    known_after l =
        elim (cases_Bool (eqb lock l)) [
          | inl same ↦
              let is = eqb-true lock l same in
              inl (is, adds l ∙ ap (λ b. cond b (and_user (known_of old lock) thread) (known_of old l)) same ∙ ap (λ k. and_user (known_of old k) thread) is)
          | inr other ↦ inr (adds l ∙ ap (λ b. cond b (and_user (known_of old lock) thread) (known_of old l)) other)
        ]

    -- the thread is a user of the lock
    is_user : (known : Option (Option ℕ)) → (known_of new lock ≡ and_user known thread) → MayUse new lock thread
    is_user None is = inr is
    is_user (Some None) is = inl is
    is_user (Some (Some one)) is =
        elim (cases_eq one thread) [
          | inl same ↦ inr (is ∙ ap (λ b. cond b (Some (Some one)) (Some None)) (eq-eqb one thread same) ∙ ap (λ t. Some (Some t)) same)
          | inr other ↦ inl (is ∙ ap (λ b. cond b (Some (Some one)) (Some None)) (ne_eqb one thread other))
        ]

    pub user_added : MayUse new lock thread
    user_added = is_user (known_of old lock) (adds lock ∙ ap (λ b. cond b (and_user (known_of old lock) thread) (known_of old lock)) (eq-eqb lock lock refl))

    -- who was a user still is
    is_still : (l t : ℕ) → known_of new l ≡ cond (eqb t thread) (Some (Some t)) (Some None) → MayUse new l t
    is_still l t is =
        elim (cases_Bool (eqb t thread)) [
          | inl same ↦ inr (is ∙ ap (λ b. cond b (Some (Some t)) (Some None)) same)
          | inr other ↦ inl (is ∙ ap (λ b. cond b (Some (Some t)) (Some None)) other)
        ]

    pub user_stays : (l t : ℕ) → MayUse old l t → MayUse new l t
    user_stays l t may =
        elim (known_after l) [
          | inl here ↦ elim may [
            | inl several ↦ inl (here.1 ∙ ap (λ k. and_user k thread) several)
            | inr one ↦ is_still l t (here.1 ∙ ap (λ k. and_user k thread) one)
          ]
          | inr same ↦ elim may [
            | inl several ↦ inl (same ∙ several)
            | inr one ↦ inr (same ∙ one)
          ]
        ]

module _ (side : Side) (edges : List Edge) (kept : List Bool) (n : ℕ) where
  -- the same, of one edge more
  uses_more : (lock thread : ℕ) → Uses side edges kept n lock thread → Uses side edges kept (n + 1) lock thread
  uses_more lock thread u =
      let below = u.below in
      record { place = u.place; edge = u.edge; below = omega (arith, below); is = u.is; stays = u.stays; has = u.has; of_thread = u.of_thread }

  module _ (old new : Users) (d : Edge) (at : slice_get edges n ≡ Some d) where
    -- an edge that is left out adds no user
    pub users_without : slice_get kept n ≡ Some false → AreUsers side edges kept n old → AreUsers side edges kept (n + 1) old
    users_without out had = λ i e below there keep.
        elim (cases_eq i n) [
          | inl same ↦ absurd (keep (ap (slice_get kept) same ∙ out))
          | inr other ↦ had i e (omega arith) there keep
        ]

    pub known_without : UseAsKnown side edges kept n old → UseAsKnown side edges kept (n + 1) old
    known_without had = record {
      one = λ lock thread is. uses_more lock thread (had.one lock thread is);
      several = λ lock is. let (a, b, first, second, differ) = had.several lock is in (a, b, uses_more lock a first, uses_more lock b second, differ);
    }

    module _ (adds : AddsUser old (lock_towards side d) d.thread new) where
      -- each thread of an edge so far is a user
      pub users_with : AreUsers side edges kept n old → AreUsers side edges kept (n + 1) new
      users_with had = λ i e below there keep.
          elim (cases_eq i n) [
            | inl same ↦
                let is_e : d ≡ e = same_Some d e (sym at ∙ ap (slice_get edges) (sym same) ∙ there) in
                subst (λ x. MayUse new (lock_towards side x) x.thread) is_e (user_added old (lock_towards side d) d.thread new adds)
            | inr other ↦ user_stays old (lock_towards side d) d.thread new adds (lock_towards side e) e.thread (had i e (omega arith) there keep)
          ]

      module _ (keep : ¬ (slice_get kept n ≡ Some false)) (had : UseAsKnown side edges kept n old) where
        -- the last edge uses its lock
        own : (l : ℕ) → lock_towards side d ≡ l → Uses side edges kept (n + 1) l d.thread
        own l is = record { place = n; edge = d; below = omega arith; is = at; stays = keep; has = is; of_thread = refl }

        one_with : (l t : ℕ) → lock_towards side d ≡ l → (known : Option (Option ℕ)) → known_of old l ≡ known → and_user known d.thread ≡ Some (Some t) → Uses side edges kept (n + 1) l t
        one_with l t here None was is = subst (Uses side edges kept (n + 1) l) (same_Some d.thread t (same_Some (Some d.thread) (Some t) is)) (own l here)
        one_with l t here (Some None) was is = absurd (cc)
        one_with l t here (Some (Some one)) was is =
            elim (cases_Bool (eqb one d.thread)) [
              | inl same ↦
                  let known : Some (Some one) ≡ Some (Some t) = sym (ap (λ b. cond b (Some (Some one)) (Some None)) same) ∙ is in
                  uses_more l t (had.one l t (was ∙ known))
              | inr other ↦
                  let none : Some None ≡ Some (Some t) = sym (ap (λ b. cond b (Some (Some one)) (Some None)) other) ∙ is in
                  absurd (cc)
            ]

        several_with : (l : ℕ) → lock_towards side d ≡ l → (known : Option (Option ℕ)) → known_of old l ≡ known → and_user known d.thread ≡ Some None → (a b : ℕ) × Uses side edges kept (n + 1) l a × Uses side edges kept (n + 1) l b × (a ≢ b)
        several_with l here None was is = absurd (cc)
        several_with l here (Some None) was is =
            let (a, b, first, second, differ) = had.several l was in
            (a, b, uses_more l a first, uses_more l b second, differ)
        several_with l here (Some (Some one)) was is =
            elim (cases_Bool (eqb one d.thread)) [
              | inl same ↦
                  let none : Some (Some one) ≡ Some None = sym (ap (λ b. cond b (Some (Some one)) (Some None)) same) ∙ is in
                  absurd (cc)
              | inr other ↦ (one, d.thread, uses_more l one (had.one l one was), own l here, λ same. (let e = sym other ∙ eq-eqb one d.thread same in absurd (cc)))
            ]

        pub known_with : UseAsKnown side edges kept (n + 1) new
        known_with = record {
          one = λ l t is.
              elim (known_after old (lock_towards side d) d.thread new adds l) [
                | inl here ↦ one_with l t here.0 (known_of old l) refl (sym here.1 ∙ is)
                | inr same ↦ uses_more l t (had.one l t (sym same ∙ is))
              ];
          several = λ l is.
              elim (known_after old (lock_towards side d) d.thread new adds l) [
                | inl here ↦ several_with l here.0 (known_of old l) refl (sym here.1 ∙ is)
                | inr same ↦
                    let (a, b, first, second, differ) = had.several l (sym same ∙ is) in
                    (a, b, uses_more l a first, uses_more l b second, differ)
              ];
        }

-- one edge more, which is left out or not
pub users_more : (side : Side) (edges : List Edge) (kept : List Bool) (n : ℕ) (old new : Users) (d : Edge) (flag : Bool) → slice_get edges n ≡ Some d → ((flag ≡ false → slice_get kept n ≡ Some false) × (slice_get kept n ≡ Some false → flag ≡ false))
    → (flag ≡ true → AddsUser old (lock_towards side d) d.thread new) → (flag ≡ false → new ≡ old) → AreUsers side edges kept n old × UseAsKnown side edges kept n old → AreUsers side edges kept (n + 1) new × UseAsKnown side edges kept (n + 1) new
users_more side edges kept n old new d true at tells adds left had =
    let keep : ¬ (slice_get kept n ≡ Some false) = λ out. (let e = tells.1 out in absurd (cc)) in
    (users_with side edges kept n old new d at (adds refl) had.0, known_with side edges kept n old new d at (adds refl) keep had.1)
users_more side edges kept n old new d false at tells adds left had =
    rw (left refl) (users_without side edges kept n old new d at (tells.0 refl) had.0, known_without side edges kept n old new d at had.1)

-- whether a thread alone is known to use a lock, where several are known
pub only_several : (users : Users) (lock thread : ℕ) → known_of users lock ≡ Some None → IsTrue false ↔ ((t : ℕ) → MayUse users lock t → t ≡ thread)
only_several users lock thread several = (λ no. absurd (let e = no in cc), λ only. let e = only (thread + 1) (inl several) in absurd (omega (arith, e)))

-- and where one is
pub only_one : (users : Users) (lock thread one : ℕ) (same : Bool) → known_of users lock ≡ Some (Some one) → same ≡ eqb one thread → IsTrue same ↔ ((t : ℕ) → MayUse users lock t → t ≡ thread)
only_one users lock thread one same known is = (
  λ yes t may. elim may [
    | inl several ↦ absurd (let e = sym known ∙ several in cc)
    | inr other ↦ same_Some t one (same_Some (Some t) (Some one) (sym other ∙ known)) ∙ eqb-true one thread (sym is ∙ yes)
  ],
  λ only. is ∙ eq-eqb one thread (only one (inr known)),
)
