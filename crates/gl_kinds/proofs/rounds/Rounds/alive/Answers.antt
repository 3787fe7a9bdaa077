use Rattle.std.proofs.Common.{◌≡◌, ℕ, ◌+◌, ◌<◌, Bool, true, List, Some, inl, inr, length, get_or, sym, subst, arith}
use Rattle.std.specs.Prelude.{slice_get, All, Contains}
use Rattle.std.proofs.lemmas.Bool.{cases_eq}
use Rattle.std.proofs.lemmas.List.Elements.{All-nil}
use Rattle.std.proofs.lemmas.Option.{get_or_from_slice_get}
use Rattle.gl_kinds.proofs.Closing.{stands_there}
use Rattle.gl_kinds.proofs.rounds.Rounds.alive.Goals as goal

-- one place more
alive_next : (models : List ℕ) (dead : List Bool) (old new : List ℕ) (n v : ℕ) → ((j : ℕ) → Contains old j → Contains new j) → (¬ (slice_get dead v ≡ Some true) → Contains new v)
    → ((i : ℕ) → slice_get models n ≡ Some i → v ≡ i) → ((p i : ℕ) → p < n → slice_get models p ≡ Some i → ¬ (slice_get dead i ≡ Some true) → Contains old i)
    → (p i : ℕ) → p < n + 1 → slice_get models p ≡ Some i → ¬ (slice_get dead i ≡ Some true) → Contains new i
alive_next models dead old new n v stay added is had p i below at alive =
    elim (cases_eq p n) [
      | inl same ↦
          let here : v ≡ i = is i (subst (λ q. slice_get models q ≡ Some i) same at) in
          subst (Contains new) here (added (subst (λ j. ¬ (slice_get dead j ≡ Some true)) (sym here) alive))
      | inr other ↦ stay i (had p i (omega arith) at alive)
    ]

pub loop-place-init : goal.loop-place-init
loop-place-init c = (subst (All (λ j. j < length c.args.self.now.sought.table.now)) (sym c.new-alive.ensures.items) (All-nil (λ j. j < length c.args.self.now.sought.table.now)), λ p i below. absurd (omega arith))

pub loop-place-preserved : goal.loop-place-preserved
loop-place-preserved c =
    let models = c.args.models.now in
    let n = c.loop-place.place in
    let grown = c.in_ok-add_alive.ensures in (
      grown.within (length c.args.self.now.sought.table.now) (c.requires n 0 c.loop-place-test.true) c.loop-place.invariant.0,
      alive_next models c.args.dead.now c.loop-place.alive.items c.add_alive.new.alive.items n (get_or models n 0) grown.stay grown.added (λ i at. get_or_from_slice_get models n i 0 at) c.loop-place.invariant.1,
    )

pub returns-clause-within : goal.returns-clause-within
returns-clause-within c = c.loop-place.invariant.0

pub returns-clause-all : goal.returns-clause-all
returns-clause-all c = λ i there alive.
    let below = there.1 in
    let whole = c.loop-place-test.false in
    c.loop-place.invariant.1 there.0 i (omega arith) (stands_there c.args.models.now i there) alive
