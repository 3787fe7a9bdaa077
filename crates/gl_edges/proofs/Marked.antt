-- Marks, and the guards that they tell of.
use Rattle.std.proofs.Common.{◌≡◌, ◌≢◌, ℕ, ◌^◌, ◌%◌, ◌<◌, inl, inr, min, true, false, eqb, List, refl, sym, ap, ◌∙◌, arith, w64}
use Rattle.std.specs.Prelude.{bit_and}
use Rattle.std.specs.Int.{bit_at, trailing_zeros}
use Rattle.std.specs.List.{list_any}
use Rattle.std.proofs.lemmas.Bool.{cases_Bool, and_parts, and_from, eqb-true, eq-eqb}
use Rattle.std.proofs.lemmas.List.Folds.{Any-from_list_any, list_any_at}
use Rattle.std.proofs.lemmas.Nat.Bits.{bit_at_and, bit_at-zero, bit_at-lt, bit_at-trailing_zeros}
use Rattle.gl_event.specs.Modes.{conflict}
use Rattle.gl_event.specs.declared.events.LockMode.TheVariants.{Exclusive}
use Rattle.gl_edges.specs.Clashes.{clash_on, guards_clash}
use Rattle.gl_edges.specs.bodies.Marking.{AreMarksOf}
use Rattle.gl_edges.specs.declared.guards.Guard.{Guard}
use Rattle.gl_edges.specs.declared.marks.Marks.{Marks}

-- the guard of a lock that is held exclusively
abbrev owned_lock : ℕ → Guard
owned_lock k = record { lock = k; mode = Exclusive }

-- sets without a place in common don't clash
pub apart_by_marks : (a b : Marks) → bit_and a.places b.places ≡ 0 → (gs hs : List Guard) → AreMarksOf a gs → AreMarksOf b hs → guards_clash gs hs ≡ false
apart_by_marks a b none gs hs of_gs of_hs =
    elim (cases_Bool (guards_clash gs hs)) [
      | inl clash ↦
          let (i, g, i_in, i_is, any) = Any-from_list_any (λ g. list_any (clash_on g) hs) gs clash in
          let (j, h, j_in, j_is, on) = Any-from_list_any (clash_on g) hs any in
          let same = eqb-true g.lock h.lock (and_parts (eqb g.lock h.lock) (conflict g.mode h.mode) on).0 in
          let in_a : bit_at a.places (g.lock % 64) ≡ 1 = ap (λ x. bit_at a.places (x.lock % 64)) (sym i_is) ∙ of_gs.places i g i_in in
          let in_b : bit_at b.places (g.lock % 64) ≡ 1 = ap (λ n. bit_at b.places (n % 64)) same ∙ ap (λ x. bit_at b.places (x.lock % 64)) (sym j_is) ∙ of_hs.places j h j_in in
          let both : min (bit_at a.places (g.lock % 64)) (bit_at b.places (g.lock % 64)) ≡ 1 = ap (λ n. min n (bit_at b.places (g.lock % 64))) in_a ∙ ap (min 1) in_b in
          absurd (omega (arith, bit_at_and a.places b.places (g.lock % 64), both, ap (λ n. bit_at n (g.lock % 64)) none, bit_at-zero (g.lock % 64)))
      | inr not ↦ not
    ]

-- of two bits of which the lesser is set both are
both_set : (x y : ℕ) → x < 2 → y < 2 → min x y ≡ 1 → (x ≡ 1) × (y ≡ 1)
both_set x y x_lt y_lt is = (omega (arith, is), omega (arith, is))

-- sets that both own a lock clash
pub clash_by_marks : (a b : Marks) → bit_and a.owned b.owned ≢ 0 → bit_and a.owned b.owned < 2 ^ 64 → (gs hs : List Guard) → AreMarksOf a gs → AreMarksOf b hs → guards_clash gs hs ≡ true
clash_by_marks a b some fits gs hs of_gs of_hs =
    let k = trailing_zeros w64 (bit_and a.owned b.owned) in
    let (place, set, lower) = bit_at-trailing_zeros w64 (bit_and a.owned b.owned) (omega (arith, some)) fits in
    let (in_a, in_b) = both_set (bit_at a.owned k) (bit_at b.owned k) (bit_at-lt a.owned k) (bit_at-lt b.owned k) (sym (bit_at_and a.owned b.owned k) ∙ set) in
    let (i, i_in, i_is) = of_gs.owned k in_a in
    let (j, j_in, j_is) = of_hs.owned k in_b in
    let on : clash_on (owned_lock k) (owned_lock k) ≡ true = and_from (eqb k k) (conflict Exclusive Exclusive) (eq-eqb k k refl) refl in
    list_any_at (λ g. list_any (clash_on g) hs) gs i (owned_lock k) i_in
    (ap (λ g. list_any (clash_on g) hs) i_is ∙ list_any_at (clash_on (owned_lock k)) hs j (owned_lock k) j_in (ap (clash_on (owned_lock k)) j_is ∙ on))
