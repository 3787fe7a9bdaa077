-- Places of tables and of cycles.
use Rattle.std.proofs.Common.{◌≡◌, ◌≢◌, ℕ, ◌+◌, ◌-◌, ◌<◌, ◌≤◌, ◌⊎◌, Bool, true, false, not, cond, ltb, List, length, get_or, Some, refl, sym, ap, ◌∙◌, arith, inl, inr}
use Rattle.std.specs.Prelude.{slice_get}
use Rattle.std.proofs.lemmas.Bool.{cases_Bool, cases_eq, ne_eqb, eq-eqb, lt-ltb, le-ltb, ltb-true, ltb-false}
use Rattle.std.proofs.lemmas.Option.{same_Some}
use Rattle.gl_edges.specs.declared.edge.Edge.{Edge}
use Rattle.gl_edges.specs.declared.edge.Sample.{Sample}
use Rattle.gl_filters.specs.Picked.{edges_of_table}
use Rattle.gl_filters.specs.Verdicts.{following}
use Rattle.gl_index.proofs.Tables.{edge_at}
use Rattle.gl_sought.specs.Places.{place_after}

-- the edge at a position
pub edge_is : (table : List (Edge × Sample)) (d : Edge × Sample) (i : ℕ) (f : Edge) → i < length table → slice_get (edges_of_table table) i ≡ Some f → f ≡ (get_or table i d).0
edge_is table d i f within at = same_Some f (get_or table i d).0 (sym at ∙ edge_at table i d within)

-- what no flag tells
pub from_not : (b : Bool) → not b ≡ false → b ≡ true
from_not true e = refl
from_not false e = absurd (cc)

pub from_not_true : (b : Bool) → not b ≡ true → b ≡ false
from_not_true true e = absurd (cc)
from_not_true false e = refl

-- ---- places of a cycle, round

place_low : (n k m : ℕ) → k + m < n → place_after n k m ≡ k + m
place_low n k m low = ap (λ b. cond b (k + m) (k + m - n)) (lt-ltb (k + m) n low)

place_high : (n k m : ℕ) → n ≤ k + m → place_after n k m ≡ k + m - n
place_high n k m high = ap (λ b. cond b (k + m) (k + m - n)) (le-ltb (k + m) n high)

-- a place that is known is in one of two halves
cases_place : (n k m : ℕ) → ((k + m < n) × (place_after n k m ≡ k + m)) ⊎ ((n ≤ k + m) × (place_after n k m ≡ k + m - n))
cases_place n k m = elim (cases_Bool (ltb (k + m) n)) [
  | inl low ↦ let lt = ltb-true (k + m) n low in inl (lt, place_low n k m lt)
  | inr high ↦ let ge = ltb-false (k + m) n high in inr (ge, place_high n k m ge)
]

pub place_within : (n k m : ℕ) → k < n → m ≤ n → place_after n k m < n
place_within n k m k_in m_in = elim (cases_place n k m) [
  | inl (low, is) ↦ omega (arith, is)
  | inr (high, is) ↦ omega (arith, is)
]

pub place_first : (n k : ℕ) → k < n → place_after n k 0 ≡ k
place_first n k k_in = elim (cases_place n k 0) [
  | inl (low, is) ↦ omega (arith, is)
  | inr (high, is) ↦ absurd (omega arith)
]

pub place_round : (n k : ℕ) → k < n → place_after n k n ≡ k
place_round n k k_in = elim (cases_place n k n) [
  | inl (low, is) ↦ absurd (omega arith)
  | inr (high, is) ↦ omega (arith, is)
]

pub places_differ : (n k m o : ℕ) → k < n → m < o → o < n → place_after n k m ≢ place_after n k o
places_differ n k m o k_in lower o_in same = elim (cases_place n k m) [
  | inl (m_low, m_is) ↦ elim (cases_place n k o) [
    | inl (o_low, o_is) ↦ absurd (omega (arith, m_is, o_is, same))
    | inr (o_high, o_is) ↦ absurd (omega (arith, m_is, o_is, same))
  ]
  | inr (m_high, m_is) ↦ elim (cases_place n k o) [
    | inl (o_low, o_is) ↦ absurd (omega (arith, m_is, o_is, same))
    | inr (o_high, o_is) ↦ absurd (omega (arith, m_is, o_is, same))
  ]
]

follow_last : (n i : ℕ) → i + 1 ≡ n → following n i ≡ 0
follow_last n i last = ap (λ b. cond b 0 (i + 1)) (eq-eqb (i + 1) n last)

follow_more : (n i : ℕ) → i + 1 ≢ n → following n i ≡ i + 1
follow_more n i more = ap (λ b. cond b 0 (i + 1)) (ne_eqb (i + 1) n more)

pub place_follows : (n k m : ℕ) → k < n → m < n → following n (place_after n k m) ≡ place_after n k (m + 1)
place_follows n k m k_in m_in = elim (cases_place n k m) [
  | inl (low, is) ↦ elim (cases_eq (k + m + 1) n) [
    | inl last ↦
        let whole : place_after n k m + 1 ≡ n = omega (arith, is) in
        let end : 0 ≡ k + (m + 1) - n = omega arith in
        follow_last n (place_after n k m) whole ∙ end ∙ sym (place_high n k (m + 1) (omega arith))
    | inr more ↦
        let next : place_after n k m + 1 ≡ k + (m + 1) = omega (arith, is) in
        follow_more n (place_after n k m) (λ same. more (let e : k + m + 1 ≡ n = omega (arith, same, is) in e)) ∙ next ∙ sym (place_low n k (m + 1) (omega arith))
  ]
  | inr (high, is) ↦
      let next : place_after n k m + 1 ≡ k + (m + 1) - n = omega (arith, is) in
      follow_more n (place_after n k m) (λ same. absurd (omega (arith, same, is))) ∙ next ∙ sym (place_high n k (m + 1) (omega arith))
]
