-- Spans in order of their classes.
use Rattle.std.proofs.Common.{◌≡◌, ℕ, ◌+◌, ◌-◌, ◌<◌, ◌≤◌, true, false, nat_le, nat_lt, List, length, get_or, ap, ◌∙◌, arith, inl, inr}
use Rattle.std.specs.Prelude.{Contains}
use Rattle.std.specs.List.{between}
use Rattle.std.specs.List.Sorted.{IsNonDecreasingBy, IsPartitionPoint}
use Rattle.std.proofs.lemmas.Bool.{cases_lt}
use Rattle.std.proofs.lemmas.Bool.Decides.{nat_tests}
use Rattle.std.proofs.lemmas.List.{get_or_default}
use Rattle.std.proofs.lemmas.List.Edits.{length-between, get_or-between}
use Rattle.gl_index.proofs.Lists.{element_at}
use Rattle.gl_grounds.specs.declared.spans.Span.{Span}

-- so many spans are of a class before this one
abbrev pub AreBelow : List Span → ℕ → ℕ → Type 0
AreBelow list class place = IsPartitionPoint (λ (span : Span). nat_lt span.class class ≡ true) (λ span. nat_lt span.class class ≡ false) list place

-- and so many of one before it, or of it
abbrev pub AreThrough : List Span → ℕ → ℕ → Type 0
AreThrough list class place = IsPartitionPoint (λ (span : Span). nat_le span.class class ≡ true) (λ span. nat_le span.class class ≡ false) list place

-- a span that stands before those of the class from this one on, is of a lesser one
is_lesser : (a b class : ℕ) → nat_lt a class ≡ true → a ≡ b → b < class
is_lesser a b class test same = grind (arith, nat_tests, test, same)

is_greater : (a b class : ℕ) → nat_le a class ≡ false → a ≡ b → class < b
is_greater a b class test same = grind (arith, nat_tests, test, same)

-- those of a class come one behind the other
pub in_turn : (list : List Span) (class begin end : ℕ) → AreBelow list class begin → AreThrough list class end → begin ≤ length list → begin ≤ end
in_turn list class begin end low high bound =
    elim (cases_lt end begin) [
      | inr not ↦ not
      | inl wrong ↦
          let d = (element_at list end (omega (arith, wrong, bound))).0 in
          let class_there = (get_or list end d).class in
          absurd (omega (arith, is_lesser class_there class_there class (low.0 end d (omega arith) wrong) (λ i. class_there), is_greater class_there class_there class (high.1 end d (omega arith) (omega (arith, wrong, bound))) (λ i. class_there)))
    ]

-- each of them stands there
pub in_part : (list : List Span) (class begin end : ℕ) → AreBelow list class begin → AreThrough list class end → end ≤ length list → (span : Span) → Contains list span → span.class ≡ class → Contains (between begin end list) span
in_part list class begin end low high bound span (k, within, is) of_class =
    let same : (get_or list k span).class ≡ class = ap (λ (s : Span). s.class) is ∙ of_class in
    let behind : begin ≤ k =
    elim (cases_lt k begin) [
      | inl before ↦ absurd (omega (arith, is_lesser (get_or list k span).class class class (low.0 k span (omega arith) before) same))
      | inr not ↦ not
    ] in
    let before : k < end =
    elim (cases_lt k end) [
      | inl is_before ↦ is_before
      | inr not ↦ absurd (omega (arith, is_greater (get_or list k span).class class class (high.1 k span not within) same))
    ] in
    let at : begin + (k - begin) ≡ k = omega (arith, behind) in
    (k - begin, omega (arith, length-between list begin end bound, behind, before), get_or-between list begin end (k - begin) span (omega (arith, behind, before)) ∙ ap (λ m. get_or list m span) at ∙ is)

-- none of a class from this one on stands before their place
pub at_or_behind : (list : List Span) (from place : ℕ) → IsNonDecreasingBy (λ (span : Span). span.class) list → AreBelow list from place → (span : Span) → Contains list span → from ≤ span.class
    → (place < length list) × ((d : Span) → (get_or list place d).class ≤ span.class)
at_or_behind list from place ordered low span (k, within, is) reached =
    let same : (get_or list k span).class ≡ span.class = ap (λ (s : Span). s.class) is in
    elim (cases_lt k place) [
      | inl before ↦ absurd (omega (arith, reached, is_lesser (get_or list k span).class span.class from (low.0 k span (omega arith) before) same))
      | inr behind ↦
          let there : place < length list = omega (arith, within, behind) in (
            there,
            λ d. omega (arith, ordered place k d behind within, of_any list k within span d same),
          )
    ]
  where
    of_any : (list : List Span) (k : ℕ) → k < length list → (span d : Span) → (get_or list k span).class ≡ span.class → (get_or list k d).class ≡ span.class
    of_any list k within span d same = ap (λ (s : Span). s.class) (get_or_default list k d span within) ∙ same
