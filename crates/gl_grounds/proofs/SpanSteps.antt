-- Spans that are reached, one edge after the other.
use Rattle.std.proofs.Common.{◌≡◌, ℕ, ◌+◌, ◌<◌, Bool, true, false, List, length, get_or, Option, Some, None, sym, ap, ◌∙◌, subst, arith, inl, inr}
use Rattle.std.specs.Prelude.{slice_get, unwrap_or, IfSome, Contains}
use Rattle.std.proofs.lemmas.Bool.{and_parts, cases_eq, cases_lt, eqb-true, false≢true}
use Rattle.std.proofs.lemmas.Option.{same_Some, slice_get_within}
use Rattle.gl_edges.specs.declared.edge.Edge.{Edge}
use Rattle.gl_filters.specs.declared.query.Mode.{Mode}
use Rattle.gl_index.specs.Indexes.{both_locks}
use Rattle.gl_index.specs.Listed.{IsNextWith}
use Rattle.gl_index.specs.Sides.{lock_towards}
use Rattle.gl_index.specs.declared.sides.Side.TheVariants.{Leader}
use Rattle.gl_grounds.specs.Spanning.{GoesOn, GoesOnAt, HasModelsBefore, KeepSpans, StayIn, goes_on, is_round, longer_span, span_of}
use Rattle.gl_grounds.specs.declared.spans.Span.{Span}
use Rattle.gl_grounds.specs.declared.spans.Spans.{Spans}

module _ {K : Type 0} (key : Edge → K) (edges : List Edge) (flags : List Bool) (k : K) where
  -- what is to hold of the edges with a key holds of those before the next one
  pub record ArePassed (P : ℕ → Edge → Type 0) (next : Option ℕ) : Type 0 where
    pub passed : (place : ℕ) (f : Edge) → place < unwrap_or next (length edges) → slice_get flags place ≡ Some true → slice_get edges place ≡ Some f → key f ≡ k → P place f
    pub shares : IfSome next (λ i. (i < length edges) × ((f : Edge) → slice_get edges i ≡ Some f → key f ≡ k))

  -- before the first one there is none
  pub passed_none : (P : ℕ → Edge → Type 0) (next : Option ℕ) → IsNextWith key edges flags k 0 next → ArePassed P next
  passed_none P next is = record {
    passed = λ place f below flag at has.
        elim (is.skipped place f (omega arith) below at) [
          | inl differs ↦ absurd (differs has)
          | inr off ↦ absurd (false≢true (same_Some false true (sym off ∙ flag)))
        ];
    shares = is.holds;
  }

  -- past one of which it holds
  pub passed_more : (P Q : ℕ → Edge → Type 0) (j : ℕ) (g : Edge) (next : Option ℕ) → ((place : ℕ) (f : Edge) → P place f → Q place f) → slice_get edges j ≡ Some g → ArePassed P (Some j) → Q j g → IsNextWith key edges flags (key g) (j + 1) next → ArePassed Q next
  passed_more P Q j g next still there was here is = record {
    passed = λ place f below flag at has.
        elim (cases_lt place j) [
          | inl before ↦ still place f (was.passed place f before flag at has)
          | inr not_before ↦
              elim (cases_eq place j) [
                | inl same ↦
                    let is_g : g ≡ f = same_Some g f (sym there ∙ ap (slice_get edges) (sym same) ∙ at) in
                    subst (λ (n : ℕ). Q n f) (sym same) (subst (λ (f : Edge). Q j f) is_g here)
                | inr differ ↦
                    elim (is.skipped place f (omega (arith, not_before, differ)) below at) [
                      | inl other ↦ absurd (other (has ∙ sym (was.shares.1 g there)))
                      | inr off ↦ absurd (false≢true (same_Some false true (sym off ∙ flag)))
                    ]
              ]
        ];
    shares = subst (λ key_there. IfSome next (λ i. (i < length edges) × ((f : Edge) → slice_get edges i ≡ Some f → key f ≡ key_there))) (was.shares.1 g there) is.holds;
  }

-- none is lost where nothing is done
pub keep_same : (spans : Spans) → KeepSpans spans spans
keep_same spans = record { all = λ all. all; stay = λ span is. is }

-- nor in two steps
pub keep_on : (a b c : Spans) → KeepSpans a b → KeepSpans b c → KeepSpans a c
keep_on a b c one more = record {
  all = λ all. one.all (more.all all);
  stay = λ span is. more.stay span (one.stay span is);
}

module _ (mode : Mode) (edges : List Edge) (classes : List ℕ) (flags : List Bool) (is_last : Bool) (span : Span) where
  -- what has its span keeps it
  pub goes_on_still : (old new : Spans) → StayIn old.list.items new.list.items → (place : ℕ) (f : Edge) → GoesOnAt mode edges classes flags is_last span old place f → GoesOnAt mode edges classes flags is_last span new place f
  goes_on_still old new stay place f was class one goes together round = stay (longer_span span place f class) (was class one goes together round)

  -- through all edges with a key that all those have with which the chain goes on
  pub goes_on_all : {K : Type 0} (key : Edge → K) (k : K) (reached : Spans) → ((class place : ℕ) (f : Edge) → goes_on span f ≡ true → (is_last ≡ true → is_round (longer_span span place f class) ≡ true) → key f ≡ k)
      → ArePassed key edges flags k (GoesOnAt mode edges classes flags is_last span reached) None → GoesOn mode edges classes flags is_last span reached
  goes_on_all key k reached tells done = λ all place f class one goes together round.
      done.passed place f (slice_get_within edges place f one.at) one.flagged one.at (tells class place f goes round) class one goes together round

module _ (mode : Mode) (edges : List Edge) (classes : List ℕ) (flags : List Bool) (is_last : Bool) (spans : Spans) where
  -- chains go on from each of the first n spans as these tell
  pub record AreFollowed (n : ℕ) (reached : Spans) : Type 0 where
    pub known : reached.are_all ≡ true → spans.are_all ≡ true
    pub each : (k : ℕ) (span : Span) → k < n → get_or spans.list.items k span ≡ span → GoesOn mode edges classes flags is_last span reached

  -- and from one more
  pub followed_more : (n : ℕ) (span : Span) (old new : Spans) → n < length spans.list.items → ((d : Span) → get_or spans.list.items n d ≡ span) → KeepSpans old new → GoesOn mode edges classes flags is_last span new → AreFollowed n old → AreFollowed (n + 1) new
  followed_more n span old new within is keep goes before = record {
    known = λ all. before.known (keep.all all);
    each = λ k other below at.
        elim (cases_eq k n) [
          | inl same ↦ subst (λ (s : Span). GoesOn mode edges classes flags is_last s new) (sym (is other) ∙ ap (λ (m : ℕ). get_or spans.list.items m other) (sym same) ∙ at) goes
          | inr differ ↦ λ all place f class one goes_there together round. keep.stay (longer_span other place f class) (before.each k other (omega (arith, below, differ)) at (keep.all all) place f class one goes_there together round)
        ];
  }

-- what a chain goes on with holds the lock that its last edge wants
pub tells_held : (span : Span) (f : Edge) → goes_on span f ≡ true → lock_towards Leader f ≡ span.wanted
tells_held span f goes = sym (eqb-true _ _ (and_parts _ _ goes).0)

-- and wants that with which it began, where it goes round
pub tells_both : (span : Span) (class place : ℕ) (f : Edge) → goes_on span f ≡ true → is_round (longer_span span place f class) ≡ true → both_locks f ≡ (span.wanted, span.held)
tells_both span class place f goes round =
    let held = tells_held span f goes in
    let wanted : f.wanted ≡ span.held = eqb-true _ _ (and_parts _ _ round).0 in
    λ i. (held i, wanted i)

-- one model more has its span
pub models_more : (edges : List Edge) (classes : List ℕ) (flags : List Bool) (n class : ℕ) (e : Edge) (flag : Bool) (old new : List Span) → slice_get edges n ≡ Some e → slice_get classes n ≡ Some class → slice_get flags n ≡ Some flag → StayIn old new → (flag ≡ true → Contains new (span_of n n e e class))
    → HasModelsBefore edges classes flags n old → HasModelsBefore edges classes flags (n + 1) new
models_more edges classes flags n class e flag old new at of_class has stay added before other place f below one =
    elim (cases_eq place n) [
      | inr differ ↦ stay (span_of place place f f other) (before other place f (omega (arith, below, differ)) one)
      | inl same ↦
          let is_e : e ≡ f = same_Some e f (sym at ∙ ap (slice_get edges) (sym same) ∙ one.at) in
          let is_class : class ≡ other = same_Some class other (sym of_class ∙ ap (slice_get classes) (sym same) ∙ one.of_class) in
          let is_flag : flag ≡ true = same_Some flag true (sym has ∙ ap (slice_get flags) (sym same) ∙ one.flagged) in
          subst (λ (p : ℕ). Contains new (span_of p p f f other)) (sym same) (subst (λ (c : ℕ). Contains new (span_of n n f f c)) is_class (subst (λ (f : Edge). Contains new (span_of n n f f class)) is_e (added is_flag)))
    ]
