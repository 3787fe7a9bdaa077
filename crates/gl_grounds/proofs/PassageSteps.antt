-- Passages, one edge after the other, and one follower of it after the other.
use Rattle.std.proofs.Common.{◌≡◌, ℕ, ◌+◌, ◌<◌, ◌≤◌, Bool, true, false, not, ◌||◌, cond, List, length, Option, Some, None, refl, sym, ap, ◌∙◌, subst, arith, inl, inr}
use Rattle.std.specs.Prelude.{slice_get, IfSome}
use Rattle.std.proofs.lemmas.Bool.{cases_eq, cases_lt, false≢true}
use Rattle.std.proofs.lemmas.Option.{same_Some, slice_get_within}
use Rattle.gl_edges.specs.declared.edge.Edge.{Edge}
use Rattle.gl_filters.specs.Test.{leads_to, waits_for}
use Rattle.gl_filters.proofs.Cycling.{leads_same}
use Rattle.gl_index.specs.Listed.{IsNextWith}
use Rattle.gl_index.specs.Sides.{lock_towards}
use Rattle.gl_index.specs.declared.sides.Side.TheVariants.{Leader}
use Rattle.gl_index.proofs.Listed.{tells_locks}
use Rattle.gl_index.proofs.Lists.{element_at}
use Rattle.gl_grounds.specs.Classes.{are_places}
use Rattle.gl_grounds.specs.Passing.{may_pass, stay, ArePassages, ArePassagesBefore, IsNextLed, LeadLikewise, LeadsOnlyBelow, LeadsOnlyBy}
use Rattle.gl_grounds.specs.declared.passages.Passages.{Passages}

-- a pair that was there is there with one more
pub still_there : (all added there : Bool) → (not all || there) ≡ true → (not all || cond added true there) ≡ true
still_there true true there is = refl
still_there true false there is = is
still_there false added there is = refl

-- and so is the one that is added
pub added_there : (all there : Bool) (pair : ℕ × ℕ) → (not all || cond (are_places pair pair) true there) ≡ true
added_there all there pair = elim (tells_locks pair pair) [ inl same ↦ ap (λ b. not all || cond b true there) same.0 ∙ by all | inr other ↦ absurd (other.1 refl) ]
  where
    by : (all : Bool) → (not all || true) ≡ true
    by true = refl
    by false = refl

-- edges that want the same lock in the same mode lead on to the same ones
pub leads_same_way : (d e f : Edge) → d.wanted ≡ e.wanted → d.wanted_mode ≡ e.wanted_mode → leads_to d f ≡ leads_to e f
leads_same_way d e f locks modes = λ i. waits_for (locks i) (modes i) f.held f.held_mode

module _ (edges : List Edge) (classes : List ℕ) (flags : List Bool) where
  shares_on : (i m : ℕ) (e : Edge) (next : Option ℕ) → slice_get edges i ≡ Some e → IsNextWith (lock_towards Leader) edges flags e.wanted m next
      → IfSome next (λ j. (j < length edges) × ((e f : Edge) → slice_get edges i ≡ Some e → slice_get edges j ≡ Some f → f.held ≡ e.wanted))
  shares_on i m e None at is = tt
  shares_on i m e (Some j) at is =
      (is.holds.0, λ e2 f at_e at_f. is.holds.1 f at_f ∙ ap (λ e. e.wanted) (same_Some e e2 (sym at ∙ at_e)))

  -- the first edge that holds the lock is where to begin, or to go on behind those that were passed
  pub led_on : (passages : Passages) (i m : ℕ) (e : Edge) (next : Option ℕ) → slice_get edges i ≡ Some e → LeadsOnlyBelow edges classes flags m passages i → IsNextWith (lock_towards Leader) edges flags e.wanted m next
      → IsNextLed edges classes flags passages i next
  led_on passages i m e next at passed is = record {
    passed = λ j one other e2 f below flag at_e at_f of_one of_other leads.
        elim (cases_lt j m) [
          | inl early ↦ passed j one other e2 f early flag at_e at_f of_one of_other leads
          | inr late ↦
              elim (is.skipped j f (omega arith) below at_f) [
                | inl differs ↦ absurd (differs (sym (leads_same e2 f leads) ∙ sym (ap (λ e. e.wanted) (same_Some e e2 (sym at ∙ at_e)))))
                | inr off ↦ absurd (false≢true (same_Some false true (sym off ∙ flag)))
              ]
        ];
    shares = shares_on i m e next at is;
  }

  pub begins : (passages : Passages) (i : ℕ) (e : Edge) (first : Option ℕ) → slice_get edges i ≡ Some e → IsNextWith (lock_towards Leader) edges flags e.wanted 0 first → IsNextLed edges classes flags passages i first
  begins passages i e first at is = led_on passages i 0 e first at (λ j one other e2 f below flag at_e at_f of_one of_other leads. absurd (omega (arith, below))) is

  -- past one whose pair is there, if it is led to
  pub goes_past : (old new : Passages) (i j : ℕ) (e f : Edge) (next : Option ℕ) → stay old new → slice_get edges i ≡ Some e → slice_get edges j ≡ Some f → IsNextLed edges classes flags old i (Some j)
      → ((one other : ℕ) → slice_get classes i ≡ Some one → slice_get classes j ≡ Some other → leads_to e f ≡ true → may_pass new one other ≡ true)
      → IsNextWith (lock_towards Leader) edges flags (lock_towards Leader f) (j + 1) next → IsNextLed edges classes flags new i next
  goes_past old new i j e f next still at there was here is =
      led_on new i (j + 1) e next at
      (λ k one other e2 f2 below flag at_e at_f of_one of_other leads.
      elim (cases_eq k j) [
        | inl same ↦
            let is_e : e ≡ e2 = same_Some e e2 (sym at ∙ at_e) in
            let is_f : f ≡ f2 = same_Some f f2 (sym there ∙ ap (slice_get edges) (sym same) ∙ at_f) in
            here one other of_one (ap (slice_get classes) (sym same) ∙ of_other) ((λ i. leads_to (is_e i) (is_f i)) ∙ leads)
        | inr differ ↦ still one other (was.passed k one other e2 f2 (omega arith) flag at_e at_f of_one of_other leads)
      ])
      (subst (λ lock. IsNextWith (lock_towards Leader) edges flags lock (j + 1) next) (was.shares.1 e f at there) is)

  -- where it isn't known any may pass
  pub any_may : (passages : Passages) (i : ℕ) → passages.are_all ≡ false → LeadsOnlyBy edges classes flags passages i
  any_may passages i not_all = λ j one other e f below flag at_e at_f of_one of_other leads. rw not_all refl

  -- one edge more: it is not flagged
  pub more_unflagged : (passages : Passages) (i : ℕ) (flag : Bool) → slice_get flags i ≡ Some flag → flag ≡ false → ArePassagesBefore edges classes flags i passages → ArePassagesBefore edges classes flags (i + 1) passages
  more_unflagged passages i flag at off before k below is =
      elim (cases_eq k i) [
        | inl same ↦ absurd (false≢true (same_Some false true (ap Some (sym off) ∙ sym at ∙ ap (slice_get flags) (sym same) ∙ is)))
        | inr other ↦ before k (omega arith) is
      ]

  -- its followers were added
  pub more_added : (old new : Passages) (i : ℕ) → stay old new → LeadsOnlyBy edges classes flags new i → ArePassagesBefore edges classes flags i old → ArePassagesBefore edges classes flags (i + 1) new
  more_added old new i still here before k below is =
      elim (cases_eq k i) [
        | inl same ↦ subst (LeadsOnlyBy edges classes flags new) (sym same) here
        | inr other ↦ λ j one another e f within flag at_e at_f of_one of_other leads. still one another (before k (omega arith) is j one another e f within flag at_e at_f of_one of_other leads)
      ]

  -- or they are those of one before
  pub more_likewise : (passages : Passages) (first i : ℕ) → length classes ≡ length edges → length flags ≡ length edges → LeadLikewise edges classes flags first i → ArePassagesBefore edges classes flags i passages → ArePassagesBefore edges classes flags (i + 1) passages
  more_likewise passages first i long as_long like before =
      more_added passages passages i (λ one other is. is)
      (λ j one other e f within flag at_e at_f of_one of_other leads.
      let d = element_at edges first (omega (arith, as_long, slice_get_within flags first true like.flagged)) in
      before first like.before like.flagged j one other d.0 f within flag d.1 at_f (like.same_class ∙ of_one) of_other (like.likewise d.0 e f d.1 at_e ∙ leads))
      before

  pub of_all : (passages : Passages) (n : ℕ) → length flags ≤ n → ArePassagesBefore edges classes flags n passages → ArePassages edges classes flags passages
  of_all passages n whole before = record { each = λ i flag. before i (omega (arith, slice_get_within flags i true flag, whole)) flag }
