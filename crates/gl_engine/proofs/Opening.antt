-- A session's recorders and inputs, thread by thread.
use Rattle.std.proofs.Common.{◌≡◌, ℕ, ◌+◌, List, [], ◌∷◌, ◌++◌, length, map, Option, None, Some, refl, sym, ap, ◌∙◌, subst, arith, inl, inr}
use Rattle.std.specs.Prelude.{slice_get}
use Rattle.std.proofs.lemmas.List.{map-append, length_push}
use Rattle.std.proofs.lemmas.Option.{slice_get_within}
use Rattle.gl_event.specs.Bounds.{Bounds, AreWithinRange}
use Rattle.gl_event.proofs.Depths.{slice_get_before, slice_get_last}
use Rattle.gl_intake.specs.Stream.{events_of}
use Rattle.gl_intake.specs.declared.notes.Refused.{Refused}
use Rattle.gl_intake.proofs.Order.{AreInOrder-nil}
use Rattle.gl_world.specs.Keeping.{notes_of}
use Rattle.gl_world.proofs.Lists.{same_some, place_cases}
use Rattle.gl_world.proofs.Makings.{made_nothing}
use Rattle.gl_engine.specs.Collecting.{Pulling, as_of, fresh_input}
use Rattle.gl_engine.specs.Keeping.{IsCollector, pulling_of}
use Rattle.gl_engine.specs.bodies.Opening.{AreFresh}
use Rattle.gl_engine.specs.Recording.{Recording, IsFresh}
use Rattle.gl_engine.proofs.Dealt.{made_by_none}
use Rattle.gl_engine.specs.declared.lane_input.LaneInput.{LaneInput}

-- what holds of each item with its place holds of each where one more joins them
each_and_last : {X : Type 0} (P : ℕ → X → Type 0) (xs : List X) (x : X) → ((i : ℕ) (y : X) → slice_get xs i ≡ Some y → P i y) → P (length xs) x → (i : ℕ) (y : X) → slice_get (xs ++ x ∷ []) i ≡ Some y → P i y
each_and_last P xs x each last i y at =
    elim (place_cases (length xs) i (let within = slice_get_within _ i y at in omega (arith, length_push xs x))) [
      | inl below ↦ each i y (sym (slice_get_before xs (x ∷ []) i below) ∙ at)
      | inr is_last ↦
          let this : y ≡ x = same_some y x (sym at ∙ ap (slice_get (xs ++ x ∷ [])) is_last ∙ slice_get_last xs x) in
          subst (λ j. P j y) (sym is_last) (subst (P (length xs)) (sym this) last)
    ]

pub fresh_nil : (session : ℕ) (limits : Bounds) → AreFresh session limits 0 [] []
fresh_nil session limits = record { count = refl; inputs_count = refl; fresh = λ thread r at. cc; ends = refl; unused = λ thread input at. cc }

pub fresh_push : (session : ℕ) (limits : Bounds) (threads : ℕ) (recorders : List Recording) (inputs : List LaneInput) → AreFresh session limits threads recorders inputs → (r : Recording) (input : LaneInput)
    → IsFresh session limits threads r → pulling_of input ≡ fresh_input r.lane → AreFresh session limits (threads + 1) (recorders ++ r ∷ []) (inputs ++ input ∷ [])
fresh_push session limits threads recorders inputs are r input is end = record {
  count = omega (arith, are.count, length_push recorders r);
  inputs_count = omega (arith, are.inputs_count, length_push inputs input);
  fresh = each_and_last (λ t r. IsFresh session limits t r) recorders r are.fresh (subst (λ t. IsFresh session limits t r) (sym are.count) is);
  ends =
      let before = map-append pulling_of inputs (input ∷ []) in
      let lanes = map-append (λ (r : Recording). r.lane) recorders (r ∷ []) in
      let after = map-append fresh_input (map (λ (r : Recording). r.lane) recorders) (r.lane ∷ []) in
      before ∙ ap (λ ps. ps ++ pulling_of input ∷ []) are.ends ∙ ap (λ p. map fresh_input (map (λ (r : Recording). r.lane) recorders) ++ p ∷ []) end ∙ sym after ∙ ap (map fresh_input) (sym lanes);
  unused = each_and_last (λ t input. (input.lane.popped ≡ []) × (input.broken ≡ None)) inputs input are.unused (ap (λ (p : Pulling). p.popped) end, ap (λ (p : Pulling). p.broken) end);
}

unbroken : {broken : Option Refused} {why : Refused} → broken ≡ None → broken ≡ Some why → ⊥
unbroken {why = why} none some = (let clash : None ≡ Some why = sym none ∙ some in cc)

-- a collector that has collected nothing
pub collector_new : (session : ℕ) (limits : Bounds) (recorders : List Recording) (inputs : List LaneInput) → AreFresh session limits limits.threads recorders inputs → AreWithinRange limits
    → IsCollector limits inputs [] [] limits
unfolding notes_of events_of
collector_new session limits recorders inputs are range = record {
  inputs_are = record {
    count = are.inputs_count;
    told = λ thread input at. (let fresh = are.unused thread input at in sym (ap (map (as_of thread)) fresh.0));
    cause = λ thread input at why broken. absurd (unbroken (are.unused thread input at).1 broken);
  };
  in_order = AreInOrder-nil limits;
  made_are = made_nothing limits.threads;
  made_is = sym made_by_none;
  same_limits = refl;
  range = range;
}
