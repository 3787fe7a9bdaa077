-- Pulls that take no note off a lane.
use Rattle.std.proofs.Common.{◌≡◌, ℕ, zero, suc, List, [], ◌∷◌, set, Some, None, Result, Ok, Err, refl, sym, ap, ◌∙◌, inl, inr}
use Rattle.std.specs.Prelude.{slice_get}
use Rattle.gl_event.specs.Bounds.{Bounds}
use Rattle.gl_intake.specs.declared.notes.Refused.{Refused}
use Rattle.gl_world.proofs.Lists.{same_some}
use Rattle.gl_engine.specs.Collecting.{Collecting, Pulling, Side, side_of, with_side, IsSidePull, UnpulledIsUnchanged}
use Rattle.gl_engine.specs.declared.pulled.Pulled.{Pulled}
use Rattle.gl_engine.specs.declared.pulled.Pulled.TheVariants.{Empty, Event, Ended}
use Rattle.gl_engine.specs.declared.pulled.PullFault.{PullFault}
use Rattle.gl_engine.specs.declared.pulled.PullFault.TheVariants.{Broken, Memory}

-- what stands in its place is written back
set_back : {X : Type 0} (xs : List X) (i : ℕ) (x : X) → slice_get xs i ≡ Some x → set xs i x ≡ xs
set_back [] i x at = refl
set_back (y ∷ xs) zero x at = ap (λ z. z ∷ xs) (sym (same_some y x at))
set_back (y ∷ xs) (suc i) x at = ap (λ zs. y ∷ zs) (set_back xs i x at)

module _ (old : Collecting) (thread : ℕ) (input : Pulling) (here : slice_get old.inputs thread ≡ Some input) where
  same_side : (side : Side) → side ≡ side_of old input → with_side old thread side ≡ old
  same_side side same = ap (with_side old thread) same ∙ ap (λ inputs. record old { inputs = inputs }) (set_back old.inputs thread input here)

  never : (why : Refused) → input.broken ≡ None → input.broken ≡ Some why → ⊥
  never why none some = (let clash : None ≡ Some why = sym none ∙ some in cc)

  still_broken : (limits : Bounds) (answer : Result Pulled PullFault) (side : Side) (why : Refused) → input.broken ≡ Some why → IsSidePull limits thread (side_of old input) answer side
      → (answer ≡ Err (Broken why)) × (side ≡ side_of old input)
  still_broken limits (Ok Empty) side why broken tells = absurd (never why tells.0 broken)
  still_broken limits (Ok (Event place)) side why broken tells = absurd (never why tells.running broken)
  still_broken limits (Ok (Ended count)) side why broken tells = absurd (never why tells.running broken)
  still_broken limits (Err (Broken reason)) side why broken (inl same) = (ap (λ r. Err (Broken r)) (same_some reason why (sym same.0 ∙ broken)), same.1)
  still_broken limits (Err (Broken reason)) side why broken (inr has) = absurd (never why has.running broken)
  still_broken limits (Err Memory) side why broken tells = absurd (never why tells.0 broken)

pub unpulled_is_unchanged : UnpulledIsUnchanged
unpulled_is_unchanged = record {
  broken = λ old thread input answer new why here broken is.
      (let (answered, same) = still_broken old thread input here old.limits answer is.side why broken is.tells in
      (answered, is.moved ∙ same_side old thread input here is.side same));
  empty = λ old thread input new here is. is.moved ∙ same_side old thread input here is.side is.tells.1;
  memory = λ old thread input new here is. is.moved ∙ same_side old thread input here is.side is.tells.1;
}
