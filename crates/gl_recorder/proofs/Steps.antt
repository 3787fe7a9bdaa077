-- What a recorder answers and knows, step by step.
use Rattle.std.proofs.Common.{◌≡◌, ℕ, ◌<◌, ◌≤◌, true, List, [], ◌∷◌, ◌++◌, length, Option, Some, None, Ok, Err, refl, sym, ◌∙◌, arith}
use Rattle.std.specs.Prelude.{IfSome, IfNone}
use Rattle.gl_event.specs.Bounds.{Bounds}
use Rattle.gl_event.specs.Events.{closes, partner}
use Rattle.gl_event.specs.Lawful.{lock_refusal, refusal}
use Rattle.gl_event.specs.States.{State, StandsAfter, MayFollow}
use Rattle.gl_event.specs.declared.events.Event.{Event}
use Rattle.gl_event.specs.declared.events.Refusal.{Refusal}
use Rattle.gl_event.specs.declared.events.Refusal.TheVariants.{PlaceFull}
use Rattle.gl_event.specs.declared.notes.Body.TheVariants.{Happened}
use Rattle.gl_event.proofs.Lawfulness.{IsLawful-push}
use Rattle.gl_event.proofs.States.{closing_allowed}
use Rattle.gl_recorder.specs.Taking.{Taking, Tracks, partner_refusal, answer_to}
use Rattle.gl_recorder.proofs.Refusals.{by_lock, by_partner, list_full}

-- what holds of an answer, in each of its cases
pub if_some : (o : Option Refusal) (P : Refusal → Type 0) → ((r : Refusal) → o ≡ Some r → P r) → IfSome o P
if_some (Some r) P h = h r refl
if_some None P h = tt

pub if_none : (o : Option Refusal) (P : Type 0) → (o ≡ None → P) → IfNone o P
if_none (Some r) P h = tt
if_none None P h = h refl

-- a refused event is answered by its reason
pub answers_refused : (limits : Bounds) (thread : ℕ) (es : List Event) (e : Event) (r : Refusal) → refusal limits thread es e ≡ Some r → Err r ≡ answer_to limits thread es e
answers_refused limits thread es e r is = rw is

module _ (limits : Bounds) (thread : ℕ) (es : List Event) (t : Taking) (tracks : Tracks limits thread es t) where
  -- and any other by its note
  pub answers_taken : (e : Event) → refusal limits thread es e ≡ None → Ok (record { thread = t.thread; place = t.state.events; body = Happened e }) ≡ answer_to limits thread es e
  answers_taken e is = rw (is, tracks.its_thread, tracks.stands.events)

  -- the list is as long as it may be
  pub place_full : (e : Event) → t.limits.events ≤ t.state.events → refusal limits thread es e ≡ Some PlaceFull
  place_full e full = list_full limits thread es e (rw (tracks.its_limits, tracks.stands.events) at full)

  within : t.state.events < t.limits.events → length es < limits.events
  within room = rw (tracks.its_limits, tracks.stands.events) at room

  -- the locks decide
  pub as_locks : t.state.events < t.limits.events → (e : Event) → partner e ≡ None → refusal limits thread es e ≡ lock_refusal es e
  as_locks room e alone = by_lock limits thread es (within room) e alone

  -- the partner decides
  pub as_partner : t.state.events < t.limits.events → (e : Event) (other : ℕ) → closes e ≡ true → partner e ≡ Some other → refusal limits thread es e ≡ partner_refusal t.limits t.thread other
  as_partner room e other closing is = rw (tracks.its_limits, tracks.its_thread) (by_partner limits thread es (within room) e other closing is)

  -- and if it doesn't refuse, no lock does
  pub left_to_locks : t.state.events < t.limits.events → (e : Event) (other : ℕ) → closes e ≡ true → partner e ≡ Some other → partner_refusal t.limits t.thread other ≡ None → refusal limits thread es e ≡ lock_refusal es e
  left_to_locks room e other closing is none = as_partner room e other closing is ∙ none ∙ sym (closing_allowed es e closing)

  -- one event more
  pub tracks_push : (e : Event) → refusal limits thread es e ≡ None → (new : State) → StandsAfter (es ++ e ∷ []) new → Tracks limits thread (es ++ e ∷ []) (record t { state = new })
  tracks_push e allowed new stands = record {
    its_thread = tracks.its_thread;
    its_limits = tracks.its_limits;
    lawful = IsLawful-push limits thread es e tracks.lawful allowed;
    stands = stands;
  }

by_locks : (limits : Bounds) (thread : ℕ) (es fs : List Event) (e : Event) → length fs ≡ length es → lock_refusal fs e ≡ lock_refusal es e → refusal limits thread fs e ≡ refusal limits thread es e
unfolding refusal
by_locks limits thread es fs e long locks = rw (long, locks) refl

-- what is lawful next after some events is lawful next after all that are known so too, and that the locks let it follow
pub allowed_after : (limits : Bounds) (thread : ℕ) (fs : List Event) (t : Taking) (e : Event) → Tracks limits thread fs t → (may : MayFollow t.limits t.thread t.state e)
    → lock_refusal may.es e ≡ None → lock_refusal fs e ≡ None → refusal limits thread fs e ≡ None
allowed_after limits thread fs t e tracks may locks now =
    rw (← tracks.its_limits, ← tracks.its_thread)
    (by_locks t.limits t.thread may.es fs e (sym tracks.stands.events ∙ may.stands.events) (now ∙ sym locks) ∙ may.allowed)
