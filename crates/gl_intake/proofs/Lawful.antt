-- The logs are lists that a report may be made of.
use Rattle.std.proofs.Common.{◌≡◌, ℕ, zero, suc, ◌+◌, ◌<◌, List, map, Some, sym, ap, ◌∙◌, subst, arith, Vec, Global}
use Rattle.std.specs.Prelude.{slice_get}
use Rattle.std.specs.List.{range_with_len}
use Rattle.gl_event.specs.Bounds.{Bounds, AreWithinRange, greatest}
use Rattle.gl_event.specs.Lawful.{IsLawful}
use Rattle.gl_event.specs.declared.events.Event.{Event}
use Rattle.gl_event.specs.declared.notes.Note.{Note}
use Rattle.gl_event.proofs.Lawfulness.{lawful_by_greatest}
use Rattle.gl_intake.specs.Stream.{events_of, logs_of}

same_some : {X : Type 0} (x y : X) → Some x ≡ Some y → x ≡ y
same_some x y h = cc

-- what stands at a place of a list by numbers
number_at : {X : Type 0} (f : ℕ → X) (a n i : ℕ) (x : X) → slice_get (map f (range_with_len a n)) i ≡ Some x → (i < n) × (f (a + i) ≡ x)
number_at f a zero i x at = absurd (cc)
number_at f a (suc n) zero x at = let here : a + 0 ≡ a = omega arith in (omega arith, ap f here ∙ same_some (f a) x at)
number_at f a (suc n) (suc i) x at =
    let (within, is) = number_at f (a + 1) n i x at in
    let here : a + suc i ≡ (a + 1) + i = omega arith in
    (omega arith, ap f here ∙ is)

-- each log is lawful under the greatest limits
pub lists_lawful : (limits : Bounds) (logs : List (Vec Event Global)) (stream : List Note) → map (λ log. log.items) logs ≡ logs_of limits.threads stream → AreWithinRange limits
    → ((thread : ℕ) → thread < limits.threads → IsLawful limits thread (events_of thread stream))
    → (thread : ℕ) (es : List Event) → slice_get (map (λ log. log.items) logs) thread ≡ Some es → IsLawful greatest thread es
lists_lawful limits logs stream are range lawful thread es at =
    let (within, is) = number_at (λ t. events_of t stream) 0 limits.threads thread es (subst (λ ls. slice_get ls thread ≡ Some es) are at) in
    let number : 0 + thread ≡ thread = omega arith in
    let list : events_of thread stream ≡ es = ap (λ t. events_of t stream) (sym number) ∙ is in
    lawful_by_greatest limits thread es range (subst (IsLawful limits thread) list (lawful thread within))
