-- A stream in order stays in order where the next note joins it.
use Rattle.std.proofs.Common.{◌≡◌, ℕ, ◌+◌, ◌<◌, List, [], ◌∷◌, ◌++◌, length, take, Some, sym, ap, ◌∙◌, arith, ◌⊎◌, inl, inr}
use Rattle.std.specs.Prelude.{slice_get}
use Rattle.std.proofs.lemmas.Option.{slice_get_within}
use Rattle.std.proofs.lemmas.List.{take-append-le, take_all, length_push}
use Rattle.gl_event.specs.Bounds.{Bounds}
use Rattle.gl_event.specs.declared.notes.Note.{Note}
use Rattle.gl_event.proofs.Depths.{slice_get_before, slice_get_last}
use Rattle.gl_intake.specs.Stream.{IsNext, AreInOrder}

-- a place within a list that grew by one lies in the old list, or is the last
place_cases : (n k : ℕ) → k < n + 1 → (k < n) ⊎ (k ≡ n)
place_cases n k h = grind arith

same_some : {X : Type 0} (x y : X) → Some x ≡ Some y → x ≡ y
same_some x y h = cc

pub AreInOrder-nil : (limits : Bounds) → AreInOrder limits []
AreInOrder-nil limits = record { each = λ place note at. cc }

pub AreInOrder-push : (limits : Bounds) (stream : List Note) (note : Note) → AreInOrder limits stream → IsNext limits stream note → AreInOrder limits (stream ++ note ∷ [])
AreInOrder-push limits stream note old next = record {
  each = λ place other at.
      elim (place_cases (length stream) place (let within = slice_get_within _ place other at in omega (arith, length_push stream note))) [
        | inl below ↦
            let front = take-append-le place stream (note ∷ []) (omega arith) in
            rw front (old.each place other (sym (slice_get_before stream (note ∷ []) place below) ∙ at))
        | inr is_last ↦
            let front : take place (stream ++ note ∷ []) ≡ stream = rw is_last (take-append-le (length stream) stream (note ∷ []) (omega arith) ∙ take_all (length stream) stream (omega arith)) in
            let this : other ≡ note = same_some other note (sym at ∙ ap (slice_get (stream ++ note ∷ [])) is_last ∙ slice_get_last stream note) in
            rw (front, this) next
      ];
}
