-- Lawful lists, event by event and list by list.
use Rattle.std.proofs.Common.{◌≡◌, ℕ, ◌+◌, ◌<◌, true, false, List, [], ◌∷◌, ◌++◌, length, get_or, map, take, Option, Some, None, Result, Ok, Err, refl, sym, ap, subst, ◌∙◌, arith, inl, inr}
use Rattle.std.specs.Prelude.{slice_get, OnOk}
use Rattle.std.specs.Result.{is_err}
use Rattle.std.specs.Option.{option_map, option_map_or}
use Rattle.std.proofs.lemmas.List.{take_more}
use Rattle.std.proofs.lemmas.Bool.{cases_lt}
use Rattle.std.proofs.lemmas.Option.{slice_get_read, slice_get-map}
use Rattle.gl_event.specs.Bounds.{Bounds}
use Rattle.gl_event.specs.Lawful.{refusal, IsLawful}
use Rattle.gl_event.specs.declared.events.Event.{Event}
use Rattle.gl_event.specs.declared.events.Refusal.{Refusal}
use Rattle.gl_event.specs.declared.notes.Note.{Note}
use Rattle.gl_recorder.specs.Taking.{Taking, Tracks, answer_to}

-- an answer that is a refusal has its reason
refused : (o : Option Refusal) (note : Note) (r : Result Note Refusal) → r ≡ option_map_or Err o (Ok note) → is_err r ≡ true → o ≡ None → ⊥
refused o note (Ok x) is err none = absurd (cc)
refused None note (Err e) is err none = absurd (cc)
refused (Some x) note (Err e) is err none = absurd (cc)

-- what holds of each answer that is no refusal
pub kept : (r : Result Note Refusal) {P : Type 0} → is_err r ≡ false → OnOk r P → P
kept (Ok x) ok h = h
kept (Err e) ok h = absurd (cc)

module _ (limits : Bounds) (thread : ℕ) (es : List Event) (i : ℕ) (e : Event) (within : i < length es) (item : e ≡ get_or es i e) where
  at_place : slice_get es i ≡ Some e
  at_place = slice_get_read es (length es) i e refl within item

  -- a list with a refused event isn't lawful
  pub not_lawful : (r : Result Note Refusal) → r ≡ answer_to limits thread (take i es) e → is_err r ≡ true → IsLawful limits thread es → ⊥
  not_lawful r is err lawful = refused (refusal limits thread (take i es) e) _ r is err (lawful.each i e at_place)

  -- a list with one more event
  pub tracks_more : (t : Taking) → Tracks limits thread (take i es ++ e ∷ []) t → Tracks limits thread (take (i + 1) es) t
  tracks_more t tracks = subst (λ xs. Tracks limits thread xs t) (ap (λ x. take i es ++ x ∷ []) item ∙ sym (take_more es i e within)) tracks

module _ {X : Type 0} (items : X → List Event) (xs : List X) (i : ℕ) (x : X) (within : i < length xs) (item : x ≡ get_or xs i x) where
  -- the list at its number
  pub list_at : slice_get (map items xs) i ≡ Some (items x)
  list_at = slice_get-map items xs i ∙ ap (option_map items) (slice_get_read xs (length xs) i x refl within item)

-- the lists below a number are lawful
abbrev pub LawfulBelow : Bounds → List (List Event) → ℕ → Type 0
LawfulBelow limits lists n = (t : ℕ) (es : List Event) → t < n → slice_get lists t ≡ Some es → IsLawful limits t es

-- and one more
pub lawful_more : (limits : Bounds) (lists : List (List Event)) (n : ℕ) (xs : List Event) → slice_get lists n ≡ Some xs → LawfulBelow limits lists n → IsLawful limits n xs → LawfulBelow limits lists (n + 1)
lawful_more limits lists n xs at below lawful t es lower here =
    elim (cases_lt t n) [
      | inl before ↦ below t es before here
      | inr not ↦
          let same : n ≡ t = omega arith in
          let list : xs ≡ es = same_some xs es (sym at ∙ ap (slice_get lists) same ∙ here) in
          subst (λ k. IsLawful limits k es) same (subst (IsLawful limits n) list lawful)
    ]
  where
    same_some : (a b : List Event) → Some a ≡ Some b → a ≡ b
    same_some a b h = cc
