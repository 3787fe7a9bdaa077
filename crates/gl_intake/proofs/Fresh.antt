-- The logs and cursors of an intake that has accepted nothing.
use Rattle.std.proofs.Common.{◌≡◌, ℕ, ◌+◌, ◌<◌, false, List, [], ◌∷◌, ◌++◌, length, get_or, Vec, Global, refl, sym, ap, subst, ◌∙◌, arith, inl, inr}
use Rattle.std.proofs.lemmas.Bool.{cases_lt}
use Rattle.std.proofs.lemmas.List.{get_or_append_left, length_push}
use Rattle.std.proofs.Math.Seq.{get_or-append_seam}
use Rattle.gl_event.specs.Bounds.{Bounds}
use Rattle.gl_event.specs.declared.events.Event.{Event}
use Rattle.gl_recorder.specs.Taking.{Tracks}
use Rattle.gl_intake.specs.Stream.{events_of, has_ended}
use Rattle.gl_intake.specs.Keeping.{AreLogs, AreCursors}
use Rattle.gl_intake.specs.declared.intake.ThreadCursor.{ThreadCursor}

-- what holds of each item, and of one more at its end
pub each_pushed : {X : Type 0} (P : ℕ → X → Type 0) (xs : List X) (x : X) → ((i : ℕ) (d : X) → i < length xs → P i (get_or xs i d)) → P (length xs) x
    → (i : ℕ) (d : X) → i < length xs + 1 → P i (get_or (xs ++ x ∷ []) i d)
each_pushed P xs x each last i d within =
    elim (cases_lt i (length xs)) [
      | inl before ↦ rw (get_or_append_left xs (x ∷ []) d i before) (each i d before)
      | inr at_end ↦
          let same : length xs ≡ i = omega arith in
          let here : P (length xs) (get_or (xs ++ x ∷ []) (length xs) d) = rw (get_or-append_seam xs x [] d) last in
          subst (λ (k : ℕ). P k (get_or (xs ++ x ∷ []) k d)) same here
    ]

-- the same of the list that a push gave
pub each_new : {X : Type 0} (P : ℕ → X → Type 0) (xs ys : List X) (x : X) → ys ≡ xs ++ x ∷ [] → ((i : ℕ) (d : X) → i < length xs → P i (get_or xs i d)) → P (length xs) x
    → (i : ℕ) (d : X) → i < length ys → P i (get_or ys i d)
each_new {X = X} P xs ys x is each last i d within =
    subst (λ (l : List X). P i (get_or l i d)) (sym is) (each_pushed P xs x each last i d (omega (arith, within, ap length is, length_push xs x)))

pub count_new : {X : Type 0} (xs ys : List X) (x : X) (n : ℕ) → ys ≡ xs ++ x ∷ [] → length xs ≡ n → length ys ≡ n + 1
count_new xs ys x n is count = ap length is ∙ length_push xs x ∙ ap (λ k. k + 1) count

-- a log that holds nothing
abbrev pub IsEmptyLog : ℕ → Vec Event Global → Type 0
IsEmptyLog thread log = log.items ≡ []

-- a cursor of a thread that has had no event
abbrev pub IsFreshCursor : Bounds → ℕ → ThreadCursor → Type 0
IsFreshCursor limits thread cursor = Tracks limits thread [] cursor.taker × (cursor.has_ended ≡ false)

pub all_logs : (threads : ℕ) (logs : List (Vec Event Global)) → length logs ≡ threads → ((i : ℕ) (d : Vec Event Global) → i < length logs → IsEmptyLog i (get_or logs i d)) → AreLogs threads [] logs
unfolding events_of
all_logs threads logs count each = record { count = count; each = λ i d within. each i d (omega arith) }

pub all_cursors : (limits : Bounds) (cursors : List ThreadCursor) → length cursors ≡ limits.threads → ((i : ℕ) (d : ThreadCursor) → i < length cursors → IsFreshCursor limits i (get_or cursors i d)) → AreCursors limits [] cursors
unfolding events_of has_ended
all_cursors limits cursors count each = record {
  count = count;
  tracks = λ i d within. (each i d (omega arith)).0;
  ended = λ i d within. (each i d (omega arith)).1;
}

-- no thread has ended in an empty stream
pub none_ended : (thread : ℕ) → has_ended thread [] ≡ false
unfolding has_ended
none_ended thread = refl
