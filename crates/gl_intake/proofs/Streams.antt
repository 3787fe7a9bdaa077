-- What one more note makes of a stream's events, end marks, logs and cursors.
use Rattle.std.proofs.Common.{◌≡◌, ◌≢◌, ℕ, ◌<◌, ◌≤◌, Bool, true, false, cond, ◌||◌, ◌&&◌, eqb, append-nil, List, [], ◌∷◌, ◌++◌, length, map, get_or, Vec, Global, Option, None, refl, sym, ◌∙◌, arith}
use Rattle.std.proofs.lemmas.List.{get_or-map, ext_get_or, length-map}
use Rattle.std.proofs.lemmas.List.Elements.{filter_map-append}
use Rattle.std.proofs.lemmas.List.Folds.{list_any-append}
use Rattle.std.proofs.lemmas.Bool.{eq-eqb, ne_eqb}
use Rattle.std.proofs.lemmas.List.FromFn.{get_or-map-range_with_len, length-map-range_with_len}
use Rattle.gl_event.specs.Bounds.{Bounds}
use Rattle.gl_event.specs.declared.events.Event.{Event}
use Rattle.gl_event.specs.declared.notes.Note.{Note}
use Rattle.gl_event.specs.declared.notes.Body.TheVariants.{Happened, Ended}
use Rattle.gl_intake.specs.Stream.{event_in, is_end, events_of, has_ended, logs_of}
use Rattle.gl_intake.specs.Keeping.{AreLogs, AreCursors}
use Rattle.gl_intake.specs.declared.intake.ThreadCursor.{ThreadCursor}

-- the logs, one by one, are the lists of all threads' events
pub logs_listed : (threads : ℕ) (stream : List Note) (logs : List (Vec Event Global)) → AreLogs threads stream logs → map (λ log. log.items) logs ≡ logs_of threads stream
logs_listed threads stream [] are = rw (← are.count)
logs_listed threads stream (log ∷ logs) are =
    let all : List (Vec Event Global) = log ∷ logs in
    ext_get_or [] _ _ (length-map all (λ (v : Vec Event Global). v.items) ∙ are.count ∙ sym (length-map-range_with_len (λ t. events_of t stream) 0 threads))
    (λ i within.
    let known : i < threads = omega (arith, length-map all (λ (v : Vec Event Global). v.items), are.count) in
    get_or-map (λ (v : Vec Event Global). v.items) all i log [] (omega (arith, are.count)) ∙ are.each i log known
    ∙ sym (get_or-map-range_with_len (λ t. events_of t stream) 0 threads i i [] known (omega arith)))

-- an item of a list that has one
pub some_item : {X : Type 0} (xs : List X) (i : ℕ) → i < length xs → X
some_item [] i within = absurd (omega arith)
some_item (x ∷ xs) i within = x

-- where each cursor says that its thread has ended, each thread has
pub all_cursors_ended : (limits : Bounds) (stream : List Note) (cursors : List ThreadCursor) → AreCursors limits stream cursors → (n : ℕ) → length cursors ≤ n
    → ((thread : ℕ) (d : ThreadCursor) → thread < n → (get_or cursors thread d).has_ended ≡ true) → (thread : ℕ) → thread < limits.threads → has_ended thread stream ≡ true
all_cursors_ended limits stream cursors are n all say thread within =
    let here : thread < length cursors = omega (arith, are.count) in
    let d = some_item cursors thread here in
    sym (are.ended thread d within) ∙ say thread d (omega arith)

-- ---- one note more

-- nothing, whichever way
neither : {X : Type 0} (b : Bool) (x : X) → cond b x x ≡ x
neither true x = refl
neither false x = refl

neither_test : (b : Bool) → (b && false) ≡ false
neither_test true = refl
neither_test false = refl

or_true : (b : Bool) → (b || true) ≡ true
or_true true = refl
or_true false = refl

or_false : (b : Bool) → (b || false) ≡ b
or_false true = refl
or_false false = refl

module _ (stream : List Note) (note : Note) where
  pub events_more : (e : Event) → note.body ≡ Happened e → events_of note.thread (stream ++ note ∷ []) ≡ events_of note.thread stream ++ e ∷ []
  unfolding events_of
  events_more e is = filter_map-append (event_in note.thread) stream (note ∷ []) ∙ rw (eq-eqb note.thread note.thread refl, is)

  pub events_ended : (thread count : ℕ) → note.body ≡ Ended count → events_of thread (stream ++ note ∷ []) ≡ events_of thread stream
  unfolding events_of
  events_ended thread count is = filter_map-append (event_in thread) stream (note ∷ []) ∙ rw (is, neither (eqb note.thread thread) (let none : Option Event = None in none), append-nil)

  pub events_other : (thread : ℕ) → note.thread ≢ thread → events_of thread (stream ++ note ∷ []) ≡ events_of thread stream
  unfolding events_of
  events_other thread other = filter_map-append (event_in thread) stream (note ∷ []) ∙ rw (ne_eqb note.thread thread other, append-nil)

  ended_push : (thread : ℕ) → has_ended thread (stream ++ note ∷ []) ≡ (has_ended thread stream || ((eqb note.thread thread && is_end note.body) || false))
  unfolding has_ended
  ended_push thread = list_any-append (λ n. eqb n.thread thread && is_end n.body) stream (note ∷ [])

  pub ended_other : (thread : ℕ) → note.thread ≢ thread → has_ended thread (stream ++ note ∷ []) ≡ has_ended thread stream
  ended_other thread other = rw (ended_push thread, ne_eqb note.thread thread other) (or_false (has_ended thread stream))

  pub ended_event : (thread : ℕ) (e : Event) → note.body ≡ Happened e → has_ended thread (stream ++ note ∷ []) ≡ has_ended thread stream
  ended_event thread e is = rw (ended_push thread, is, neither_test (eqb note.thread thread)) (or_false (has_ended thread stream))

  pub ended_now : (count : ℕ) → note.body ≡ Ended count → has_ended note.thread (stream ++ note ∷ []) ≡ true
  ended_now count is = rw (ended_push note.thread, is, eq-eqb note.thread note.thread refl) (or_true (has_ended note.thread stream))
