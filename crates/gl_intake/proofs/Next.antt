-- A note has no refusal exactly where it is its thread's next one.
use Rattle.std.proofs.Common.{◌≡◌, ◌≢◌, ◌⊎◌, ℕ, ◌<◌, ◌≤◌, Bool, true, false, cond, eqb, leb, List, length, get_or, Option, Some, None, refl, sym, ap, ◌∙◌, inl, inr}
use Rattle.std.proofs.lemmas.Bool.{eqb-true, eq-eqb, le-leb, lt-leb, leb-false}
use Rattle.std.specs.Option.{option_map}
use Rattle.gl_event.specs.Bounds.{Bounds}
use Rattle.gl_event.specs.declared.events.Event.{Event}
use Rattle.gl_event.specs.declared.events.Refusal.{Refusal}
use Rattle.gl_event.specs.Lawful.{refusal}
use Rattle.gl_event.specs.declared.notes.Note.{Note}
use Rattle.gl_event.specs.declared.notes.Body.{Body}
use Rattle.gl_event.specs.declared.notes.Body.TheVariants.{Happened, Ended}
use Rattle.gl_recorder.specs.Taking.{Tracks}
use Rattle.gl_intake.specs.Stream.{events_of, has_ended, FitsAfter, IsNext, IsRefusedFor, body_refusal, refusal_after, note_refusal}
use Rattle.gl_intake.specs.Keeping.{AreCursors}
use Rattle.gl_intake.specs.declared.intake.ThreadCursor.{ThreadCursor}
use Rattle.gl_intake.specs.declared.notes.Refused.{Refused}
use Rattle.gl_intake.specs.declared.notes.Refused.TheVariants.{Stranger, Late, Unlawful, Memory}

-- a test that refuses where it is true has been false
passed : {X : Type 0} (b : Bool) (x : X) (rest : Option X) → cond b (Some x) rest ≡ None → (b ≡ false) × (rest ≡ None)
passed true x rest h = absurd (cc)
passed false x rest h = (refl, h)

-- a test that refuses where it is false has been true
held_good : {X : Type 0} (b : Bool) (x : X) (rest : Option X) → cond b rest (Some x) ≡ None → (b ≡ true) × (rest ≡ None)
held_good true x rest h = (refl, h)
held_good false x rest h = absurd (cc)

unmapped : (r : Option Refusal) → option_map Unlawful r ≡ None → r ≡ None
unmapped None h = refl
unmapped (Some x) h = absurd (cc)

body_fits : (limits : Bounds) (thread : ℕ) (es : List Event) (body : Body) → body_refusal limits thread es body ≡ None → FitsAfter limits thread es body
body_fits limits thread es (Happened e) h = unmapped (refusal limits thread es e) h
body_fits limits thread es (Ended count) h = eqb-true count (length es) (held_good (eqb count (length es)) _ _ h).0

fitting_body : (limits : Bounds) (thread : ℕ) (es : List Event) (body : Body) → FitsAfter limits thread es body → body_refusal limits thread es body ≡ None
fitting_body limits thread es (Happened e) h = rw h
fitting_body limits thread es (Ended count) h = rw (eq-eqb count (length es) h)

pub next_of_none : (limits : Bounds) (stream : List Note) (note : Note) → note_refusal limits stream note ≡ None → IsNext limits stream note
unfolding note_refusal
next_of_none limits stream note h =
    let es = events_of note.thread stream in
    let first = passed (leb limits.threads note.thread) Stranger _ h in
    let second = passed (has_ended note.thread stream) _ _ first.1 in
    let third = held_good (eqb note.place (length es)) _ _ second.1 in
    record {
      known = leb-false limits.threads note.thread first.0;
      running = second.0;
      in_place = eqb-true note.place (length es) third.0;
      fits = body_fits limits note.thread es note.body third.1;
    }

pub none_of_next : (limits : Bounds) (stream : List Note) (note : Note) → IsNext limits stream note → note_refusal limits stream note ≡ None
unfolding note_refusal
none_of_next limits stream note next =
    rw (lt-leb limits.threads note.thread next.known, next.running, eq-eqb note.place (length (events_of note.thread stream)) next.in_place)
    (fitting_body limits note.thread (events_of note.thread stream) note.body next.fits)

-- an unknown thread's note
pub of_stranger : (limits : Bounds) (stream : List Note) (note : Note) → limits.threads ≤ note.thread → Some Stranger ≡ note_refusal limits stream note
unfolding note_refusal
of_stranger limits stream note strange = rw (le-leb limits.threads note.thread strange)

-- what a known thread's cursor says of the note
pub of_known : (limits : Bounds) (stream : List Note) (note : Note) (cursors : List ThreadCursor) → AreCursors limits stream cursors → note.thread < limits.threads
    → (cursor : ThreadCursor) → cursor ≡ get_or cursors note.thread cursor → (r : Option Refused)
    → ((b : Bounds) (es : List Event) → Tracks b note.thread es cursor.taker → r ≡ refusal_after b es cursor.has_ended note) → r ≡ note_refusal limits stream note
unfolding note_refusal
of_known limits stream note cursors are known cursor here r says =
    let tracks = rw (← here) at (are.tracks note.thread cursor known) in
    let late : cursor.has_ended ≡ has_ended note.thread stream = rw (← here) at (are.ended note.thread cursor known) in
    says limits (events_of note.thread stream) tracks ∙ rw (lt-leb limits.threads note.thread known, late)

-- ---- no refusal is for want of memory

one_of : {X : Type 0} (b : Bool) (x y : Option X) (why : X) → cond b x y ≡ Some why → (x ≡ Some why) ⊎ (y ≡ Some why)
one_of true x y why h = inl h
one_of false x y why h = inr h

mapped_never : (r : Option Refusal) → option_map Unlawful r ≡ Some Memory → ⊥
mapped_never None h = cc
mapped_never (Some x) h = cc

body_never : (limits : Bounds) (thread : ℕ) (es : List Event) (body : Body) → body_refusal limits thread es body ≡ Some Memory → ⊥
body_never limits thread es (Happened e) h = mapped_never (refusal limits thread es e) h
body_never limits thread es (Ended count) h = elim (one_of (eqb count (length es)) None _ Memory h) [ inl e ↦ absurd (cc) | inr e ↦ absurd (cc) ]

known_never : (limits : Bounds) (es : List Event) (late : Bool) (note : Note) → refusal_after limits es late note ≡ Some Memory → ⊥
known_never limits es late note h =
    elim (one_of late (Some Late) _ Memory h) [
      | inl e ↦ absurd (cc)
      | inr rest ↦
          elim (one_of (eqb note.place (length es)) _ _ Memory rest) [
            | inl body ↦ body_never limits note.thread es note.body body
            | inr e ↦ absurd (cc)
          ]
    ]

pub never_for_memory : (limits : Bounds) (stream : List Note) (note : Note) (why : Refused) → note_refusal limits stream note ≡ Some why → why ≢ Memory
unfolding note_refusal
never_for_memory limits stream note why h is =
    let told : note_refusal limits stream note ≡ Some Memory = h ∙ ap (λ w. Some w) is in
    elim (one_of (leb limits.threads note.thread) (Some Stranger) _ Memory told) [
      | inl e ↦ absurd (cc)
      | inr known ↦ known_never limits (events_of note.thread stream) (has_ended note.thread stream) note known
    ]

-- a note that may come next, and isn't refused for want of memory, isn't refused
pub never_refused : (limits : Bounds) (stream : List Note) (note : Note) (why : Refused) → note_refusal limits stream note ≡ None → why ≢ Memory → IsRefusedFor limits stream note why → ⊥
never_refused limits stream note why none enough (inl refused) = let both : None ≡ Some why = sym none ∙ refused in absurd (cc)
never_refused limits stream note why none enough (inr short) = enough short.1
