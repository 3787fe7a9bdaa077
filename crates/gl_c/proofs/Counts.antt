-- How many notes tell events, and how many are end marks.
use Rattle.std.proofs.Common.{◌≡◌, ℕ, ◌+◌, List, [], ◌∷◌, ◌++◌, length, cond, not, Bool, true, false, refl, arith}
use Rattle.std.proofs.lemmas.List.Sums.{sum_by-append, sum_by-cons}
use Rattle.gl_event.specs.declared.notes.Note.{Note}
use Rattle.gl_event.specs.declared.notes.Body.{Body}
use Rattle.gl_event.specs.declared.notes.Body.TheVariants as body
use Rattle.gl_intake.specs.Stream.{is_end, accepted_as}
use Rattle.gl_engine.specs.Collecting.{pulled_of}
use Rattle.gl_engine.specs.declared.pulled.Pulled.TheVariants.{Event, Ended}
use Rattle.gl_c.specs.Pulling.{both, counted}

pub event_counted : (thread place at : ℕ) (b : Body) → Event at ≡ pulled_of (accepted_as place b) → counted (record { thread = thread; place = place; body = b } ∷ []) ≡ record { events = 1; ended = 0 }
event_counted thread place at (body.Happened e) is = refl
event_counted thread place at (body.Ended count) is = (let clash : Event at ≡ Ended count = is in cc)

pub end_counted : (thread place of : ℕ) (b : Body) → Ended of ≡ pulled_of (accepted_as place b) → counted (record { thread = thread; place = place; body = b } ∷ []) ≡ record { events = 0; ended = 1 }
end_counted thread place of (body.Happened e) is = (let clash : Ended of ≡ Event place = is in cc)
end_counted thread place of (body.Ended count) is = refl

abbrev event_weight : Note → ℕ
event_weight note = cond (not (is_end note.body)) 1 0

abbrev end_weight : Note → ℕ
end_weight note = cond (is_end note.body) 1 0

pub counted-append : (xs ys : List Note) → counted (xs ++ ys) ≡ both (counted xs) (counted ys)
counted-append xs ys =
    let events = sum_by-append event_weight xs ys in
    let ended = sum_by-append end_weight xs ys in
    rw (events, ended)

one_weight : (end : Bool) → cond (not end) 1 0 + cond end 1 0 ≡ 1
one_weight true = refl
one_weight false = refl

-- each note is counted once
pub total_counted : (notes : List Note) → (counted notes).events + (counted notes).ended ≡ length notes
total_counted [] = refl
total_counted (note ∷ notes) =
    omega (arith, sum_by-cons event_weight note notes, sum_by-cons end_weight note notes, one_weight (is_end note.body), total_counted notes)
