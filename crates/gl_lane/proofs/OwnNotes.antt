-- The notes that bodies stand for.
use Rattle.std.proofs.Common.{◌≡◌, ◌+◌, ◌<◌, ◌^◌, ◌++◌, ◌∷◌, [], ℕ, List, length, refl, sym, ap, ◌∙◌, arith}
use mathlib.Core.List.{IsPrefix, cons≢nil}
use Rattle.gl_event.specs.declared.notes.Body.{Body}
use Rattle.gl_event.specs.declared.notes.Note.{Note}
use Rattle.gl_lane.specs.OwnLanes.{OwnLaneId}
use Rattle.gl_lane.specs.OwnLanes.{ComesAfter}
use Rattle.gl_lane.specs.bodies.OwnRuns.{notes_after, MayCome}

-- there are as many
pub length_notes : (thread place : ℕ) (bodies : List Body) → length (notes_after thread place bodies) ≡ length bodies
unfolding notes_after
length_notes thread place [] = refl
length_notes thread place (body ∷ bodies) = omega (arith, length_notes thread (place + 1) bodies)

-- those of bodies behind others are placed behind these
pub notes_append : (thread place : ℕ) (first last : List Body) → notes_after thread place (first ++ last) ≡ notes_after thread place first ++ notes_after thread (place + length first) last
unfolding notes_after
notes_append thread place [] last = ap (λ n. notes_after thread n last) (omega arith)
notes_append thread place (body ∷ first) last =
    let note : Note = record { thread = thread; place = place; body = body } in
    ap (λ notes. note ∷ notes)
    (notes_append thread (place + 1) first last
    ∙ ap (λ n. notes_after thread (place + 1) first ++ notes_after thread n last) (omega arith))

-- the same, where so many come before
pub notes_behind : (thread : ℕ) (first last : List Body) (place : ℕ) → place ≡ length first → notes_after thread 0 (first ++ last) ≡ notes_after thread 0 first ++ notes_after thread place last
notes_behind thread first last place many = notes_append thread 0 first last ∙ ap (λ n. notes_after thread 0 first ++ notes_after thread n last) (omega (arith, many))

-- where more bodies are seen, more notes are
pub notes_prefix : (thread place : ℕ) (xs ys : List Body) → IsPrefix xs ys → IsPrefix (notes_after thread place xs) (notes_after thread place ys)
notes_prefix thread place xs ys more =
    (notes_after thread (place + length xs) more.0, sym (notes_append thread place xs more.0) ∙ ap (notes_after thread place) more.1)

-- no bodies are no notes, and only these
pub no_bodies : (thread place : ℕ) (bodies : List Body) → notes_after thread place bodies ≡ [] → bodies ≡ []
unfolding notes_after
no_bodies thread place [] none = refl
no_bodies thread place (body ∷ bodies) none = absurd (cons≢nil none)

-- the note that comes next stands for its body
pub notes_next : (lane : OwnLaneId) (bodies : List Body) (note : Note) → ComesAfter lane (notes_after lane.thread 0 bodies) note
    → notes_after lane.thread 0 (bodies ++ note.body ∷ []) ≡ notes_after lane.thread 0 bodies ++ note ∷ []
unfolding notes_after
notes_next lane bodies note next =
    let many : note.place ≡ length bodies = next.in_place ∙ length_notes lane.thread 0 bodies in
    notes_behind lane.thread bodies (note.body ∷ []) note.place many
    ∙ ap (λ (thread : ℕ). notes_after lane.thread 0 bodies ++ record { thread = thread; place = note.place; body = note.body } ∷ []) (sym next.own)

-- and its body may come
pub may_come : (lane : OwnLaneId) (bodies : List Body) (note : Note) → note.place < 2 ^ 32 → ComesAfter lane (notes_after lane.thread 0 bodies) note → MayCome bodies note.body
may_come lane bodies note small next = record {
  fits = omega (arith, small, next.in_place, length_notes lane.thread 0 bodies);
  counted = λ count is. omega (arith, next.in_place, length_notes lane.thread 0 bodies, next.placed count is);
}

-- the note of a body that may come comes next
pub comes_after : (lane : OwnLaneId) (bodies : List Body) (place : ℕ) (body : Body) → place ≡ length bodies → MayCome bodies body
    → ComesAfter lane (notes_after lane.thread 0 bodies) (record { thread = lane.thread; place = place; body = body })
comes_after lane bodies place body many may = record {
  own = refl;
  in_place = many ∙ sym (length_notes lane.thread 0 bodies);
  placed = λ count is. many ∙ may.counted count is;
}
