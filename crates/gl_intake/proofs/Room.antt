-- The room for notes: of a thread as much as the stream and the thread's log both have.
use Rattle.std.proofs.Common.{◌≡◌, ℕ, ◌<◌, ◌≤◌, min, List, length, get_or, set, Vec, Global, Result, Ok, Err, sym, ap, ◌∙◌, arith, inl, inr}
use Rattle.std.specs.Prelude.{OnOk}
use Rattle.std.specs.Vec.{vec_len, vec_capacity}
use Rattle.std.proofs.lemmas.Bool.{cases_lt}
use Rattle.std.proofs.lemmas.List.{get_or-map, get_or-set_same, get_or_past, length-map, length-set}
use Rattle.gl_event.specs.declared.events.Event.{Event}
use Rattle.gl_event.specs.declared.notes.Note.{Note}
use Rattle.gl_intake.specs.Keeping.{unused, spares}
use Rattle.gl_intake.proofs.Streams.{some_item}

-- the least of two numbers is above 0 where both are
least_some : (a b : ℕ) → 1 ≤ a → 1 ≤ b → 1 ≤ min a b
least_some a b first second = omega arith

both_some : (a b : ℕ) → 1 ≤ min a b → (1 ≤ a) × (1 ≤ b)
both_some a b least = (omega arith, omega arith)

module _ (stream : Vec Note Global) (logs : List (Vec Event Global)) (at : ℕ) (log : Vec Event Global) (within : at < length logs) where
  spare_at : log ≡ get_or logs at log → get_or (spares stream logs) at 0 ≡ min (unused stream) (unused log)
  spare_at here = get_or-map (λ (v : Vec Event Global). min (unused stream) (unused v)) logs at log 0 within ∙ ap (λ (v : Vec Event Global). min (unused stream) (unused v)) (sym here)

  -- a thread that has room has it in the log and in the stream
  pub has_room : log ≡ get_or logs at log → 1 ≤ get_or (spares stream logs) at 0 → (vec_len stream < vec_capacity stream) × (vec_len log < vec_capacity log)
  has_room here some =
      let (first, second) = both_some (unused stream) (unused log) (rw (spare_at here) at some) in
      (omega arith, omega arith)

-- a thread that has room is a known one
pub known_by_room : (stream : Vec Note Global) (logs : List (Vec Event Global)) (at : ℕ) → 1 ≤ get_or (spares stream logs) at 0 → at < length logs
known_by_room stream logs at some =
    elim (cases_lt at (length logs)) [
      | inl within ↦ within
      | inr past ↦
          let long : length (spares stream logs) ≡ length logs = length-map logs (λ (v : Vec Event Global). min (unused stream) (unused v)) in
          let none = get_or_past (spares stream logs) at 0 (omega (arith, long)) in
          absurd (omega (arith, some, none))
    ]

-- and so in the stream, whatever the log
pub stream_room : (stream : Vec Note Global) (logs : List (Vec Event Global)) (at : ℕ) → at < length logs → 1 ≤ get_or (spares stream logs) at 0 → vec_len stream < vec_capacity stream
stream_room stream logs at within some =
    let d = some_item logs at within in
    let here = get_or-map (λ (v : Vec Event Global). min (unused stream) (unused v)) logs at d 0 within in
    let (first, second) = both_some (unused stream) (unused (get_or logs at d)) (rw here at some) in
    omega arith

-- what holds of an answer that is Ok follows from two other facts of it
pub ok_both : {X E : Type 0} (r : Result X E) (A B C : Type 0) → OnOk r A → OnOk r B → (A → B → C) → OnOk r C
ok_both (Ok x) A B C a b f = f a b
ok_both (Err e) A B C a b f = tt

-- a log and a stream with room give their thread room
pub room_made : (stream : Vec Note Global) (logs : List (Vec Event Global)) (at : ℕ) (log : Vec Event Global) → at < length logs
    → vec_len stream < vec_capacity stream → vec_len log < vec_capacity log → 1 ≤ get_or (spares stream (set logs at log)) at 0
room_made stream logs at log within first second =
    let inside : at < length (set logs at log) = rw (length-set logs at log) within in
    rw (spare_at stream (set logs at log) at log inside (sym (get_or-set_same logs at log log within))) (least_some (unused stream) (unused log) (omega arith) (omega arith))
