-- What a recorder keeps, note by note.
use Rattle.std.proofs.Common.{◌≡◌, ℕ, suc, eqb, true, false, ◌<◌, List, [], ◌∷◌, ◌++◌, length, Option, Some, None, Ok, Err, refl, sym, ap, ◌∙◌, arith}
use Rattle.std.specs.Prelude.{slice_get}
use Rattle.std.specs.Option.{option_map_or}
use Rattle.std.proofs.lemmas.Bool.{eq-eqb, false≢true}
use Rattle.gl_event.specs.Bounds.{Bounds}
use Rattle.gl_event.specs.Lawful.{refusal}
use Rattle.gl_event.specs.declared.events.Event.{Event}
use Rattle.gl_event.specs.declared.events.Refusal.{Refusal}
use Rattle.gl_event.specs.declared.notes.Body.{Body}
use Rattle.gl_event.specs.declared.notes.Body.TheVariants.{Happened, Ended}
use Rattle.gl_event.specs.declared.notes.Note.{Note}
use Rattle.gl_event.specs.States.{MayFollow}
use Rattle.gl_lane.specs.OwnLanes.{OwnLaneId}
use Rattle.gl_lane.specs.OwnLanes.{ComesAfter}
use Rattle.gl_recorder.specs.Taking.{Taking, Tracks, event_note, end_note}
use Rattle.gl_intake.specs.Stream.{events_of, has_ended, IsNext}
use Rattle.gl_intake.proofs.Order.{AreInOrder-nil}
use Rattle.gl_intake.proofs.Streams.{events_more, events_ended, ended_event, ended_now}
use Rattle.gl_world.specs.Machine.{Lane}
use Rattle.gl_world.specs.Keeping.{notes_of, IsLaneOf}
use Rattle.gl_world.proofs.Sound.{lane_pushed}
use Rattle.gl_engine.specs.Keeping.{AreNotesOf, IsRecorder, IsReceipt}

pub notes_nil : (limits : Bounds) (thread : ℕ) → AreNotesOf limits thread []
notes_nil limits thread = record { own = λ place note at. cc; in_order = AreInOrder-nil limits }

pub notes_push : (limits : Bounds) (thread : ℕ) (notes : List Note) → AreNotesOf limits thread notes → (note : Note) → note.thread ≡ thread → IsNext limits notes note → AreNotesOf limits thread (notes ++ note ∷ [])
unfolding notes_of
notes_push limits thread notes are note own next =
    let lane : Lane = record { wishes = []; used = 0; pushed = notes; popped = 0 } in
    let is : IsLaneOf limits thread [] lane = record { own = are.own; in_order = are.in_order; within = omega arith; told = refl } in
    let more = lane_pushed limits thread [] lane is note own next 0 in
    record { own = more.own; in_order = more.in_order }

-- a recorder that has taken nothing
pub recorder_new : (limits : Bounds) (thread : ℕ) (lane : OwnLaneId) (taker : Taking) → thread < limits.threads → lane.thread ≡ thread → Tracks limits thread [] taker → IsRecorder limits thread lane [] taker
unfolding events_of has_ended
recorder_new limits thread lane taker known whose tracks = record { known = known; whose = whose; tracks = tracks; notes = notes_nil limits thread; running = refl }

-- where each note is the thread's own and none is its end mark, there are as many as events
pub as_many : (thread : ℕ) (notes : List Note) → ((place : ℕ) (note : Note) → slice_get notes place ≡ Some note → note.thread ≡ thread) → has_ended thread notes ≡ false
    → length (events_of thread notes) ≡ length notes
unfolding events_of has_ended
as_many thread [] own running = refl
as_many thread (note ∷ notes) own running =
    by note.body refl (λ running. as_many thread notes (λ place other at. own (suc place) other at) running)
  where
    own_note : eqb note.thread thread ≡ true
    own_note = eq-eqb note.thread thread (own 0 note refl)

    by : (body : Body) → note.body ≡ body → (has_ended thread notes ≡ false → length (events_of thread notes) ≡ length notes) → length (events_of thread (note ∷ notes)) ≡ length (note ∷ notes)
    by (Happened e) is rest = rw (own_note, is) (omega (arith, rest (rw (own_note, is) at running)))
    by (Ended count) is rest = absurd (false≢true (sym (rw (own_note, is) at running)))

-- an event that was answered by a note had no refusal, and the note is its own
pub answered : (refused : Option Refusal) (own note : Note) → Ok note ≡ option_map_or Err refused (Ok own) → (refused ≡ None) × (note ≡ own)
answered (Some why) own note is = absurd (cc)
answered None own note is = (refl, cc)

module _ (limits : Bounds) (thread : ℕ) (lane : OwnLaneId) (pushed : List Note) (taker : Taking) (is : IsRecorder limits thread lane pushed taker) where
  many : length (events_of thread pushed) ≡ length pushed
  many = as_many thread pushed is.notes.own is.running

  -- the note of an event comes next in the lane
  pub event_comes : (e : Event) → ComesAfter lane pushed (event_note thread (events_of thread pushed) e)
  event_comes e = record { own = sym is.whose; in_place = many; placed = λ count at. absurd cc }

  -- and so does the end mark
  pub end_comes : ComesAfter lane pushed (end_note thread (length (events_of thread pushed)))
  end_comes = record { own = sym is.whose; in_place = many; placed = λ count at. cc }

  -- the recorder's half may take what is lawful next
  pub may_follow : (e : Event) → refusal limits thread (events_of thread pushed) e ≡ None → MayFollow taker.limits taker.thread taker.state e
  may_follow e allowed = record {
    es = events_of thread pushed;
    stands = is.tracks.stands;
    allowed = rw (is.tracks.its_limits, is.tracks.its_thread) allowed;
  }

  -- one event more
  pub recorder_more : (e : Event) → refusal limits thread (events_of thread pushed) e ≡ None → (after : Taking) → Tracks limits thread (events_of thread pushed ++ e ∷ []) after
      → IsRecorder limits thread lane (pushed ++ event_note thread (events_of thread pushed) e ∷ []) after
  recorder_more e allowed after tracks =
      let note : Note = event_note thread (events_of thread pushed) e in
      let next : IsNext limits pushed note = record { known = is.known; running = is.running; in_place = refl; fits = allowed } in
      record {
        known = is.known;
        whose = is.whose;
        tracks = rw (events_more pushed note e refl) tracks;
        notes = notes_push limits thread pushed is.notes note refl next;
        running = ended_event pushed note thread e refl ∙ is.running;
      }

  -- the end mark
  pub receipt_of : IsReceipt limits thread (pushed ++ end_note thread (length (events_of thread pushed)) ∷ []) (length (events_of thread pushed))
  receipt_of =
      let count = length (events_of thread pushed) in
      let note : Note = end_note thread count in
      let next : IsNext limits pushed note = record { known = is.known; running = is.running; in_place = refl; fits = refl } in
      record {
        notes = notes_push limits thread pushed is.notes note refl next;
        ended = ended_now pushed note count refl;
        counted = ap length (sym (events_ended pushed note thread count refl));
      }
