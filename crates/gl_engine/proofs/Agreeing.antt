-- Running calls and the machine's steps agree.
use Rattle.std.proofs.Common.{◌≡◌, ℕ, true, false, List, [], ◌∷◌, ◌++◌, length, take, Option, Some, None, refl, sym, ap, ◌∙◌, subst}
use Rattle.std.specs.Prelude.{slice_get}
use Rattle.std.proofs.Math.Seq.{take-append_seam}
use Rattle.gl_event.specs.Bounds.{Bounds}
use Rattle.gl_event.specs.Lawful.{refusal}
use Rattle.gl_event.specs.declared.events.Event.{Event}
use Rattle.gl_event.specs.declared.events.Refusal.{Refusal}
use Rattle.gl_event.specs.declared.notes.Note.{Note}
use Rattle.gl_event.specs.declared.notes.Body.{Body}
use Rattle.gl_event.specs.declared.notes.Body.TheVariants.{Happened, Ended as EndMark}
use Rattle.gl_edges.specs.Edges.{edges_after}
use Rattle.gl_recorder.specs.Taking.{event_note, end_note}
use Rattle.gl_intake.specs.Stream.{events_of, IsNext}
use Rattle.gl_world.specs.Machine.{Lane, State, Turn, rest, has_closed, has_room, use_wish, take_turn, take_judged, end_turn, taken_of, edges_due, step}
use Rattle.gl_world.specs.Machine as machine
use Rattle.gl_world.specs.Keeping.{IsLaneOf}
use Rattle.gl_world.specs.declared.steps.Step.TheVariants.{Pull}
use Rattle.gl_world.specs.declared.steps.Did.TheVariants.{Taken}
use Rattle.gl_world.proofs.ThreadParts.{take_open, end_room, end_full, due_are}
use Rattle.gl_world.proofs.Sound.{front_is_next, front_of, told_events}
use Rattle.gl_world.proofs.Worlds.{pull_known}
use Rattle.gl_engine.specs.Collecting.{Collecting, as_of}
use Rattle.gl_engine.specs.Recording.{Recording, recorded}
use Rattle.gl_engine.specs.Steps.{Wishes, Offers, RecordIsTake, CloseIsEnd, PullIsPull}
use Rattle.gl_engine.proofs.Sides.{whole_lane, is_front}

module _ (r : Recording) (lane : Lane) (event : Event) (w : Wishes r lane event) where
  judged : (why : Option Refusal) → refusal r.limits r.thread (recorded r) event ≡ why → take_turn r.limits r.thread lane ≡ take_judged r.limits r.thread lane event why
  judged why is =
      take_open r.limits r.thread lane w.running (Some event) w.wish
      ∙ ap (take_judged r.limits r.thread lane event) (ap (λ notes. refusal r.limits r.thread (events_of r.thread notes) event) w.pushed ∙ is)

  with_room : has_room r.limits lane ≡ true
      → (let turn : Turn = record { lane = machine.push_note (use_wish lane) (event_note r.thread (taken_of r.thread lane) event); did = Taken (length (taken_of r.thread lane)) } in
      take_judged r.limits r.thread lane event None ≡ turn)
  with_room room = rw room

  without_room : has_room r.limits lane ≡ false → take_judged r.limits r.thread lane event None ≡ rest lane
  without_room room = rw room

pub record_is_take : RecordIsTake
record_is_take = record {
  taken = λ r lane event room w lawful free.
      (let is = judged r lane event w None lawful ∙ with_room r lane event w free in (
        ap (λ (t : Turn). t.did) is ∙ ap (λ notes. Taken (length (events_of r.thread notes))) w.pushed,
        ap (λ (t : Turn). t.lane.pushed) is ∙ ap (λ notes. notes ++ event_note r.thread (events_of r.thread notes) event ∷ []) w.pushed,
      ));
  refused = λ r lane event why w unlawful.
      (let is = judged r lane event w (Some why) unlawful in
      (ap (λ (t : Turn). t.did) is, ap (λ (t : Turn). t.lane.pushed) is ∙ w.pushed));
  full = λ r lane event w lawful full. judged r lane event w None lawful ∙ without_room r lane event w full;
}

pub close_is_end : CloseIsEnd
close_is_end = record {
  closed = λ r lane pushed running room.
      (let is = end_room r.limits r.thread lane running room in
      (ap (λ (t : Turn). t.did) is, ap (λ (t : Turn). t.lane.pushed) is ∙ ap (λ notes. notes ++ end_note r.thread (length (events_of r.thread notes)) ∷ []) pushed));
  full = λ r lane pushed running full. end_full r.limits r.thread lane running full;
}

-- the edges of a lane's next note are those that it makes at the end of the stream
same_due : (limits : Bounds) (stream : List Note) (note : Note) (lane : Lane) → IsLaneOf limits note.thread stream lane → slice_get lane.pushed lane.popped ≡ Some note
    → edges_due note.thread (taken_of note.thread lane) note.place note.body ≡ edges_due note.thread (events_of note.thread (stream ++ note ∷ [])) note.place note.body
same_due limits stream note lane is at = by_body note.body refl
  where
    next : IsNext limits stream note
    next = front_is_next limits note.thread stream lane is lane.popped note at refl

    before : events_of note.thread (take lane.popped lane.pushed) ≡ events_of note.thread (take (length stream) (stream ++ note ∷ []))
    before = told_events limits note.thread stream lane is ∙ sym (ap (events_of note.thread) (take-append_seam stream (note ∷ [])))

    by_body : (body : Body) → note.body ≡ body → edges_due note.thread (taken_of note.thread lane) note.place body ≡ edges_due note.thread (events_of note.thread (stream ++ note ∷ [])) note.place body
    by_body (Happened e) told =
        due_are limits note.thread lane note (front_of limits note.thread stream lane is note at) e told
        ∙ ap (λ es. edges_after note.thread es e) before
        ∙ sym (due_are limits note.thread (whole_lane stream note) note (is_front limits stream note next) e told)
    by_body (EndMark count) told = refl

module _ (c : Collecting) (s : State) (thread : ℕ) (lane : Lane) (note : Note) (o : Offers c s thread lane note) where
  its : IsLaneOf s.limits thread s.stream lane
  its = o.sound.lanes thread lane o.its_lane

  own : note.thread ≡ thread
  own = its.own lane.popped note o.next

  as_own : as_of thread note ≡ note
  as_own = λ i. record { thread = (sym own) i; place = note.place; body = note.body }

  pulls : step s (Pull thread) ≡ machine.pull_note s thread lane (Some note)
  pulls = pull_known s thread lane o.its_lane (Some note) o.next

  grown : s.stream ++ note ∷ [] ≡ c.stream ++ as_of thread note ∷ []
  grown = λ i. o.stream i ++ (sym as_own) i ∷ []

  due : edges_due thread (taken_of thread lane) note.place note.body ≡ edges_due thread (events_of thread (c.stream ++ as_of thread note ∷ [])) note.place note.body
  due =
      subst (λ t. edges_due t (taken_of t lane) note.place note.body ≡ edges_due t (events_of t (s.stream ++ note ∷ [])) note.place note.body) own
      (same_due s.limits s.stream note lane (subst (λ t. IsLaneOf s.limits t s.stream lane) (sym own) its) o.next)
      ∙ ap (λ notes. edges_due thread (events_of thread notes) note.place note.body) grown

  made : s.dispatch.made ++ edges_due thread (taken_of thread lane) note.place note.body ≡ c.made ++ edges_due thread (events_of thread (c.stream ++ as_of thread note ∷ [])) note.place note.body
  made = λ i. o.made i ++ due i

  is_next : IsNext c.limits c.stream (as_of thread note)
  is_next = subst (IsNext c.limits c.stream) (sym as_own) (subst (λ notes. IsNext c.limits notes note) o.stream (subst (λ b. IsNext b s.stream note) o.limits (front_is_next s.limits thread s.stream lane its lane.popped note o.next refl)))

pub pull_is_pull : PullIsPull
pull_is_pull = record {
  did = λ c s thread lane note o. ap (λ (m : machine.Moved). m.did) (pulls c s thread lane note o);
  stream = λ c s thread input lane note o. ap (λ (m : machine.Moved). m.after.stream) (pulls c s thread lane note o) ∙ grown c s thread lane note o;
  made = λ c s thread input lane note o. ap (λ (m : machine.Moved). m.after.dispatch.made) (pulls c s thread lane note o) ∙ made c s thread lane note o;
  next = is_next;
}
