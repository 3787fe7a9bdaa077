-- What a thread's part keeps, and its turns case by case.
use Rattle.std.proofs.Common.{◌≡◌, ℕ, ◌+◌, Bool, true, false, List, [], ◌∷◌, ◌++◌, length, take, drop, Option, None, Result, Ok, Err, Vec, Global, refl, sym, ap, ◌∙◌, subst, arith, length-append}
use Rattle.std.specs.Prelude.{IfOk, slice_get}
use Rattle.std.specs.List.{filter_map}
use Rattle.std.proofs.lemmas.List.Elements.{filter_map-append}
use Rattle.std.proofs.lemmas.List.{take-append-le, take-append-drop, length_push}
use Rattle.std.proofs.lemmas.Option.{slice_get_within}
use Rattle.gl_event.specs.Bounds.{Bounds, AreWithinRange, greatest}
use Rattle.gl_event.specs.Lawful.{refusal}
use Rattle.gl_event.specs.States.{MayFollow}
use Rattle.gl_event.specs.declared.events.Event.{Event}
use Rattle.gl_event.specs.declared.notes.Note.{Note}
use Rattle.gl_event.specs.declared.notes.Body.{Body}
use Rattle.gl_event.specs.declared.notes.Body.TheVariants.{Happened, Ended as EndMark}
use Rattle.gl_event.proofs.Lawfulness.{allowed_by_greatest}
use Rattle.gl_edges.specs.Edges.{edges_at, edges_after}
use Rattle.gl_edges.specs.Tracking.{Follows}
use Rattle.gl_edges.specs.declared.edge.Edge.{Edge}
use Rattle.gl_edges.specs.declared.edge.Sample.{Sample}
use Rattle.gl_edges.specs.declared.tracker.Tracker.{Tracker}
use Rattle.gl_edges.proofs.Fronts.{edges_at_front}
use Rattle.gl_edges.proofs.Steps.{newest}
use Rattle.gl_recorder.specs.Taking.{Taking, Tracks, event_note, end_note}
use Rattle.gl_intake.specs.Stream.{event_in, events_of, has_ended, FitsAfter}
use Rattle.gl_intake.proofs.Streams.{events_more, events_ended, ended_event, ended_now}
use Rattle.gl_world.specs.Machine.{Lane, rest, has_closed, has_room, taken_of, push_note, take_wish, take_turn, end_turn, edges_due}
use Rattle.gl_world.specs.Keeping.{Keeper, IsKept, IsFrontOf, with_body, MayTake}
use Rattle.gl_world.specs.declared.steps.Did.TheVariants.{Ended}
use Rattle.gl_world.proofs.Lists.{take_more}

pub kept_new : (limits : Bounds) (thread : ℕ) (taker : Taking) (tracker : Tracker) → Tracks limits thread [] taker → Follows thread [] tracker → AreWithinRange limits → IsKept limits thread [] 0 [] false taker tracker
unfolding events_of has_ended
kept_new limits thread taker tracker tracks follows range = record { tracks = tracks; listed = refl; known = refl; within = omega arith; follows = follows; range = range }

module _ (limits : Bounds) (thread : ℕ) (pushed : List Note) (popped : ℕ) (taken : List Event) (closed : Bool) (taker : Taking) (tracker : Tracker)
    (kept : IsKept limits thread pushed popped taken closed taker tracker) where
  -- what was popped stays as it was where a note more is pushed
  follows_still : (note : Note) → Follows thread (events_of thread (take popped (pushed ++ note ∷ []))) tracker
  follows_still note = subst (λ notes. Follows thread (events_of thread notes) tracker) (sym (take-append-le popped pushed (note ∷ []) kept.within)) kept.follows

  -- the recorder may take an event that is lawful next
  pub may_follow : (e : Event) → refusal limits thread (events_of thread pushed) e ≡ None → MayFollow taker.limits taker.thread taker.state e
  may_follow e allowed = record {
    es = events_of thread pushed;
    stands = kept.tracks.stands;
    allowed = rw (kept.tracks.its_limits, kept.tracks.its_thread) allowed;
  }

  -- one event more
  pub kept_event : (e : Event) (note : Note) → note ≡ event_note thread (events_of thread pushed) e → (after : Taking)
      → ((b : Bounds) (t : ℕ) (es : List Event) → Tracks b t es taker → Tracks b t (es ++ e ∷ []) after)
      → IsKept limits thread (pushed ++ note ∷ []) popped (taken ++ e ∷ []) closed after tracker
  kept_event e note is after tracks =
      let es = events_of thread pushed in
      let own : Note = event_note thread es e in
      let more : events_of thread (pushed ++ own ∷ []) ≡ es ++ e ∷ [] = events_more pushed own e refl in
      rw is (record {
        tracks = rw more (tracks limits thread es kept.tracks);
        listed = ap (λ xs. xs ++ e ∷ []) kept.listed ∙ sym more;
        known = kept.known ∙ sym (ended_event pushed own thread e refl);
        within = omega (arith, kept.within, length-append pushed (own ∷ []));
        follows = follows_still own;
        range = kept.range;
      })

  -- an end mark more
  pub kept_end : (count : ℕ) → IsKept limits thread (pushed ++ end_note thread count ∷ []) popped taken true taker tracker
  kept_end count =
      let own : Note = end_note thread count in
      let same : events_of thread (pushed ++ own ∷ []) ≡ events_of thread pushed = events_ended pushed own thread count refl in
      record {
        tracks = rw same kept.tracks;
        listed = kept.listed ∙ sym same;
        known = sym (ended_now pushed own count refl);
        within = omega (arith, kept.within, length-append pushed (own ∷ []));
        follows = follows_still own;
        range = kept.range;
      }

module _ (limits : Bounds) (thread : ℕ) (lane : Lane) where
  pub take_closed : has_closed thread lane ≡ true → take_turn limits thread lane ≡ rest lane
  unfolding take_turn
  take_closed closed = rw closed

  pub take_open : has_closed thread lane ≡ false → (wish : Option Event) → slice_get lane.wishes lane.used ≡ wish → take_turn limits thread lane ≡ take_wish limits thread lane wish
  unfolding take_turn
  take_open running wish is = rw (running, is)

  pub end_closed : has_closed thread lane ≡ true → end_turn limits thread lane ≡ rest lane
  unfolding end_turn
  end_closed closed = rw closed

  pub end_full : has_closed thread lane ≡ false → has_room limits lane ≡ false → end_turn limits thread lane ≡ rest lane
  unfolding end_turn
  end_full running full = rw (running, full)

  pub end_room : has_closed thread lane ≡ false → has_room limits lane ≡ true → end_turn limits thread lane ≡ record { lane = push_note lane (end_note thread (length (taken_of thread lane))); did = Ended }
  unfolding end_turn
  end_room running room = rw (running, room)

-- a part whose end mark joins its lane
pub end_lane : (old now : Keeper) → old ≡ now → has_closed now.thread now.lane ≡ false → has_room now.limits now.lane ≡ true → {note : Note} (pushed : List Note) → pushed ≡ old.lane.pushed ++ note ∷ []
    → note ≡ end_note old.thread (length (events_of old.thread old.lane.pushed))
    → (let left : Keeper = record { thread = old.thread; limits = old.limits; lane = record { wishes = old.lane.wishes; used = old.lane.used; pushed = pushed; popped = old.lane.popped } } in
    let right : Keeper = record { thread = now.thread; limits = now.limits; lane = (end_turn now.limits now.thread now.lane).lane } in
    left ≡ right)
end_lane old now same running free pushed grown is = rw (end_room now.limits now.thread now.lane running free, ← same, grown, is)

-- ---- the next note

-- a list's events are those of its front and those of the rest
pub events_cut : (thread n : ℕ) (notes : List Note) → events_of thread (take n notes) ++ events_of thread (drop n notes) ≡ events_of thread notes
unfolding events_of
events_cut thread n notes = sym (filter_map-append (event_in thread) (take n notes) (drop n notes)) ∙ ap (filter_map (event_in thread)) (take-append-drop n notes)

module _ (limits : Bounds) (thread : ℕ) (lane : Lane) (note : Note) (front : IsFrontOf limits thread lane note) where
  pub events_popped : with_body (events_of thread (take lane.popped lane.pushed)) note.body ≡ events_of thread (take (lane.popped + 1) lane.pushed)
  events_popped = by_body note.body refl
    where
      more : take (lane.popped + 1) lane.pushed ≡ take lane.popped lane.pushed ++ note ∷ []
      more = take_more lane.pushed lane.popped note front.at

      by_body : (body : Body) → note.body ≡ body → with_body (events_of thread (take lane.popped lane.pushed)) body ≡ events_of thread (take (lane.popped + 1) lane.pushed)
      by_body (Happened e) is =
          sym (ap (events_of thread) more
          ∙ subst (λ (t : ℕ). events_of t (take lane.popped lane.pushed ++ note ∷ []) ≡ events_of t (take lane.popped lane.pushed) ++ e ∷ []) front.own (events_more (take lane.popped lane.pushed) note e is))
      by_body (EndMark count) is = sym (ap (events_of thread) more ∙ events_ended (take lane.popped lane.pushed) note thread count is)

  -- what the thread took goes on with the event of the note
  pub taken_goes_on : (e : Event) → note.body ≡ Happened e → (rest : List Event) × (events_of thread lane.pushed ≡ (events_of thread (take lane.popped lane.pushed) ++ e ∷ []) ++ rest)
  taken_goes_on e is = (
    events_of thread (drop (lane.popped + 1) lane.pushed),
    sym (events_cut thread (lane.popped + 1) lane.pushed)
        ∙ ap (λ es. es ++ events_of thread (drop (lane.popped + 1) lane.pushed)) (sym events_popped ∙ ap (with_body (events_of thread (take lane.popped lane.pushed))) is),
  )

  -- the note's place
  pub place_is : note.place ≡ length (events_of thread (take lane.popped lane.pushed))
  place_is = front.next.in_place ∙ ap (λ t. length (events_of t (take lane.popped lane.pushed))) front.own

  -- the edges of the note are those of its event after the events of the notes popped before
  pub due_are : (e : Event) → note.body ≡ Happened e → edges_at thread (taken_of thread lane) note.place ≡ edges_after thread (events_of thread (take lane.popped lane.pushed)) e
  due_are e is =
      let (rest, goes_on) = taken_goes_on e is in
      (λ i. edges_at thread (goes_on i) (place_is i))
      ∙ edges_at_front thread (events_of thread (take lane.popped lane.pushed) ++ e ∷ []) rest (length (events_of thread (take lane.popped lane.pushed))) (omega (arith, length_push (events_of thread (take lane.popped lane.pushed)) e))
      ∙ newest thread (events_of thread (take lane.popped lane.pushed)) e

  pub due_if : {E : Type 0} (e : Event) → note.body ≡ Happened e → (result : Result (Vec (Edge × Sample) Global) E) → IfOk result (λ edges. edges.items ≡ edges_after thread (events_of thread (take lane.popped lane.pushed)) e)
      → IfOk result (λ edges. edges.items ≡ edges_due thread (taken_of thread lane) note.place note.body)
  due_if e is (Ok edges) made = made ∙ sym (due_are e is) ∙ ap (edges_due thread (taken_of thread lane) note.place) (sym is)
  due_if e is (Err why) made = tt

  -- the part with the note popped
  pub kept_popped : (taken : List Event) (closed : Bool) (taker : Taking) (tracker after : Tracker) → IsKept limits thread lane.pushed lane.popped taken closed taker tracker
      → ((t : ℕ) (es : List Event) → Follows t es tracker → Follows t (with_body es note.body) after) → IsKept limits thread lane.pushed (lane.popped + 1) taken closed taker after
  kept_popped taken closed taker tracker after kept follows = record {
    tracks = kept.tracks;
    listed = kept.listed;
    known = kept.known;
    within = (let w = slice_get_within lane.pushed lane.popped note front.at in omega arith);
    follows = subst (λ es. Follows thread es after) events_popped (follows thread (events_of thread (take lane.popped lane.pushed)) kept.follows);
    range = kept.range;
  }

  -- the tracker may take it
  pub may_take : (tracker : Tracker) → Follows thread (events_of thread (take lane.popped lane.pushed)) tracker → AreWithinRange limits → MayTake tracker note.body
  may_take tracker follows range = by_body note.body refl
    where
      by_body : (body : Body) → note.body ≡ body → MayTake tracker body
      by_body (Happened e) is =
          let fits = subst (λ b. FitsAfter limits note.thread (events_of note.thread (take lane.popped lane.pushed)) b) is front.next.fits in
          let here : refusal limits thread (events_of thread (take lane.popped lane.pushed)) e ≡ None = subst (λ t. refusal limits t (events_of t (take lane.popped lane.pushed)) e ≡ None) front.own fits in
          record {
            es = events_of thread (take lane.popped lane.pushed);
            stands = follows.stands;
            allowed = subst (λ t. refusal greatest t (events_of thread (take lane.popped lane.pushed)) e ≡ None) (sym follows.of_thread) (allowed_by_greatest limits thread _ e range here);
          }
      by_body (EndMark count) is = tt
