-- What holds of a new world's state, and is kept by each step.
use Rattle.std.proofs.Common.{◌≡◌, ◌≢◌, ℕ, zero, suc, ◌<◌, Bool, true, false, ◌&&◌, ◌||◌, eqb, List, [], ◌∷◌, ◌++◌, length, map, take, set, Option, Some, None, refl, sym, ap, ◌∙◌, arith, inl, inr, subst}
use Rattle.std.specs.Prelude.{slice_get}
use Rattle.std.specs.List.{filter, filter_map, list_any, cons_option}
use Rattle.std.proofs.lemmas.Bool.{cases_eq, eq-eqb, ne_eqb}
use Rattle.std.proofs.lemmas.List.{length-set, take-append-le, length_push, append-nil, length-map}
use Rattle.std.proofs.lemmas.List.Elements.{filter-append}
use Rattle.std.proofs.lemmas.Option.{slice_get_within}
use Rattle.gl_event.specs.Bounds.{Bounds}
use Rattle.gl_event.specs.declared.events.Event.{Event}
use Rattle.gl_event.specs.declared.notes.Note.{Note}
use Rattle.gl_event.specs.declared.notes.Body.{Body}
use Rattle.gl_event.specs.declared.notes.Body.TheVariants.{Happened, Ended}
use Rattle.gl_event.proofs.Depths.{slice_get_before, slice_get_last}
use Rattle.gl_intake.specs.Stream.{event_in, is_end, events_of, has_ended, IsNext, note_refusal}
use Rattle.gl_intake.proofs.Order.{AreInOrder-nil, AreInOrder-push}
use Rattle.gl_intake.proofs.Next.{next_of_none}
use Rattle.gl_world.specs.Machine.{Lane, State, fresh_lane, start, pop_note, edges_due, add_edges, taken_of}
use Rattle.gl_world.specs.Dispatch.{Dispatch}
use Rattle.gl_world.specs.Keeping.{notes_of, IsLaneOf, IsFrontOf, IsSound, AreMade, AreShipped}
use Rattle.gl_world.proofs.Lists.{same_some, get_set_same, get_set_other, get_of_take, length-take, place_cases, take_more}
use Rattle.gl_world.proofs.Makings.{made_pulled, made_nothing}
use Rattle.gl_world.proofs.Shippings.{shipped_added, shipped_nothing}

-- ---- the notes of one thread

pub notes_own : (notes : List Note) (note : Note) → notes_of note.thread (notes ++ note ∷ []) ≡ notes_of note.thread notes ++ note ∷ []
unfolding notes_of
notes_own notes note = filter-append (λ n. eqb n.thread note.thread) notes (note ∷ []) ∙ rw (eq-eqb note.thread note.thread refl)

pub notes_other : (notes : List Note) (note : Note) (thread : ℕ) → note.thread ≢ thread → notes_of thread (notes ++ note ∷ []) ≡ notes_of thread notes
unfolding notes_of
notes_other notes note thread other = filter-append (λ n. eqb n.thread thread) notes (note ∷ []) ∙ rw (ne_eqb note.thread thread other, append-nil)

-- a thread's events are those of its own notes alone
pub events_of_notes : (thread : ℕ) (notes : List Note) → events_of thread (notes_of thread notes) ≡ events_of thread notes
unfolding notes_of events_of
events_of_notes thread [] = refl
events_of_notes thread (n ∷ notes) =
    let own : Note → Bool = λ m. eqb m.thread thread in
    let h : Note → Option Event = event_in thread in
    let rest : filter_map h (filter own notes) ≡ filter_map h notes = events_of_notes thread notes in
    elim (cases_eq n.thread thread) [
      | inl same ↦
          let e : eqb n.thread thread ≡ true = eq-eqb n.thread thread same in
          let kept : filter own (n ∷ notes) ≡ n ∷ filter own notes = rw e in
          ap (filter_map h) kept ∙ ap (cons_option (h n)) rest
      | inr other ↦
          let e : eqb n.thread thread ≡ false = ne_eqb n.thread thread other in
          let left_out : filter own (n ∷ notes) ≡ filter own notes = rw e in
          let nothing : filter_map h notes ≡ cons_option (h n) (filter_map h notes) = rw e in
          ap (filter_map h) left_out ∙ rest ∙ nothing
    ]

pub ended_of_notes : (thread : ℕ) (notes : List Note) → has_ended thread (notes_of thread notes) ≡ has_ended thread notes
unfolding notes_of has_ended
ended_of_notes thread [] = refl
ended_of_notes thread (n ∷ notes) =
    let own : Note → Bool = λ m. eqb m.thread thread in
    let q : Note → Bool = λ m. eqb m.thread thread && is_end m.body in
    let rest : list_any q (filter own notes) ≡ list_any q notes = ended_of_notes thread notes in
    elim (cases_eq n.thread thread) [
      | inl same ↦
          let e : eqb n.thread thread ≡ true = eq-eqb n.thread thread same in
          let kept : filter own (n ∷ notes) ≡ n ∷ filter own notes = rw e in
          ap (list_any q) kept ∙ ap (λ b. q n || b) rest
      | inr other ↦
          let e : eqb n.thread thread ≡ false = ne_eqb n.thread thread other in
          let left_out : filter own (n ∷ notes) ≡ filter own notes = rw e in
          let nothing : list_any q notes ≡ (q n || list_any q notes) = rw e in
          ap (list_any q) left_out ∙ rest ∙ nothing
    ]

-- each of these notes is of the thread
abbrev pub AreOwn : ℕ → List Note → Type 0
AreOwn thread notes = (place : ℕ) (note : Note) → slice_get notes place ≡ Some note → note.thread ≡ thread

is_event : (b : Body) → is_end b ≡ false → (e : Event) × (b ≡ Happened e)
is_event (Happened e) h = (e, refl)
is_event (Ended count) h = absurd (cc)

neither_is : (a b : Bool) → (a || b) ≡ false → (a ≡ false) × (b ≡ false)
neither_is true b h = absurd (cc)
neither_is false b h = (refl, h)

-- where no end mark is among a thread's notes, there are as many events as notes
pub all_events : (thread : ℕ) (notes : List Note) → AreOwn thread notes → has_ended thread notes ≡ false → length (events_of thread notes) ≡ length notes
unfolding events_of has_ended
all_events thread [] own running = refl
all_events thread (n ∷ notes) own running =
    let e : eqb n.thread thread ≡ true = eq-eqb n.thread thread (own 0 n refl) in
    let both = neither_is (eqb n.thread thread && is_end n.body) _ running in
    let not_end : is_end n.body ≡ false = rw e at both.0 in
    let told = is_event n.body not_end in
    let rest : length (events_of thread notes) ≡ length notes = all_events thread notes (λ place note at. own (suc place) note at) both.1 in
    rw (e, told.1, rest)

AreOwn-take : (thread : ℕ) (notes : List Note) (n : ℕ) → AreOwn thread notes → AreOwn thread (take n notes)
AreOwn-take thread notes n own place note at = own place note (get_of_take notes n place note at)

-- ---- a note more of a thread's own

AreOwn-push : (thread : ℕ) (notes : List Note) (note : Note) → AreOwn thread notes → note.thread ≡ thread → AreOwn thread (notes ++ note ∷ [])
AreOwn-push thread notes note own is place other at =
    elim (place_cases (length notes) place (let within = slice_get_within _ place other at in omega (arith, length_push notes note))) [
      | inl below ↦ own place other (sym (slice_get_before notes (note ∷ []) place below) ∙ at)
      | inr is_last ↦
          let this : other ≡ note = same_some other note (sym at ∙ ap (slice_get (notes ++ note ∷ [])) is_last ∙ slice_get_last notes note) in
          rw this is
    ]

-- a lane with its next note pushed
pub lane_pushed : (limits : Bounds) (thread : ℕ) (stream : List Note) (lane : Lane) → IsLaneOf limits thread stream lane → (note : Note) → note.thread ≡ thread → IsNext limits lane.pushed note
    → (used : ℕ) → IsLaneOf limits thread stream (record { wishes = lane.wishes; used = used; pushed = lane.pushed ++ note ∷ []; popped = lane.popped })
lane_pushed limits thread stream lane is note own next used = record {
  own = AreOwn-push thread lane.pushed note is.own own;
  in_order = AreInOrder-push limits lane.pushed note is.in_order next;
  within = omega (arith, is.within, length_push lane.pushed note);
  told = is.told ∙ sym (take-append-le lane.popped lane.pushed (note ∷ []) is.within);
}

-- the next note to be popped is next in the stream
pub front_is_next : (limits : Bounds) (thread : ℕ) (stream : List Note) (lane : Lane) → IsLaneOf limits thread stream lane → (place : ℕ) (note : Note) → slice_get lane.pushed place ≡ Some note
    → place ≡ lane.popped → IsNext limits stream note
front_is_next limits thread stream lane is place note at front =
    let own : note.thread ≡ thread = is.own place note at in
    let next : IsNext limits (take place lane.pushed) note = is.in_order.each place note at in
    let told : take place lane.pushed ≡ notes_of thread stream = rw front (sym is.told) in
    let events : events_of note.thread (take place lane.pushed) ≡ events_of note.thread stream = rw (told, own) (events_of_notes thread stream) in
    let ended : has_ended note.thread (take place lane.pushed) ≡ has_ended note.thread stream = rw (told, own) (ended_of_notes thread stream) in
    record {
      known = next.known;
      running = sym ended ∙ next.running;
      in_place = next.in_place ∙ ap length events;
      fits = rw events at next.fits;
    }

-- what was popped is what was collected
pub told_events : (limits : Bounds) (thread : ℕ) (stream : List Note) (lane : Lane) → IsLaneOf limits thread stream lane → events_of thread (take lane.popped lane.pushed) ≡ events_of thread stream
told_events limits thread stream lane is = ap (events_of thread) (sym is.told) ∙ events_of_notes thread stream

-- the next note to be popped is its thread's next one after those popped before
pub front_of : (limits : Bounds) (thread : ℕ) (stream : List Note) (lane : Lane) → IsLaneOf limits thread stream lane → (note : Note) → slice_get lane.pushed lane.popped ≡ Some note → IsFrontOf limits thread lane note
front_of limits thread stream lane is note at = record { at = at; own = is.own lane.popped note at; next = is.in_order.each lane.popped note at }

-- a note that isn't the next to be popped isn't next in the stream
pub other_isnt_next : (limits : Bounds) (thread : ℕ) (stream : List Note) (lane : Lane) → IsLaneOf limits thread stream lane → (place : ℕ) (note : Note) → slice_get lane.pushed place ≡ Some note
    → place ≢ lane.popped → note_refusal limits stream note ≢ None
other_isnt_next limits thread stream lane is place note at other none =
    let own : note.thread ≡ thread = is.own place note at in
    let here : IsNext limits (take place lane.pushed) note = is.in_order.each place note at in
    let next : IsNext limits stream note = next_of_none limits stream note none in
    let within : place < length lane.pushed = slice_get_within lane.pushed place note at in
    let before : has_ended thread (take place lane.pushed) ≡ false = rw own at here.running in
    let running : has_ended thread (take lane.popped lane.pushed) ≡ false = rw (← is.told) (ended_of_notes thread stream ∙ rw own at next.running) in
    let events : events_of thread (take lane.popped lane.pushed) ≡ events_of thread stream = rw (← is.told) (events_of_notes thread stream) in
    let first : note.place ≡ length (events_of thread (take place lane.pushed)) = rw own at here.in_place in
    let second : note.place ≡ length (events_of thread stream) = rw own at next.in_place in
    let counted = all_events thread (take place lane.pushed) (AreOwn-take thread lane.pushed place is.own) before in
    let popped = all_events thread (take lane.popped lane.pushed) (AreOwn-take thread lane.pushed lane.popped is.own) running in
    let left = length-take place lane.pushed (omega arith) in
    let right = length-take lane.popped lane.pushed is.within in
    other (sym left ∙ sym counted ∙ sym first ∙ second ∙ ap length (sym events) ∙ popped ∙ right)

-- the lane with its next note popped and told
pub lane_popped : (limits : Bounds) (thread : ℕ) (stream : List Note) (lane : Lane) → IsLaneOf limits thread stream lane → (note : Note) → slice_get lane.pushed lane.popped ≡ Some note
    → IsLaneOf limits thread (stream ++ note ∷ []) (pop_note lane)
lane_popped limits thread stream lane is note at =
    let own : note.thread ≡ thread = is.own lane.popped note at in
    let grown : notes_of thread (stream ++ note ∷ []) ≡ notes_of thread stream ++ note ∷ [] = subst (λ (t : ℕ). notes_of t (stream ++ note ∷ []) ≡ notes_of t stream ++ note ∷ []) own (notes_own stream note) in
    let within = slice_get_within lane.pushed lane.popped note at in
    record {
      own = is.own;
      in_order = is.in_order;
      within = omega arith;
      told = grown ∙ ap (λ xs. xs ++ note ∷ []) is.told ∙ sym (take_more lane.pushed lane.popped note at);
    }

-- another thread's lane when this note joins the stream
pub lane_other : (limits : Bounds) (thread : ℕ) (stream : List Note) (lane : Lane) → IsLaneOf limits thread stream lane → (note : Note) → note.thread ≢ thread → IsLaneOf limits thread (stream ++ note ∷ []) lane
lane_other limits thread stream lane is note other = record { own = is.own; in_order = is.in_order; within = is.within; told = notes_other stream note thread other ∙ is.told }

-- ---- states

-- one thread's lane changed, and the stream as it was
pub sound_turned : (s : State) → IsSound s → (thread : ℕ) (lane : Lane) → IsLaneOf s.limits thread s.stream lane → IsSound (record s { lanes = set s.lanes thread lane })
sound_turned s sound thread lane is = record {
  count = length-set s.lanes thread lane ∙ sound.count;
  lanes = λ t other at.
      elim (cases_eq thread t) [
        | inl same ↦
            let within : thread < length s.lanes = (let w = slice_get_within _ t other at in omega (arith, length-set s.lanes thread lane)) in
            let here : slice_get (set s.lanes thread lane) t ≡ Some lane = subst (λ (k : ℕ). slice_get (set s.lanes thread lane) k ≡ Some lane) same (get_set_same s.lanes thread lane within) in
            let this : other ≡ lane = same_some other lane (sym at ∙ here) in
            rw (this, ← same) is
        | inr apart ↦ sound.lanes t other (sym (get_set_other s.lanes thread t lane apart) ∙ at)
      ];
  in_order = sound.in_order;
  made = sound.made;
  shipped = sound.shipped;
}

-- a step of the dispatch that makes no edge
pub sound_handled : (s : State) → IsSound s → (d : Dispatch) → d.made ≡ s.dispatch.made → AreShipped d → IsSound (record s { dispatch = d })
sound_handled s sound d same are = record {
  count = sound.count;
  lanes = sound.lanes;
  in_order = sound.in_order;
  made = subst (AreMade s.limits.threads s.stream) (sym same) sound.made;
  shipped = are;
}

-- the next note of a lane popped and added to the stream
pub sound_pulled : (s : State) → IsSound s → (thread : ℕ) (lane : Lane) → slice_get s.lanes thread ≡ Some lane → (note : Note) → slice_get lane.pushed lane.popped ≡ Some note
    → IsSound (record s { lanes = set s.lanes thread (pop_note lane); stream = s.stream ++ note ∷ []; dispatch = add_edges s.dispatch (edges_due thread (taken_of thread lane) note.place note.body) })
sound_pulled s sound thread lane here note front =
    let is : IsLaneOf s.limits thread s.stream lane = sound.lanes thread lane here in
    let own : note.thread ≡ thread = is.own lane.popped note front in
    let known : thread < s.limits.threads = (let w = slice_get_within s.lanes thread lane here in omega (arith, sound.count)) in
    record {
      count = length-set s.lanes thread (pop_note lane) ∙ sound.count;
      lanes = λ t other at.
          elim (cases_eq thread t) [
            | inl same ↦
                let within : thread < length s.lanes = slice_get_within s.lanes thread lane here in
                let now : slice_get (set s.lanes thread (pop_note lane)) t ≡ Some (pop_note lane) = subst (λ (k : ℕ). slice_get (set s.lanes thread (pop_note lane)) k ≡ Some (pop_note lane)) same (get_set_same s.lanes thread (pop_note lane) within) in
                let this : other ≡ pop_note lane = same_some other (pop_note lane) (sym at ∙ now) in
                rw (this, ← same) (lane_popped s.limits thread s.stream lane is note front)
            | inr apart ↦
                lane_other s.limits t s.stream other (sound.lanes t other (sym (get_set_other s.lanes thread t (pop_note lane) apart) ∙ at)) note (λ e. apart (sym own ∙ e))
          ];
      in_order = AreInOrder-push s.limits s.stream note sound.in_order (front_is_next s.limits thread s.stream lane is lane.popped note front refl);
      made = made_pulled s.limits thread s.limits.threads s.stream lane note s.dispatch.made known (told_events s.limits thread s.stream lane is) (front_of s.limits thread s.stream lane is note front) sound.made;
      shipped = shipped_added s.dispatch (edges_due thread (taken_of thread lane) note.place note.body) sound.shipped;
    }

-- a new world's lanes
fresh_is_lane : (limits : Bounds) (thread : ℕ) (wishes : List Event) → IsLaneOf limits thread [] (fresh_lane wishes)
unfolding notes_of
fresh_is_lane limits thread wishes = record { own = λ place note at. cc; in_order = AreInOrder-nil limits; within = omega arith; told = refl }

fresh_at : (wishes : List (List Event)) (thread : ℕ) (lane : Lane) → slice_get (map fresh_lane wishes) thread ≡ Some lane → (list : List Event) × (lane ≡ fresh_lane list)
fresh_at [] thread lane at = absurd (cc)
fresh_at (list ∷ wishes) zero lane at = (list, sym (same_some (fresh_lane list) lane at))
fresh_at (list ∷ wishes) (suc thread) lane at = fresh_at wishes thread lane at

pub sound_start : (limits : Bounds) (shards : ℕ) (wishes : List (List Event)) → length wishes ≡ limits.threads → IsSound (start limits shards wishes)
sound_start limits shards wishes count = record {
  count = length-map wishes fresh_lane ∙ count;
  lanes = λ thread lane at. (let is = fresh_at wishes thread lane at in rw is.1 (fresh_is_lane limits thread is.0));
  in_order = AreInOrder-nil limits;
  made = made_nothing limits.threads;
  shipped = shipped_nothing shards;
}
