-- What a pull makes of a collector's inputs, stream and edges.
use Rattle.std.proofs.Common.{◌≡◌, ◌≢◌, ℕ, ◌<◌, List, [], ◌∷◌, ◌++◌, length, map, take, set, get_or, None, Some, Result, Ok, Err, Bool, true, not, Option, refl, sym, ap, ◌∙◌, subst, inl, inr}
use Rattle.std.specs.Prelude.{slice_get, OnOk, OnErr}
use Rattle.std.proofs.Math.Seq.{take-append_seam, map-set_same}
use Rattle.std.proofs.lemmas.Bool.{cases_eq}
use Rattle.std.specs.Option.{is_some, option_map}
use Rattle.std.proofs.lemmas.List.{length-set, map-append, map-set, get_or-map}
use Rattle.std.proofs.lemmas.Option.{slice_get-map}
use Rattle.gl_event.specs.Bounds.{Bounds}
use Rattle.gl_event.specs.Events.{wanted_lock}
use Rattle.gl_event.specs.declared.events.Event.{Event}
use Rattle.gl_event.specs.declared.notes.Note.{Note}
use Rattle.gl_event.specs.declared.notes.Body.{Body}
use Rattle.gl_event.specs.declared.notes.Body.TheVariants.{Happened, Ended}
use Rattle.gl_event.proofs.Depths.{slice_get_last}
use Rattle.gl_edges.specs.declared.edge.Edge.{Edge}
use Rattle.gl_edges.specs.declared.edge.Sample.{Sample}
use Rattle.gl_edges.proofs.Remembering.{no_edges}
use Rattle.gl_edges.proofs.Steps.{newest}
use Rattle.gl_intake.specs.Stream.{accepted_as, events_of, note_refusal, AreInOrder, IsNext}
use Rattle.gl_intake.proofs.Next.{next_of_none}
use Rattle.gl_intake.proofs.Order.{AreInOrder-push}
use Rattle.gl_intake.proofs.Streams.{ended_other, events_ended, events_more, events_other}
use Rattle.gl_world.specs.Machine.{Lane, edges_due}
use Rattle.gl_world.specs.Keeping.{notes_of, IsFrontOf, AreMade, with_body}
use Rattle.gl_world.proofs.Lists.{same_some, get_at, get_set_same, get_set_other}
use Rattle.gl_world.proofs.Makings.{made_pulled}
use Rattle.gl_world.proofs.Sound.{notes_own, notes_other}
use Rattle.gl_engine.specs.Collecting.{Pulling, Collecting, Side, as_of, with_popped, pulled_of, HasPulled, IsSidePull, IsPull}
use Rattle.gl_engine.specs.Dealing.{edges_of_next, made_by}
use Rattle.gl_engine.specs.Keeping.{AreInputs, BreaksForCause, IsCollector, IsStuck, pulling_of}
use Rattle.gl_engine.proofs.Dealt.{made_by_more}
use Rattle.gl_engine.specs.declared.pulled.Pulled.{Pulled}
use Rattle.gl_engine.specs.declared.pulled.Pulled.TheVariants.{Empty, Event as Answered, Ended as Closing}
use Rattle.gl_engine.specs.declared.pulled.PullFault.{PullFault}
use Rattle.gl_engine.specs.declared.pulled.PullFault.TheVariants.{Broken, Memory as OutOfMemory}
use Rattle.gl_engine.specs.declared.lane_input.LaneInput.{LaneInput}

-- ---- the note that joins a stream, as the front note of one lane

abbrev pub whole_lane : List Note → Note → Lane
whole_lane stream note = record { wishes = []; used = 0; pushed = stream ++ note ∷ []; popped = length stream }

module _ (limits : Bounds) (stream : List Note) (note : Note) (next : IsNext limits stream note) where
  front : take (length stream) (stream ++ note ∷ []) ≡ stream
  front = take-append_seam stream (note ∷ [])

  pub is_front : IsFrontOf limits note.thread (whole_lane stream note) note
  is_front = record {
    at = slice_get_last stream note;
    own = refl;
    next = rw front next;
  }

  pub made_more : (threads : ℕ) (made : List (Edge × Sample)) → note.thread < threads → AreMade threads stream made
      → AreMade threads (stream ++ note ∷ []) (made ++ edges_due note.thread (events_of note.thread (stream ++ note ∷ [])) note.place note.body)
  made_more threads made known are = made_pulled limits note.thread threads stream (whole_lane stream note) note made known (ap (events_of note.thread) front) is_front are

  -- the thread's events with that of the note
  pub with_note : with_body (events_of note.thread stream) note.body ≡ events_of note.thread (stream ++ note ∷ [])
  with_note = by_body note.body refl
    where
      by_body : (body : Body) → note.body ≡ body → with_body (events_of note.thread stream) body ≡ events_of note.thread (stream ++ note ∷ [])
      by_body (Happened e) is = sym (events_more stream note e is)
      by_body (Ended count) is = sym (events_ended stream note note.thread count is)

  -- the edges of the note, found after the events before it
  pub due_is : edges_due note.thread (with_body (events_of note.thread stream) note.body) (length (events_of note.thread stream)) note.body
      ≡ edges_due note.thread (events_of note.thread (stream ++ note ∷ [])) note.place note.body
  due_is = λ i. edges_due note.thread (with_note i) (sym next.in_place i) note.body

-- ---- the inputs

-- a note of another thread has the refusal that it had
refusal_other : (limits : Bounds) (stream : List Note) (own : Note) (t : ℕ) → own.thread ≢ t → (note : Note) → note_refusal limits (stream ++ own ∷ []) (as_of t note) ≡ note_refusal limits stream (as_of t note)
unfolding note_refusal
refusal_other limits stream own t other note = rw (events_other stream own t other, ended_other stream own t other)

module _ (limits : Bounds) (inputs : List LaneInput) (stream : List Note) (are : AreInputs limits inputs stream) (thread : ℕ) (new : LaneInput) (later : List Note) (within : thread < length inputs)
    (told : notes_of thread later ≡ map (as_of thread) new.lane.popped) (cause : BreaksForCause limits thread later new)
    (still : (t : ℕ) → thread ≢ t → (notes_of t later ≡ notes_of t stream) × (events_of t later ≡ events_of t stream) × ((note : Note) → note_refusal limits later (as_of t note) ≡ note_refusal limits stream (as_of t note))) where
  now_there : (t : ℕ) (input : LaneInput) → thread ≡ t → slice_get (set inputs thread new) t ≡ Some input → input ≡ new
  now_there t input same at = same_some input new (sym at ∙ ap (slice_get (set inputs thread new)) (sym same) ∙ get_set_same inputs thread new within)

  pub inputs_with : AreInputs limits (set inputs thread new) later
  inputs_with = record {
    count = length-set inputs thread new ∙ are.count;
    told = λ t input at.
        elim (cases_eq thread t) [
          | inl same ↦ subst (λ k. notes_of k later ≡ map (as_of k) input.lane.popped) same (subst (λ (r : LaneInput). notes_of thread later ≡ map (as_of thread) r.lane.popped) (sym (now_there t input same at)) told)
          | inr other ↦ (still t other).0 ∙ are.told t input (sym (get_set_other inputs thread t new other) ∙ at)
        ];
    cause = λ t input at why broken.
        elim (cases_eq thread t) [
          | inl same ↦
              let there = now_there t input same at in
              let stuck = cause why (ap (λ (r : LaneInput). r.broken) (sym there) ∙ broken) in
              subst (λ k. IsStuck limits k later input.lane why) same (subst (λ (r : LaneInput). IsStuck limits thread later r.lane why) (sym there) stuck)
          | inr other ↦
              let stuck = are.cause t input (sym (get_set_other inputs thread t new other) ∙ at) why broken in
              record { note = stuck.note; front = stuck.front; refused = (still t other).2 stuck.note ∙ stuck.refused }
        ];
  }

-- ---- one pull

-- what isn't there, by the test
pub is_not_there : {X : Type 0} (o : Option X) (b : Bool) → is_some o ≡ not b → b ≡ true → o ≡ None
is_not_there None b test on = refl
is_not_there (Some x) b test on = let never = test ∙ ap not on in absurd (cc)

-- an event that wants no lock makes none
pub due_of_none : (thread : ℕ) (es : List Event) (e : Event) → wanted_lock e ≡ None → edges_due thread (es ++ e ∷ []) (length es) (Happened e) ≡ []
due_of_none thread es e none = newest thread es e ∙ no_edges thread es e none

-- nor does what tells nothing of edges, once it was accepted
pub none_due : (limits : Bounds) (stream : List Note) (note : Note) → note_refusal limits stream note ≡ None
    → edges_due note.thread (with_body (events_of note.thread stream) note.body) (length (events_of note.thread stream)) note.body ≡ [] → edges_of_next stream note ≡ []
none_due limits stream note allowed none = sym (due_is limits stream note (next_of_none limits stream note allowed)) ∙ none

never_empty : (place : ℕ) (body : Body) → Empty ≢ pulled_of (accepted_as place body)
never_empty place (Happened e) is = cc
never_empty place (Ended count) is = cc

-- the answer to a note that was pulled
pub pull_ok : (limits : Bounds) (thread : ℕ) (old : Side) (answer : Pulled) (new : Side) → HasPulled limits thread old answer new → IsSidePull limits thread old (Ok answer) new
pull_ok limits thread old Empty new has = absurd (never_empty has.note.place has.note.body has.answer_is)
pull_ok limits thread old (Answered place) new has = has
pull_ok limits thread old (Closing count) new has = has

-- the side with the front note popped, which joined the stream as this one
abbrev pub taken_side : Side → Note → Note → Side
taken_side old front note = record { input = with_popped old.input front; stream = old.stream ++ note ∷ []; made = old.made ++ edges_of_next old.stream note }

-- the front note was taken, read as one of the thread
pub took : (limits : Bounds) (thread : ℕ) (old : Side) (front note : Note) → as_of thread front ≡ note → (answer : Pulled) (new : Side) → old.input.broken ≡ None → note_refusal limits old.stream note ≡ None
    → answer ≡ pulled_of (accepted_as note.place note.body) → new ≡ taken_side old front note → IsSidePull limits thread old (Ok answer) new
took limits thread old front note is answer new running none answer_is moved =
    pull_ok limits thread old answer new
    (record {
      running = running;
      note = front;
      next = next_of_none limits old.stream (as_of thread front) (ap (note_refusal limits old.stream) is ∙ none);
      answer_is = answer_is ∙ ap (λ (n : Note). pulled_of (accepted_as n.place n.body)) (sym is);
      moved = moved ∙ ap (λ n. taken_side old front n) (sym is);
    })

-- the edges of a stream that a note joined, or didn't
pub made_if : {X E : Type 0} (result : Result X E) (before after : List Note) (note : Note) → OnOk result (after ≡ before ++ note ∷ []) → OnErr result (after ≡ before)
    → OnOk result (made_by after ≡ made_by before ++ edges_of_next before note) × OnErr result (made_by after ≡ made_by before)
made_if (Ok done) before after note grown same = (ap made_by grown ∙ made_by_more before note, tt)
made_if (Err why) before after note grown same = (tt, ap made_by same)

-- ---- the collector after a pull

abbrev pub collecting_from : ℕ → Bounds → List Pulling → List Note → List (Edge × Sample) → Collecting
collecting_from session limits inputs stream made = record { session = session; limits = limits; inputs = inputs; stream = stream; made = made }

-- what contracts see of a collector with these inputs
abbrev pub collecting_of : ℕ → Bounds → List LaneInput → List Note → List (Edge × Sample) → Collecting
collecting_of session limits inputs stream made = collecting_from session limits (map pulling_of inputs) stream made

module _ (limits : Bounds) (inputs : List LaneInput) (stream : List Note) (made : List (Edge × Sample)) (collecting : Bounds) (is : IsCollector limits inputs stream made collecting)
    (thread : ℕ) (was new : LaneInput) (within : thread < length inputs) (here : was ≡ get_or inputs thread was) (later : List Note) (later_made : List (Edge × Sample)) where
  input_at : slice_get inputs thread ≡ Some was
  input_at = get_at inputs thread was within here

  was_told : notes_of thread stream ≡ map (as_of thread) was.lane.popped
  was_told = is.inputs_are.told thread was input_at

  kept_same : BreaksForCause limits thread later new → later ≡ stream → later_made ≡ made → new.lane.popped ≡ was.lane.popped → IsCollector limits (set inputs thread new) later later_made collecting
  kept_same cause same same_made popped = record {
    inputs_are = inputs_with limits inputs stream is.inputs_are thread new later within (ap (notes_of thread) same ∙ was_told ∙ ap (map (as_of thread)) (sym popped)) cause
        (λ t other. (ap (notes_of t) same, ap (events_of t) same, λ note. ap (λ notes. note_refusal limits notes (as_of t note)) same));
    in_order = subst (AreInOrder limits) (sym same) is.in_order;
    made_are = subst (λ notes. AreMade limits.threads notes later_made) (sym same) (subst (AreMade limits.threads stream) (sym same_made) is.made_are);
    made_is = same_made ∙ is.made_is ∙ ap made_by (sym same);
    same_limits = is.same_limits;
    range = is.range;
  }

  abbrev old_side : Side
  old_side = record { input = pulling_of was; stream = stream; made = made }

  abbrev new_side : Side
  new_side = record { input = pulling_of new; stream = later; made = later_made }

  kept_pulled : BreaksForCause limits thread later new → (answer : Pulled) → HasPulled collecting thread old_side answer new_side → IsCollector limits (set inputs thread new) later later_made collecting
  kept_pulled cause answer has = record {
    inputs_are = inputs_with limits inputs stream is.inputs_are thread new later within told cause
        (λ t other. (
          ap (notes_of t) grown ∙ notes_other stream own t other,
          ap (events_of t) grown ∙ events_other stream own t other,
          λ note. ap (λ notes. note_refusal limits notes (as_of t note)) grown ∙ refusal_other limits stream own t other note,
        ));
    in_order = subst (AreInOrder limits) (sym grown) (AreInOrder-push limits stream own is.in_order next);
    made_are = subst (λ notes. AreMade limits.threads notes later_made) (sym grown) (subst (AreMade limits.threads (stream ++ own ∷ [])) (sym edges) (made_more limits stream own next limits.threads made next.known is.made_are));
    made_is = edges ∙ ap (λ pairs. pairs ++ edges_due thread (events_of thread (stream ++ own ∷ [])) own.place own.body) is.made_is ∙ sym (made_by_more stream own) ∙ ap made_by (sym grown);
    same_limits = is.same_limits;
    range = is.range;
  }
    where
      own : Note
      own = as_of thread has.note

      next : IsNext limits stream own
      next = subst (λ b. IsNext b stream own) is.same_limits has.next

      grown : later ≡ stream ++ own ∷ []
      grown = ap (λ (s : Side). s.stream) has.moved

      edges : later_made ≡ made ++ edges_due thread (events_of thread (stream ++ own ∷ [])) own.place own.body
      edges = ap (λ (s : Side). s.made) has.moved

      popped : new.lane.popped ≡ was.lane.popped ++ has.note ∷ []
      popped = ap (λ (s : Side). s.input.popped) has.moved

      told : notes_of thread later ≡ map (as_of thread) new.lane.popped
      told =
          ap (notes_of thread) grown ∙ notes_own stream own ∙ ap (λ notes. notes ++ own ∷ []) was_told
          ∙ sym (map-append (as_of thread) was.lane.popped (has.note ∷ [])) ∙ ap (map (as_of thread)) (sym popped)

  pub collector_after : BreaksForCause limits thread later new → (answer : Result Pulled PullFault) → IsSidePull collecting thread old_side answer new_side → IsCollector limits (set inputs thread new) later later_made collecting
  collector_after cause (Ok Empty) tells = kept_same cause (ap (λ (s : Side). s.stream) tells.1) (ap (λ (s : Side). s.made) tells.1) (ap (λ (s : Side). s.input.popped) tells.1)
  collector_after cause (Ok (Answered place)) tells = kept_pulled cause (Answered place) tells
  collector_after cause (Ok (Closing count)) tells = kept_pulled cause (Closing count) tells
  collector_after cause (Err (Broken why)) (inl same) = kept_same cause (ap (λ (s : Side). s.stream) same.1) (ap (λ (s : Side). s.made) same.1) (ap (λ (s : Side). s.input.popped) same.1)
  collector_after cause (Err (Broken why)) (inr has) = kept_same cause (ap (λ (s : Side). s.stream) has.moved) (ap (λ (s : Side). s.made) has.moved) (ap (λ (s : Side). s.input.popped) has.moved)
  collector_after cause (Err OutOfMemory) tells = kept_same cause (ap (λ (s : Side). s.stream) tells.1) (ap (λ (s : Side). s.made) tells.1) (ap (λ (s : Side). s.input.popped) tells.1)

  pub pull_tells : (session : ℕ) (answer : Result Pulled PullFault) → IsSidePull collecting thread old_side answer new_side → (before : Collecting) → collecting_of session limits inputs stream made ≡ before
      → (input : Pulling) → slice_get before.inputs thread ≡ Some input → IsPull before thread input answer (collecting_of session limits (set inputs thread new) later later_made)
  pull_tells session answer tells before view =
      subst (λ (s : Collecting). (input : Pulling) → slice_get s.inputs thread ≡ Some input → IsPull s thread input answer (collecting_of session limits (set inputs thread new) later later_made)) view
      (λ input found.
      let its : Some (pulling_of was) ≡ Some input = sym (slice_get-map pulling_of inputs thread ∙ ap (option_map pulling_of) input_at) ∙ found in
      let same : pulling_of was ≡ input = same_some (pulling_of was) input its in
      record {
        side = new_side;
        tells = subst (λ (r : Pulling). IsSidePull limits thread (record { input = r; stream = stream; made = made }) answer new_side) same
            (subst (λ b. IsSidePull b thread old_side answer new_side) is.same_limits tells);
        moved = ap (λ ps. collecting_from session limits ps later later_made) (map-set pulling_of inputs thread new);
      })

  pub lane_same : (answer : Result Pulled PullFault) → IsSidePull collecting thread old_side answer new_side → new.lane.lane ≡ was.lane.lane
  lane_same (Ok Empty) tells = ap (λ (s : Side). s.input.lane) tells.1
  lane_same (Ok (Answered place)) tells = ap (λ (s : Side). s.input.lane) tells.moved
  lane_same (Ok (Closing count)) tells = ap (λ (s : Side). s.input.lane) tells.moved
  lane_same (Err (Broken why)) (inl same) = ap (λ (s : Side). s.input.lane) same.1
  lane_same (Err (Broken why)) (inr has) = ap (λ (s : Side). s.input.lane) has.moved
  lane_same (Err OutOfMemory) tells = ap (λ (s : Side). s.input.lane) tells.1

  -- the lanes stay where they are
  pub lanes_still : (answer : Result Pulled PullFault) → IsSidePull collecting thread old_side answer new_side → map (λ (p : Pulling). p.lane) (map pulling_of (set inputs thread new)) ≡ map (λ (p : Pulling). p.lane) (map pulling_of inputs)
  lanes_still answer tells =
      let at : get_or (map pulling_of inputs) thread (pulling_of was) ≡ pulling_of was = get_or-map pulling_of inputs thread was (pulling_of was) within ∙ ap pulling_of (sym here) in
      ap (map (λ (p : Pulling). p.lane)) (map-set pulling_of inputs thread new)
      ∙ map-set_same (λ (p : Pulling). p.lane) (map pulling_of inputs) thread (pulling_of new) (pulling_of was) (lane_same answer tells ∙ ap (λ (p : Pulling). p.lane) (sym at))
