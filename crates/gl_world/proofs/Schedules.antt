-- Each step keeps what holds of a state, and so does every list of steps.
use Rattle.std.proofs.Common.{◌≡◌, ◌≢◌, ℕ, ◌+◌, ◌<◌, Bool, true, false, cond, eqb, List, [], ◌∷◌, ◌++◌, length, drop, Option, Some, None, refl, sym, ap, ◌∙◌, arith}
use Rattle.std.specs.Prelude.{slice_get}
use Rattle.std.specs.Option.{option_map_or}
use Rattle.std.proofs.lemmas.Bool.{eq-eqb, false≢true}
use Rattle.std.proofs.lemmas.Option.{slice_get_within}
use Rattle.gl_event.specs.Bounds.{Bounds}
use Rattle.gl_event.specs.Lawful.{refusal}
use Rattle.gl_event.specs.declared.events.Event.{Event}
use Rattle.gl_event.specs.declared.events.Refusal.{Refusal}
use Rattle.gl_event.specs.declared.notes.Note.{Note}
use Rattle.gl_recorder.specs.Taking.{event_note, end_note}
use Rattle.gl_intake.specs.Stream.{events_of, note_refusal, accepted_as}
use Rattle.gl_intake.specs.declared.notes.Accepted.{Accepted}
use Rattle.gl_intake.specs.declared.notes.Refused.{Refused as Reason}
use Rattle.gl_world.specs.Machine.{Lane, State, rest, start, use_wish, push_note, taken_of, has_closed, has_room, take_judged, take_wish, take_turn, end_turn, Moved, idle, after_turn, pull_note, again_note, step, run, answer_again, IsPrefixOf, KeepsOrder}
use Rattle.gl_world.specs.Keeping.{IsLaneOf, IsSound}
use Rattle.gl_world.specs.declared.steps.Step.{Step}
use Rattle.gl_world.specs.declared.steps.Step.TheVariants.{Take, End, Pull, Again, Ship, Work}
use Rattle.gl_world.specs.declared.steps.Did.{Did}
use Rattle.gl_world.specs.declared.steps.Did.TheVariants.{Taken, Ended, Pulled, Refused}
use Rattle.gl_world.specs.Dispatch.{ship_turn, work_turn}
use Rattle.gl_world.proofs.ThreadParts.{events_cut}
use Rattle.gl_world.proofs.Shippings.{shipped_turn, worked_turn, ship_makes_none, work_makes_none}
use Rattle.gl_world.proofs.Sound.{lane_pushed, other_isnt_next, sound_turned, sound_handled, sound_pulled, sound_start, told_events}

module _ (limits : Bounds) (thread : ℕ) (stream : List Note) (lane : Lane) (is : IsLaneOf limits thread stream lane) (known : thread < limits.threads) where
  used_more : IsLaneOf limits thread stream (use_wish lane)
  used_more = record { own = is.own; in_order = is.in_order; within = is.within; told = is.told }

  took : (wish : Event) → refusal limits thread (taken_of thread lane) wish ≡ None → has_closed thread lane ≡ false
      → IsLaneOf limits thread stream (push_note (use_wish lane) (event_note thread (taken_of thread lane) wish))
  took wish allowed running =
      lane_pushed limits thread stream lane is (event_note thread (taken_of thread lane) wish) refl (record { known = known; running = running; in_place = refl; fits = allowed }) (lane.used + 1)

  judged : (wish : Event) (why : Option Refusal) → refusal limits thread (taken_of thread lane) wish ≡ why → has_closed thread lane ≡ false → IsLaneOf limits thread stream (take_judged limits thread lane wish why).lane
  judged wish (Some why) says running = used_more
  judged wish None says running = elim (has_room limits lane) as (λ b. IsLaneOf limits thread stream (cond b (record { lane = push_note (use_wish lane) (event_note thread (taken_of thread lane) wish); did = Taken (length (taken_of thread lane)) }) (rest lane)).lane) [
    | true ↦ took wish says running
    | false ↦ is
  ]

  wished : (wish : Option Event) → has_closed thread lane ≡ false → IsLaneOf limits thread stream (take_wish limits thread lane wish).lane
  wished None running = is
  wished (Some wish) running = judged wish (refusal limits thread (taken_of thread lane) wish) refl running

  take_by : (b : Bool) → has_closed thread lane ≡ b → IsLaneOf limits thread stream (cond b (rest lane) (take_wish limits thread lane (slice_get lane.wishes lane.used))).lane
  take_by true closed = is
  take_by false running = wished (slice_get lane.wishes lane.used) running

  pub after_take : IsLaneOf limits thread stream (take_turn limits thread lane).lane
  unfolding take_turn
  after_take = take_by (has_closed thread lane) refl

  end_by : (b room : Bool) → has_closed thread lane ≡ b
      → IsLaneOf limits thread stream (cond b (rest lane) (cond room (record { lane = push_note lane (end_note thread (length (taken_of thread lane))); did = Ended }) (rest lane))).lane
  end_by true room closed = is
  end_by false true running =
      lane_pushed limits thread stream lane is (end_note thread (length (taken_of thread lane))) refl (record { known = known; running = running; in_place = refl; fits = refl }) lane.used
  end_by false false running = is

  pub after_end : IsLaneOf limits thread stream (end_turn limits thread lane).lane
  unfolding end_turn
  after_end = end_by (has_closed thread lane) (has_room limits lane) refl

module _ (s : State) (sound : IsSound s) where
  known_at : (thread : ℕ) (lane : Lane) → slice_get s.lanes thread ≡ Some lane → thread < s.limits.threads
  known_at thread lane at = let w = slice_get_within s.lanes thread lane at in omega (arith, sound.count)

  pulled : (thread : ℕ) (lane : Lane) → slice_get s.lanes thread ≡ Some lane → (note : Option Note) → slice_get lane.pushed lane.popped ≡ note → IsSound (pull_note s thread lane note).after
  pulled thread lane at None is = sound
  pulled thread lane at (Some note) is = sound_pulled s sound thread lane at note is

  again_by : (b : Bool) (did : Did) → IsSound (cond b (idle s) (record { after = s; did = did })).after
  again_by true did = sound
  again_by false did = sound

  agained : (lane : Lane) (place : ℕ) (note : Option Note) → IsSound (again_note s lane place note).after
  agained lane place None = sound
  agained lane place (Some note) = again_by (eqb place lane.popped) (answer_again s note)

  on : (thread : ℕ) (move : Lane → Moved) → ((lane : Lane) → slice_get s.lanes thread ≡ Some lane → IsSound (move lane).after)
      → (found : Option Lane) → slice_get s.lanes thread ≡ found → IsSound (option_map_or move found (idle s)).after
  on thread move each None is = sound
  on thread move each (Some lane) is = each lane is

  pub sound_step : (x : Step) → IsSound (step s x).after
  unfolding step
  sound_step (Take thread) =
      on thread (λ lane. after_turn s thread (take_turn s.limits thread lane))
      (λ lane at. sound_turned s sound thread (take_turn s.limits thread lane).lane (after_take s.limits thread s.stream lane (sound.lanes thread lane at) (known_at thread lane at)))
      (slice_get s.lanes thread) refl
  sound_step (End thread) =
      on thread (λ lane. after_turn s thread (end_turn s.limits thread lane))
      (λ lane at. sound_turned s sound thread (end_turn s.limits thread lane).lane (after_end s.limits thread s.stream lane (sound.lanes thread lane at) (known_at thread lane at)))
      (slice_get s.lanes thread) refl
  sound_step (Pull thread) =
      on thread (λ lane. pull_note s thread lane (slice_get lane.pushed lane.popped)) (λ lane at. pulled thread lane at (slice_get lane.pushed lane.popped) refl) (slice_get s.lanes thread) refl
  sound_step (Again thread place) =
      on thread (λ lane. again_note s lane place (slice_get lane.pushed place)) (λ lane at. agained lane place (slice_get lane.pushed place)) (slice_get s.lanes thread) refl
  sound_step Ship = sound_handled s sound (ship_turn s.limits s.dispatch).dispatch (ship_makes_none s.limits s.dispatch) (shipped_turn s.limits s.dispatch sound.shipped)
  sound_step (Work k) = sound_handled s sound (work_turn s.dispatch k).dispatch (work_makes_none s.dispatch k) (worked_turn s.dispatch sound.shipped k)

  -- what is collected of a thread is how what it took begins
  pub collected_front : (thread : ℕ) (lane : Lane) → slice_get s.lanes thread ≡ Some lane → IsPrefixOf (events_of thread s.stream) (taken_of thread lane)
  collected_front thread lane at =
      let events = told_events s.limits thread s.stream lane (sound.lanes thread lane at) in
      (events_of thread (drop lane.popped lane.pushed), ap (λ xs. xs ++ events_of thread (drop lane.popped lane.pushed)) (sym events) ∙ events_cut thread lane.popped lane.pushed)

  answered : (note : Note) (r : Option Reason) → r ≢ None → (answer : Accepted) → option_map_or Refused r (Pulled (accepted_as note.place note.body)) ≢ Pulled answer
  answered note None some answer e = some refl
  answered note (Some why) some answer e = cc

  refused_by : (thread : ℕ) (lane : Lane) → slice_get s.lanes thread ≡ Some lane → (place : ℕ) (note : Note) → slice_get lane.pushed place ≡ Some note → (answer : Accepted)
      → (b : Bool) → eqb place lane.popped ≡ b → (cond b (idle s) (record { after = s; did = answer_again s note })).did ≢ Pulled answer
  refused_by thread lane at place note here answer true same e = cc
  refused_by thread lane at place note here answer false apart e =
      answered note (note_refusal s.limits s.stream note)
      (other_isnt_next s.limits thread s.stream lane (sound.lanes thread lane at) place note here (λ same. false≢true (sym apart ∙ eq-eqb place lane.popped same))) answer e

  refused_note : (thread : ℕ) (lane : Lane) → slice_get s.lanes thread ≡ Some lane → (place : ℕ) (note : Option Note) → slice_get lane.pushed place ≡ note → (answer : Accepted)
      → (again_note s lane place note).did ≢ Pulled answer
  refused_note thread lane at place None here answer e = cc
  refused_note thread lane at place (Some note) here answer e = refused_by thread lane at place note here answer (eqb place lane.popped) refl e

  refused_lane : (thread place : ℕ) (found : Option Lane) → slice_get s.lanes thread ≡ found → (answer : Accepted)
      → (option_map_or (λ lane. again_note s lane place (slice_get lane.pushed place)) found (idle s)).did ≢ Pulled answer
  refused_lane thread place None at answer e = cc
  refused_lane thread place (Some lane) at answer e = refused_note thread lane at place (slice_get lane.pushed place) refl answer e

  -- a note that is offered once more or too early is never accepted
  pub again_refused : (thread place : ℕ) (answer : Accepted) → (step s (Again thread place)).did ≢ Pulled answer
  unfolding step
  again_refused thread place answer = refused_lane thread place (slice_get s.lanes thread) refl answer

  pub keeps_order : KeepsOrder s
  keeps_order = record {
    in_order = sound.in_order;
    none_after_end = λ place note at. (sound.in_order.each place note at).running;
    front = collected_front;
    refused = again_refused;
  }

pub sound_run : (s : State) → IsSound s → (steps : List Step) → IsSound (run s steps)
sound_run s sound [] = sound
sound_run s sound (x ∷ xs) = sound_run (step s x).after (sound_step s sound x) xs

pub every_schedule : (limits : Bounds) (shards : ℕ) (wishes : List (List Event)) → length wishes ≡ limits.threads → (steps : List Step) → KeepsOrder (run (start limits shards wishes) steps)
every_schedule limits shards wishes count steps = keeps_order (run (start limits shards wishes) steps) (sound_run (start limits shards wishes) (sound_start limits shards wishes count) steps)

-- one step more
pub run_push : (s : State) (xs : List Step) (x : Step) → run s (xs ++ x ∷ []) ≡ (step (run s xs) x).after
run_push s [] x = refl
run_push s (y ∷ xs) x = run_push (step s y).after xs x
