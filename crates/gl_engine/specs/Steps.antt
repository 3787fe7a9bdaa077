-- What running calls do, as steps of the core's machine.
--
-- A recorder knows what was pushed into its lane, and a collector what was popped. The machine knows both, and what its threads wish.
use Rattle.std.specs.Prelude.{◌≡◌, ℕ, true, false, Some, None, length, slice_get}
use Rattle.gl_event.specs.declared.events.Event.{Event}
use Rattle.gl_event.specs.declared.events.Refusal.{Refusal}
use Rattle.gl_event.specs.declared.notes.Note.{Note}
use Rattle.gl_intake.specs.Stream.{accepted_as, IsNext}
use Rattle.gl_world.specs.Machine.{Lane, State, rest, has_closed, has_room, take_turn, end_turn, step}
use Rattle.gl_world.specs.Keeping.{IsSound}
use Rattle.gl_world.specs.declared.steps.Step.TheVariants.{Pull}
use Rattle.gl_world.specs.declared.steps.Did.TheVariants.{Taken, Passed, Ended, Pulled}
use Rattle.gl_engine.specs.Collecting.{Collecting, Pulling, side_of, as_of, with_pulled}
use Rattle.gl_engine.specs.Recording.{Recording, recorded, refusal_of, next_note, with_pushed, closed_of}

-- the machine's lane in which a running recorder's notes are, and no end mark; its thread wishes this event next
pub record Wishes (r : Recording) (lane : Lane) (event : Event) : Type 0 where
  pub pushed : lane.pushed ≡ r.pushed
  pub running : has_closed r.thread lane ≡ false
  pub wish : slice_get lane.wishes lane.used ≡ Some event

-- an event is recorded as the machine's thread takes its wish: where it is lawful next and there is room, its note is pushed; where it isn't
-- lawful it is passed over; and where the lane is full nothing happens
pub record RecordIsTake : Type 0 where
  pub taken : (r : Recording) (lane : Lane) (event : Event) (room : ℕ) → Wishes r lane event
      → refusal_of r event ≡ None → has_room r.limits lane ≡ true
      → ((take_turn r.limits r.thread lane).did ≡ Taken (length (recorded r)))
      × ((take_turn r.limits r.thread lane).lane.pushed
      ≡ (with_pushed r (next_note r event) room).pushed)
  pub refused : (r : Recording) (lane : Lane) (event : Event) (why : Refusal)
      → Wishes r lane event → refusal_of r event ≡ Some why
      → ((take_turn r.limits r.thread lane).did ≡ Passed why)
      × ((take_turn r.limits r.thread lane).lane.pushed ≡ r.pushed)
  pub full : (r : Recording) (lane : Lane) (event : Event) → Wishes r lane event
      → refusal_of r event ≡ None → has_room r.limits lane ≡ false
      → take_turn r.limits r.thread lane ≡ rest lane

-- a recorder closes as the machine's thread ends: where there is room its end mark is pushed, and else nothing happens
pub record CloseIsEnd : Type 0 where
  pub closed : (r : Recording) (lane : Lane) → lane.pushed ≡ r.pushed
      → has_closed r.thread lane ≡ false → has_room r.limits lane ≡ true
      → ((end_turn r.limits r.thread lane).did ≡ Ended)
      × ((end_turn r.limits r.thread lane).lane.pushed ≡ (closed_of r).pushed)
  pub full : (r : Recording) (lane : Lane) → lane.pushed ≡ r.pushed
      → has_closed r.thread lane ≡ false → has_room r.limits lane ≡ false
      → end_turn r.limits r.thread lane ≡ rest lane

-- this is the machine's state whose stream and edges made are the collector's, and its thread has this lane, of which this note is the next
pub record Offers (c : Collecting) (s : State) (thread : ℕ) (lane : Lane)
    (note : Note) : Type 0 where
  pub sound : IsSound s
  pub limits : s.limits ≡ c.limits
  pub stream : s.stream ≡ c.stream
  pub made : s.dispatch.made ≡ c.made
  pub its_lane : slice_get s.lanes thread ≡ Some lane
  pub next : slice_get lane.pushed lane.popped ≡ Some note

-- a note is pulled as the machine pulls it: the stream and the edges made are then the machine's
pub record PullIsPull : Type 0 where
  pub did : (c : Collecting) (s : State) (thread : ℕ) (lane : Lane) (note : Note)
      → Offers c s thread lane note
      → (step s (Pull thread)).did ≡ Pulled (accepted_as note.place note.body)
  pub stream : (c : Collecting) (s : State) (thread : ℕ) (input : Pulling) (lane : Lane)
      (note : Note) → Offers c s thread lane note
      → (step s (Pull thread)).after.stream ≡ (with_pulled thread (side_of c input) note).stream
  pub made : (c : Collecting) (s : State) (thread : ℕ) (input : Pulling) (lane : Lane) (note : Note)
      → Offers c s thread lane note
      → (step s (Pull thread)).after.dispatch.made
      ≡ (with_pulled thread (side_of c input) note).made
  -- and no lane breaks
  pub next : (c : Collecting) (s : State) (thread : ℕ) (lane : Lane) (note : Note)
      → Offers c s thread lane note → IsNext c.limits c.stream (as_of thread note)
