-- The machine that recorders, their lanes, the collector and the shards' workers make together: its steps, one at a time, in any order.
use Rattle.std.specs.Prelude.{◌≡◌, ◌≢◌, ◌==◌, ℕ, ◌<◌, ◌+◌, ◌-◌, Bool, false, IsTrue, List, [], ◌∷◌, ◌++◌, length, map, take, Option, Some, None, slice_get, slice_set, nat_lt, if◌then◌else◌}
use Rattle.std.specs.List.{enumerate_from}
use Rattle.std.specs.Option.{option_map_or}
use Rattle.gl_event.specs.Bounds.{Bounds}
use Rattle.gl_event.specs.Lawful.{refusal}
use Rattle.gl_event.specs.declared.events.Event.{Event}
use Rattle.gl_event.specs.declared.events.Refusal.{Refusal}
use Rattle.gl_event.specs.declared.notes.Note.{Note}
use Rattle.gl_event.specs.declared.notes.Body.{Body}
use Rattle.gl_event.specs.declared.notes.Body.TheVariants.{Happened, Ended as EndMark}
use Rattle.gl_edges.specs.Edges.{edges_at}
use Rattle.gl_edges.specs.declared.edge.Edge.{Edge}
use Rattle.gl_edges.specs.declared.edge.Sample.{Sample}
use Rattle.gl_recorder.specs.Taking.{event_note, end_note}
use Rattle.gl_intake.specs.Stream.{events_of, has_ended, note_refusal, accepted_as, AreInOrder}
use Rattle.gl_intake.specs.declared.notes.Accepted.{Accepted}
use Rattle.gl_world.specs.Dispatch.{Dispatch, Handled, IsDone, fresh_dispatch, ship_turn, work_turn}
use Rattle.gl_world.specs.declared.steps.Step.{Step}
use Rattle.gl_world.specs.declared.steps.Step.TheVariants.{Take, End, Pull, Again, Ship, Work}
use Rattle.gl_world.specs.declared.steps.Did.{Did}
use Rattle.gl_world.specs.declared.steps.Did.TheVariants.{Nothing, Taken, Passed, Ended, Pulled, Refused}

-- a thread with its lane: its wishes, how many of them were used, the notes pushed, and how many of these were popped
pub record Lane : Type 0 where
  pub wishes : List Event
  pub used : ℕ
  pub pushed : List Note
  pub popped : ℕ

-- the limits, each thread's lane in the order of thread numbers, the notes collected so far, and what became of the edges that they made
pub record State : Type 0 where
  pub limits : Bounds
  pub lanes : List Lane
  pub stream : List Note
  pub dispatch : Dispatch

-- a lane before its thread's first step
abbrev pub fresh_lane : List Event → Lane
fresh_lane wishes = record { wishes = wishes; used = 0; pushed = []; popped = 0 }

-- the state before the first step
abbrev pub start : Bounds → ℕ → List (List Event) → State
start limits shards wishes =
    record {
      limits = limits;
      lanes = map fresh_lane wishes;
      stream = [];
      dispatch = fresh_dispatch shards;
    }

-- the events that the thread took: those of its pushed notes
abbrev pub taken_of : ℕ → Lane → List Event
taken_of thread lane = events_of thread lane.pushed

-- the thread's end mark was pushed
abbrev pub has_closed : ℕ → Lane → Bool
has_closed thread lane = has_ended thread lane.pushed

-- fewer of the pushed notes than the ring holds aren't popped
abbrev pub has_room : Bounds → Lane → Bool
has_room limits lane = nat_lt (length lane.pushed - lane.popped) limits.ring

-- the lane with one wish more used
abbrev pub use_wish : Lane → Lane
use_wish lane = record lane { used = lane.used + 1 }

-- the lane with one note more pushed
abbrev pub push_note : Lane → Note → Lane
push_note lane note = record lane { pushed = lane.pushed ++ note ∷ [] }

-- the lane with one note more popped
abbrev pub pop_note : Lane → Lane
pop_note lane = record lane { popped = lane.popped + 1 }

-- a lane after a step of its thread, and the answer
pub record Turn : Type 0 where
  pub lane : Lane
  pub did : Did

-- a turn that isn't enabled
abbrev pub rest : Lane → Turn
rest lane = record { lane = lane; did = Nothing }

-- the thread takes a wish that has this refusal: an unlawful one is passed over, a lawful one waits for room
abbrev pub take_judged : Bounds → ℕ → Lane → Event → Option Refusal → Turn
take_judged limits thread lane wish (Some why) = record { lane = use_wish lane; did = Passed why }
take_judged limits thread lane wish None =
    if has_room limits lane
    then record {
      lane = push_note (use_wish lane) (event_note thread (taken_of thread lane) wish);
      did = Taken (length (taken_of thread lane));
    }
    else rest lane

-- the thread takes the wish, if there is one
abbrev pub take_wish : Bounds → ℕ → Lane → Option Event → Turn
take_wish limits thread lane None = rest lane
take_wish limits thread lane (Some wish) =
    take_judged limits thread lane wish (refusal limits thread (taken_of thread lane) wish)

-- the thread takes its next wish, unless it has closed its lane
unfoldable pub take_turn : Bounds → ℕ → Lane → Turn
take_turn limits thread lane =
    if has_closed thread lane then rest lane
    else take_wish limits thread lane (slice_get lane.wishes lane.used)

-- the thread closes its lane by an end mark, where there is room for it
unfoldable pub end_turn : Bounds → ℕ → Lane → Turn
end_turn limits thread lane =
    if has_closed thread lane then rest lane
    else (if has_room limits lane
    then record {
      lane = push_note lane (end_note thread (length (taken_of thread lane)));
      did = Ended;
    } else rest lane)

-- the state after a step, and the answer
pub record Moved : Type 0 where
  pub after : State
  pub did : Did

-- a step that isn't enabled
abbrev pub idle : State → Moved
idle s = record { after = s; did = Nothing }

-- a turn of the thread alone
abbrev pub after_turn : State → ℕ → Turn → Moved
after_turn s thread turn =
    record { after = record s { lanes = slice_set s.lanes thread turn.lane }; did = turn.did }

-- the edges that a body makes which stands at this place of what the thread took: those of its event, ascending
abbrev pub edges_due : ℕ → List Event → ℕ → Body → List (Edge × Sample)
edges_due thread taken place (Happened e) = edges_at thread taken place
edges_due thread taken place (EndMark count) = []

-- the dispatch with these edges made beside those before
abbrev pub add_edges : Dispatch → List (Edge × Sample) → Dispatch
add_edges d edges = record d { made = d.made ++ edges }

-- the collector pulls the note off the lane, if there is one, and adds it to the stream, and its edges to those made
abbrev pub pull_note : State → ℕ → Lane → Option Note → Moved
pull_note s thread lane None = idle s
pull_note s thread lane (Some note) = record {
  after = record s {
    lanes = slice_set s.lanes thread (pop_note lane);
    stream = s.stream ++ note ∷ [];
    dispatch = add_edges s.dispatch (edges_due thread (taken_of thread lane) note.place note.body);
  };
  did = Pulled (accepted_as note.place note.body);
}

-- what the collector answers a note that doesn't come from the front of its lane: the refusal. That it would accept one is shown never to be
abbrev pub answer_again : State → Note → Did
answer_again s note =
    option_map_or Refused (note_refusal s.limits s.stream note)
    (Pulled (accepted_as note.place note.body))

-- the note at this place of the lane is offered once more, or too early, if there is one and it isn't the next to be popped
abbrev pub again_note : State → Lane → ℕ → Option Note → Moved
again_note s lane place None = idle s
again_note s lane place (Some note) =
    if place == lane.popped then idle s else record { after = s; did = answer_again s note }

-- what a thread does with its lane, if the thread is known
abbrev pub on_lane : State → ℕ → (Lane → Moved) → Moved
on_lane s thread move = option_map_or move (slice_get s.lanes thread) (idle s)

-- a step of the dispatch alone
abbrev pub handled : State → Handled → Moved
handled s turn = record { after = record s { dispatch = turn.dispatch }; did = turn.did }

-- one step
unfoldable pub step : State → Step → Moved
step s (Take thread) =
    on_lane s thread (λ lane. after_turn s thread (take_turn s.limits thread lane))
step s (End thread) =
    on_lane s thread (λ lane. after_turn s thread (end_turn s.limits thread lane))
step s (Pull thread) =
    on_lane s thread (λ lane. pull_note s thread lane (slice_get lane.pushed lane.popped))
step s (Again thread place) =
    on_lane s thread (λ lane. again_note s lane place (slice_get lane.pushed place))
step s Ship = handled s (ship_turn s.limits s.dispatch)
step s (Work k) = handled s (work_turn s.dispatch k)

-- the state after these steps
abbrev pub run : State → List Step → State
run s [] = s
run s (x ∷ xs) = run (step s x).after xs

-- the first list is how the second begins
abbrev pub IsPrefixOf : List Event → List Event → Type 0
IsPrefixOf front whole = (more : List Event) × (front ++ more ≡ whole)

-- whatever steps came before: each collected note was its thread's next one, so that none follows its thread's end mark; what is collected
-- of a thread is how what it took begins; and no note is accepted once more or too early
pub record KeepsOrder (s : State) : Type 0 where
  pub in_order : AreInOrder s.limits s.stream
  pub none_after_end : (place : ℕ) (note : Note) → slice_get s.stream place ≡ Some note
      → has_ended note.thread (take place s.stream) ≡ false
  pub front : (thread : ℕ) (lane : Lane) → slice_get s.lanes thread ≡ Some lane
      → IsPrefixOf (events_of thread s.stream) (taken_of thread lane)
  pub refused : (thread place : ℕ) (answer : Accepted)
      → (step s (Again thread place)).did ≢ Pulled answer

-- every list of steps from a new world keeps each thread's order
abbrev pub EveryScheduleKeepsOrder : Type 0
EveryScheduleKeepsOrder =
    (limits : Bounds) (shards : ℕ) (wishes : List (List Event)) → length wishes ≡ limits.threads
    → (steps : List Step) → KeepsOrder (run (start limits shards wishes) steps)

-- the lists of what the threads took, in the order of their numbers
abbrev pub taken_lists : List Lane → List (List Event)
taken_lists lanes = map (λ numbered. taken_of numbered.0 numbered.1) (enumerate_from 0 lanes)

-- every thread's end mark was collected, every edge made is shipped, and every edge shipped is worked
pub record IsDrained (s : State) : Type 0 where
  pub all_ended : (thread : ℕ) → thread < s.limits.threads → IsTrue (has_ended thread s.stream)
  pub done : IsDone s.dispatch
