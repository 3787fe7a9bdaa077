-- What a drained machine reports, whatever steps led there.
use Rattle.std.specs.Prelude.{◌≡◌, ℕ, List, length, Some, slice_get}
use Rattle.gl_event.specs.Bounds.{Bounds}
use Rattle.gl_event.specs.declared.events.Event.{Event}
use Rattle.gl_event.specs.declared.events.Segment.{Segment}
use Rattle.gl_edges.specs.Edges.{once, edges}
use Rattle.gl_edges.specs.declared.edge.Edge.{Edge}
use Rattle.gl_edges.specs.declared.edge.Sample.{Sample}
use Rattle.gl_segments.specs.Segments.{IsLeastInRing}
use Rattle.gl_filters.specs.Asked.{Asked}
use Rattle.gl_cycles.specs.Reports.{IsReport, IsGoodlockReport, IsReportFault}
use Rattle.gl_cycles.specs.declared.found.Report.{Report}
use Rattle.gl_cycles.specs.declared.found.ReportFault.{ReportFault}
use Rattle.gl_intake.specs.Stream.{events_of, logs_of}
use Rattle.gl_world.specs.Dispatch.{all_worked}
use Rattle.gl_world.specs.Keeping.{IsSound}
use Rattle.gl_world.specs.Machine.{Lane, State, start, step, run, taken_of, taken_lists, IsDrained, KeepsOrder}
use Rattle.gl_world.specs.declared.steps.Step.{Step}

-- the lists of what was collected, in the order of thread numbers
abbrev pub collected_lists : State → List (List Event)
collected_lists s = logs_of s.limits.threads s.stream

-- the edges that were worked, each once, ascending, with its least sample
abbrev pub worked_table : State → List (Edge × Sample)
worked_table s = once (all_worked s.dispatch.shards)

-- this is the report of the state: that over the edges worked so far, by the order of what was collected
abbrev pub IsReportOf : Asked → State → Report → Type 0
IsReportOf asked s report = IsReport asked (worked_table s) (collected_lists s) report

-- what is there to report is all that the threads took: of each thread the whole list, and exactly the edges of these lists with their samples
pub record HasAllTaken (s : State) : Type 0 where
  pub each : (thread : ℕ) (lane : Lane) → slice_get s.lanes thread ≡ Some lane
      → events_of thread s.stream ≡ taken_of thread lane
  pub lists : collected_lists s ≡ taken_lists s.lanes
  pub table : worked_table s ≡ edges (taken_lists s.lanes)

-- a state to which some list of steps leads from a new world
pub record IsReached (s : State) : Type 0 where
  pub limits : Bounds
  pub shards : ℕ
  pub wishes : List (List Event)
  pub each_thread : length wishes ≡ limits.threads
  pub steps : List Step
  pub there : s ≡ run (start limits shards wishes) steps

-- the state's report is the Goodlock report of what the threads took, and what stands against a report is the loop of segments that stands
-- against that one
pub record ReportsWhatWasTaken (s : State) : Type 0 where
  pub taken : HasAllTaken s
  pub report : (asked : Asked) (report : Report) → IsReportOf asked s report
      → IsGoodlockReport asked (taken_lists s.lanes) report
  pub fault : (fault : ReportFault) → IsReportFault (collected_lists s) fault
      → IsReportFault (taken_lists s.lanes) fault

-- a new world is sound, each step keeps a state sound, and in a sound state each thread's order is kept
pub record StaysSound : Type 0 where
  pub start : (limits : Bounds) (shards : ℕ) (wishes : List (List Event))
      → length wishes ≡ limits.threads → IsSound (start limits shards wishes)
  pub step : (s : State) (x : Step) → IsSound s → IsSound (step s x).after
  pub order : (s : State) → IsSound s → KeepsOrder s

-- however it came about, a sound and drained state reports what was taken
abbrev pub EverySoundDrainedStateReportsWhatWasTaken : Type 0
EverySoundDrainedStateReportsWhatWasTaken =
    (s : State) → IsSound s → IsDrained s → ReportsWhatWasTaken s

-- and so does every drained state to which steps lead
abbrev pub EveryDrainedScheduleReportsWhatWasTaken : Type 0
EveryDrainedScheduleReportsWhatWasTaken =
    (s : State) → IsReached s → IsDrained s → ReportsWhatWasTaken s

-- two drained states in which the threads took the same have the same report, whatever steps led there, and however many shards there were
abbrev pub ReportsDontShowTheSchedule : Type 0
ReportsDontShowTheSchedule =
    (a b : State) → IsReached a → IsReached b → IsDrained a → IsDrained b
    → taken_lists a.lanes ≡ taken_lists b.lanes
    → (asked : Asked) (of_a of_b : Report) → IsReportOf asked a of_a → IsReportOf asked b of_b
    → of_a ≡ of_b

-- nor does the loop of segments that stands against a report: the least segment before itself is the same, and where one state has
-- such a loop the other has no report
pub record LoopsDontShowTheSchedule : Type 0 where
  pub same : (a b : State) → IsReached a → IsReached b → IsDrained a → IsDrained b
      → taken_lists a.lanes ≡ taken_lists b.lanes
      → (at_a at_b : Segment) (ring_a ring_b : List Segment)
      → IsLeastInRing (collected_lists a) at_a ring_a
      → IsLeastInRing (collected_lists b) at_b ring_b → at_a ≡ at_b
  pub either : (a b : State) → IsReached a → IsReached b → IsDrained a → IsDrained b
      → taken_lists a.lanes ≡ taken_lists b.lanes
      → (asked : Asked) (report : Report) (at : Segment) (ring : List Segment)
      → IsReportOf asked a report → ¬ IsLeastInRing (collected_lists b) at ring
