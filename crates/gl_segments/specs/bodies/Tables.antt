-- The steps, by the segment to which they lead.
use Rattle.std.specs.Prelude.{◌≡◌, ◌↔◌, ℕ, ◌+◌, ◌<◌, ◌≤◌, ◌^◌, List, [], ◌∷◌, length, Option, Some, map, filter, Contains, slice_get, slice_index_or, option_and_then}
use Rattle.std.specs.List.{sum_by}
use Rattle.std.specs.Option.{option_map_or}
use Rattle.gl_event.specs.Events.{segment, closes}
use Rattle.gl_event.specs.declared.events.Event.{Event}
use Rattle.gl_event.specs.declared.events.Event.TheVariants.{Acquire, Release, TryAcquire, Fork, Join}
use Rattle.gl_event.specs.declared.events.Segment.{Segment}
use Rattle.gl_event.specs.declared.limits.TheConstants.{MAX_THREADS}
use Rattle.gl_segments.specs.Segments.{IsStep, Leads}

-- for each segment of each thread, the segments that are one step before it
abbrev pub Sources : Type 0
Sources = List (List (List Segment))

-- for each segment of a thread, the segments that are one step before it
abbrev pub steps_of_thread : Sources → ℕ → List (List Segment)
steps_of_thread steps thread = slice_index_or steps thread []

-- how many segments the table has
abbrev pub segments_of : Sources → ℕ
segments_of steps = sum_by length steps

-- the segments that are one step before this one
abbrev pub sources : Sources → Segment → List Segment
sources steps s = slice_index_or (steps_of_thread steps s.thread) s.index []

-- the table has the segment
abbrev pub Has : Sources → Segment → Type 0
Has steps s = s.index < length (steps_of_thread steps s.thread)

-- a is one step before b, by the table
abbrev pub LeadsTo : Sources → Segment → Segment → Type 0
LeadsTo steps a b = Contains (sources steps b) a

-- a is before b, by the table
abbrev pub Precedes : Sources → Segment → Segment → Type 0
Precedes steps a b = (via : List Segment) × Leads (LeadsTo steps) a via b

-- a table whose steps are between its segments, and that has the steps from each segment to its thread's next
pub record IsSound (steps : Sources) : Type 0 where
  -- it has few threads
  pub few : length steps ≤ MAX_THREADS
  -- the segments of a thread can be counted by a u32
  pub small : (thread : ℕ) → length (steps_of_thread steps thread) < 2 ^ 32
  -- each thread has a segment
  pub some : (thread : ℕ) → thread < length steps → 0 < length (steps_of_thread steps thread)
  -- a step leads from a segment of the table
  pub inside : (a b : Segment) → LeadsTo steps a b → Has steps a
  -- a thread's segment is one step before its next one
  pub next : (a b : Segment) → Has steps b → b.thread ≡ a.thread → b.index ≡ a.index + 1
      → LeadsTo steps a b

-- the table has exactly the steps of the lists
pub record ShowsSteps (lists : List (List Event)) (steps : Sources) : Type 0 where
  -- it has the threads of the lists
  pub threads : length steps ≡ length lists
  -- it has the segments of the lists
  pub segments : (thread : ℕ) (es : List Event) → slice_get lists thread ≡ Some es
      → length (steps_of_thread steps thread) ≡ segment es + 1
  -- each step of the lists is one of the table
  pub forward : (a b : Segment) → IsStep lists a b → LeadsTo steps a b
  -- each step of the table is one of the lists
  pub back : (a b : Segment) → LeadsTo steps a b → IsStep lists a b

-- each thread's forks and joins: the one at a position closes the segment of that index
abbrev pub cuts_of : List (List Event) → List (List Event)
cuts_of lists = map (filter closes) lists

-- few lists of forks and joins, none of them too long to count
pub record AreSmall (cuts : List (List Event)) : Type 0 where
  -- at most 1,024 lists
  pub few : length cuts ≤ MAX_THREADS
  -- the segments of each can be counted by a u32
  pub small : (thread : ℕ) (es : List Event) → slice_get cuts thread ≡ Some es
      → length es + 1 < 2 ^ 32

-- the fork or join that closes the segment
abbrev pub cut_at : List (List Event) → Segment → Option Event
cut_at cuts s = option_and_then (λ es. slice_get es s.index) (slice_get cuts s.thread)

-- a fork of the thread closes this segment
abbrev pub Forks : List (List Event) → ℕ → Segment → Type 0
Forks cuts thread s = (loc : ℕ) × (cut_at cuts s ≡ Some (Fork thread loc))

-- the last segment of the thread that the event joins, if that has a list
abbrev pub joined_last : List (List Event) → Event → List Segment
joined_last cuts (Acquire mode lock loc) = []
joined_last cuts (Release mode lock loc) = []
joined_last cuts (TryAcquire mode lock loc) = []
joined_last cuts (Fork thread loc) = []
joined_last cuts (Join thread loc) =
    option_map_or (λ es. record { thread = thread; index = length es } ∷ [])
    (slice_get cuts thread) []

-- these are the steps of a thread with these forks and joins: what is one step before each of its segments
pub record AreStepsOfThread (cuts : List (List Event)) (thread : ℕ) (es : List Event)
    (sources : List (List Segment)) : Type 0 where
  -- one for each segment
  pub size : length sources ≡ length es + 1
  -- before the first: the segments that forks of the thread close
  pub first : (a : Segment) → Contains (slice_index_or sources 0 []) a ↔ Forks cuts thread a
  -- before a later one: the thread's segment before it, and what was joined there
  pub later : (i : ℕ) (e : Event) → slice_get es i ≡ Some e
      → slice_index_or sources (i + 1) [] ≡ record { thread = thread; index = i }
      ∷ joined_last cuts e
