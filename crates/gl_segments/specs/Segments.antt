-- The segments of lists of events, the steps between them, and which segment is before which.
-- A thread's number is the position of its list.
use Rattle.std.specs.Prelude.{◌≡◌, ℕ, ◌+◌, ◌<◌, ◌≤◌, ◌⊎◌, List, [], ◌∷◌, Some, take, slice_get}
use Rattle.gl_event.specs.Events.{segment}
use Rattle.gl_event.specs.declared.events.Event.{Event}
use Rattle.gl_event.specs.declared.events.Event.TheVariants.{Fork, Join}
use Rattle.gl_event.specs.declared.events.Segment.{Segment}

-- a segment of the lists: its thread has a list, and has as many segments after the first as forks and joins
pub record IsSegment (lists : List (List Event)) (s : Segment) : Type 0 where
  -- its thread's list
  pub list : List Event
  pub of_thread : slice_get lists s.thread ≡ Some list
  -- it is the last one or an earlier one
  pub within : s.index ≤ segment list

-- this event stands in this segment of the lists
pub record StandsIn (lists : List (List Event)) (s : Segment) (e : Event) : Type 0 where
  -- its thread's list
  pub list : List Event
  pub of_thread : slice_get lists s.thread ≡ Some list
  -- where in the list it stands
  pub place : ℕ
  pub there : slice_get list place ≡ Some e
  -- as many forks and joins stand before it
  pub in_segment : s.index ≡ segment (take place list)

-- b is the segment of a thread that comes after a
pub record IsNext (lists : List (List Event)) (a b : Segment) : Type 0 where
  -- the lists have b
  pub real : IsSegment lists b
  -- both are of one thread
  pub same_thread : b.thread ≡ a.thread
  -- b comes right after a
  pub one_later : b.index ≡ a.index + 1

-- a fork in the segment a starts a thread, and b is that thread's first segment
pub record IsFork (lists : List (List Event)) (a b : Segment) : Type 0 where
  -- where in the source the fork stands
  pub loc : ℕ
  -- the fork stands in a, which it closes
  pub forks : StandsIn lists a (Fork b.thread loc)
  -- the lists have b
  pub real : IsSegment lists b
  -- b is its thread's first segment
  pub first : b.index ≡ 0

-- a is the last segment of a thread, and b comes after the segment in which a join waits for that thread
pub record IsJoin (lists : List (List Event)) (a b : Segment) : Type 0 where
  -- where in the source the join stands
  pub loc : ℕ
  -- the segment that the join closes
  pub joining : ℕ
  -- the join stands in it
  pub joins : StandsIn lists (record { thread = b.thread; index = joining }) (Join a.thread loc)
  -- b comes right after it
  pub one_later : b.index ≡ joining + 1
  -- the lists have a
  pub real : IsSegment lists a
  -- a is the last segment of its thread's whole list
  pub last : a.index ≡ segment real.list

-- a is one step before b
abbrev pub IsStep : List (List Event) → Segment → Segment → Type 0
IsStep lists a b = IsNext lists a b ⊎ (IsFork lists a b ⊎ IsJoin lists a b)

-- a chain of one or more steps leads from a over the segments `via` to b
abbrev pub Leads : (Segment → Segment → Type 0) → Segment → List Segment → Segment → Type 0
Leads Step a [] b = Step a b
Leads Step a (c ∷ via) b = Step a c × Leads Step c via b

-- a is before b: there is a chain of one or more steps from a to b
abbrev pub Before : List (List Event) → Segment → Segment → Type 0
Before lists a b = (via : List Segment) × Leads (IsStep lists) a via b

-- each segment of the ring is one step from the one before it, and the first from the last
abbrev pub IsRing : List (List Event) → List Segment → Type 0
IsRing lists [] = ⊥
IsRing lists (s ∷ via) = Leads (IsStep lists) s via s

-- no segment is before itself
pub record IsConsistent (lists : List (List Event)) : Type 0 where
  -- whichever segment it is
  pub each : (s : Segment) → ¬ Before lists s s

-- the order of segments by thread, then index
abbrev pub IsBelow : Segment → Segment → Type 0
IsBelow a b = (a.thread < b.thread) ⊎ ((a.thread ≡ b.thread) × (a.index < b.index))

-- `at` is the least segment that is before itself, and the ring begins with it
pub record IsLeastInRing (lists : List (List Event)) (at : Segment)
    (ring : List Segment) : Type 0 where
  -- the ring begins with it
  pub begins : slice_get ring 0 ≡ Some at
  -- the ring is one
  pub rings : IsRing lists ring
  -- no lesser segment is before itself
  pub least : (s : Segment) → Before lists s s → ¬ IsBelow s at
