-- What a sweep over the steps knows of each thread.
use Rattle.std.specs.Prelude.{◌≡◌, ℕ, ◌-◌, ◌<◌, ◌≤◌, Bool, true, false, not, ◌&&◌, ◌==◌, nat_lt, List, Some, length, Contains, slice_get, slice_index}
use Rattle.std.specs.Option.{option_map_or}
use Rattle.std.specs.Global.{Vec}
use Rattle.gl_event.specs.declared.events.Segment.{Segment}
use Rattle.gl_segments.specs.declared.history.Growing.{Growing}
use Rattle.gl_segments.specs.declared.rows.Row.{Row}
use Rattle.gl_segments.specs.declared.rows.Row.TheVariants.{Waiting, Begun, Ended}
use Rattle.gl_segments.specs.declared.sweep.Sweep.{Sweep}
use Rattle.gl_segments.specs.bodies.Fronts.{first_of, AreStarting, IsFront}
use Rattle.gl_segments.specs.bodies.Histories.{IsNoted}
use Rattle.gl_segments.specs.bodies.Rows.{AreClocksBelow, AreClocksOf}
use Rattle.gl_segments.specs.bodies.Search.{Counts, IsClockOf, CountsSources}
use Rattle.gl_segments.specs.bodies.Tables.{Sources, steps_of_thread, IsSound, LeadsTo, Precedes}

-- a clock that counts a part of what is before the target
pub record IsPart (steps : Sources) (clock : List ℕ) (target : Segment) : Type 0 where
  -- it has a count for each thread
  pub width : length clock ≡ length steps
  -- what it counts is before the target
  pub before : (s : Segment) → Counts clock s → Precedes steps s target
  -- it counts what is before a segment that it counts
  pub closed : (s : Segment) → Counts clock s → CountsSources steps clock s

-- the clocks of one or more of the thread's first segments were made
pub record IsGrowing (steps : Sources) (thread : ℕ) (g : Growing) : Type 0 where
  -- they are this thread's
  pub same_thread : g.thread ≡ thread
  -- they have a count for each thread
  pub width : length g.latest ≡ length steps
  -- there is one
  pub begun : 0 < g.segments
  -- there are no more than segments
  pub within : g.segments ≤ length (steps_of_thread steps thread)
  -- they were noted, and none of these segments is before itself
  pub clocks : (cs : List (List ℕ)) × IsNoted g cs × AreClocksBelow steps thread cs g.segments
  -- the latest counts are the last one
  pub latest : IsClockOf steps g.latest (record { thread = thread; index = g.segments - 1 })

-- what is known of a thread
abbrev pub IsRow : Sources → ℕ → Row → Type 0
IsRow steps thread (Waiting front) = IsFront steps front.items (first_of thread)
IsRow steps thread (Begun growing) = IsGrowing steps thread growing
IsRow steps thread (Ended history) = AreClocksOf steps thread history

-- all clocks of the thread are made
abbrev pub has_ended : Row → Bool
has_ended (Waiting front) = false
has_ended (Begun growing) = false
has_ended (Ended history) = true

-- all clocks of this thread are made
abbrev pub is_ended : List Row → ℕ → Bool
is_ended rows thread = option_map_or has_ended (slice_get rows thread) false

-- this segment's thread is another one than the growing one and hasn't ended, and the latest counts don't count the segment
abbrev pub is_awaited : List Row → Growing → Segment → Bool
is_awaited rows g s =
    not (s.thread == g.thread) && not (nat_lt s.index (slice_index g.latest s.thread))
    && not (is_ended rows s.thread)

-- what is known of each thread
abbrev pub HaveRows : Sources → List Row → Type 0
HaveRows steps rows = (thread : ℕ) (r : Row) → slice_get rows thread ≡ Some r → IsRow steps thread r

-- no front has more counts than so many
abbrev pub FrontsFit : List Row → ℕ → Type 0
FrontsFit rows n = (t : ℕ) (v : Vec ℕ) → slice_get rows t ≡ Some (Waiting v) → length v.items ≤ n

-- each of these segments is counted
abbrev pub CountsAll : List ℕ → List Segment → Type 0
CountsAll clock segments = (s : Segment) → Contains segments s → Counts clock s

-- the clock counts each segment that is one step before this one and of whose thread all clocks are made
abbrev pub CountsEnded : Sources → List Row → List ℕ → Segment → Type 0
CountsEnded steps rows clock at =
    (s : Segment) → LeadsTo steps s at → is_ended rows s.thread ≡ true → Counts clock s

-- no clock of the thread is made, and what is known to be before its first segment has this segment
abbrev pub FrontCounts : List Row → ℕ → Segment → Type 0
FrontCounts rows thread s =
    (front : Vec ℕ) × (slice_get rows thread ≡ Some (Waiting front)) × Counts front.items s

-- where no clock of the thread is made, what is known to be before its first segment has got this segment
pub record RaisesFront (old new : List Row) (thread : ℕ) (from : Segment) : Type 0 where
  -- it has what it had
  pub kept : (s : Segment) → FrontCounts old thread s → FrontCounts new thread s
  -- and the segment
  pub counted : (front : Vec ℕ) → slice_get old thread ≡ Some (Waiting front)
      → FrontCounts new thread from

-- how far a sweep over the steps has come
pub record AreSwept (steps : Sources) (sweep : Sweep) : Type 0 where
  -- the forks are such
  pub forks : AreStarting steps sweep.forks.items
  -- there is a row for each thread
  pub size : length sweep.rows ≡ length steps
  -- they are known
  pub rows : HaveRows steps sweep.rows

-- a sweep over the steps may go on
pub record CanSweep (steps : Sources) (sweep : Sweep) : Type 0 where
  -- the steps can be taken
  pub sound : IsSound steps
  -- so far it has come
  pub swept : AreSwept steps sweep
