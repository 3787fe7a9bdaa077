-- The counts of clocks, without the zeros after them, from which searches start.
use Rattle.std.specs.Prelude.{ℕ, ◌≤◌, List, length, Contains}
use Rattle.gl_event.specs.declared.events.Segment.{Segment}
use Rattle.gl_segments.specs.declared.forked.Spawn.{Spawn}
use Rattle.gl_segments.specs.bodies.Tables.{Sources, LeadsTo, Precedes}
use Rattle.gl_segments.specs.bodies.Search.{Counts, CountsSources}

-- a thread's first segment
abbrev pub first_of : ℕ → Segment
first_of thread = record { thread = thread; index = 0 }

-- each of the forks closes a segment that is one step before the first one of the thread that it starts
abbrev pub AreStarting : Sources → List Spawn → Type 0
AreStarting steps forks = (s : Spawn) → Contains forks s → LeadsTo steps s.from (first_of s.thread)

-- the counts, and zeros after them, are a clock from which a search may start
pub record IsFront (steps : Sources) (counts : List ℕ) (target : Segment) : Type 0 where
  -- there are no more of them than threads
  pub few : length counts ≤ length steps
  -- what they count is before the target
  pub before : (s : Segment) → Counts counts s → Precedes steps s target
  -- the target isn't counted
  pub fresh : ¬ Counts counts target
  -- they count what is before a segment that they count
  pub closed : (s : Segment) → Counts counts s → CountsSources steps counts s
