-- What is known between two lines of a trace that is judged line by line: its names and what its threads hold, and not its events.
use Rattle.std.specs.Prelude.{◌≡◌, ℕ, ◌<◌, ◌≤◌, List, All, length}
use Rattle.gl_event.specs.Bounds.{Bounds, AreWithinRange}
use Rattle.gl_std.specs.Names.{NameLists}
use Rattle.gl_event.specs.States.{State}
use Rattle.gl_std.specs.Standings.{AreStanding}
use Rattle.gl_std.specs.Trace.{IsTraceOver}
use Rattle.gl_std.specs.declared.trace.Trace.{Trace}

-- what is known of the lines so far: the limits that they are judged under, the names, what each thread holds, how many lines
-- were skipped and how many events were strays, and the number of the next line
pub record Judge : Type 0 where
  pub limits : Bounds
  pub names : NameLists
  pub standings : List State
  pub skipped : ℕ
  pub stray : ℕ
  pub line : ℕ

-- the judged lines told this trace
pub record HasJudged (j : Judge) (told : Trace) : Type 0 where
  pub names : j.names ≡ told.names
  pub states : AreStanding told.lists j.standings
  pub skipped : j.skipped ≡ told.skipped
  pub stray : j.stray ≡ told.stray

-- the judged lines told a trace that obeys the limits, and no line was counted twice
pub record IsSound (j : Judge) : Type 0 where
  pub told : Trace
  pub judged : HasJudged j told
  pub sound : IsTraceOver j.limits told
  pub in_range : AreWithinRange j.limits
  pub few_skipped : j.skipped < j.line
  pub few_stray : j.stray < j.line
  -- so there are no more names and events than the limits allow, and each thread that has a name stands somewhere
  pub threads_fit : length j.names.threads ≤ j.limits.threads
  pub locks_fit : length j.names.locks ≤ j.limits.names
  pub locs_fit : length j.names.locs ≤ j.limits.names
  pub events_fit : All (λ s. s.events ≤ j.limits.events) j.standings
  pub one_standing_each : length j.standings ≡ length j.names.threads
