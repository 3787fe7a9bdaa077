-- What is counted of a trace and of its report, and how the counts are printed.
use Rattle.std.specs.Prelude.{ℕ, ◌+◌, List, ◌++◌, length, codes, decimal}
use Rattle.std.specs.List.{sum_by}
use Rattle.gl_event.specs.Events.{segment}
use Rattle.gl_event.specs.declared.events.Event.{Event}
use Rattle.gl_std.specs.declared.trace.Trace.{Trace}
use Rattle.gl_cycles.specs.declared.found.Report.{Report}
use Rattle.gl_report.specs.declared.stats.Stats.{Stats}

-- how many events the lists hold
abbrev pub event_count : List (List Event) → ℕ
event_count lists = sum_by length lists

-- how many segments the lists have: each list has one more than forks and joins
abbrev pub segment_count : List (List Event) → ℕ
segment_count lists = sum_by (λ es. segment es + 1) lists

-- the counts of a trace and of a report of it
abbrev pub stats_of : Trace → Report → Stats
stats_of trace report =
    record {
      events = event_count trace.lists;
      skipped = trace.skipped;
      stray = trace.stray;
      threads = length trace.names.threads;
      locks = length trace.names.locks;
      segments = segment_count trace.lists;
      edges = length report.edges;
      cycles = length report.found.cycles;
    }

-- a count with its name
abbrev pub count_line : List ℕ → ℕ → List ℕ
count_line name count = name ++ codes ": " ++ decimal count ++ codes "\n"

-- the counts as text, each on a line
abbrev pub stats_text : Stats → List ℕ
stats_text stats =
    count_line (codes "events") stats.events
    ++ count_line (codes "skipped") stats.skipped
    ++ count_line (codes "stray") stats.stray
    ++ count_line (codes "threads") stats.threads
    ++ count_line (codes "locks") stats.locks
    ++ count_line (codes "segments") stats.segments
    ++ count_line (codes "edges") stats.edges
    ++ count_line (codes "cycles") stats.cycles
