use Rattle.std.proofs.Common.{◌≡◌, take}
use Rattle.gl_event.specs.Lawful.{lists_of}
use Rattle.gl_report.specs.Counts.{event_count}
use Rattle.gl_report.proofs.stats.count_events.Given as goal

-- the events so far
abbrev pub invariant-loop-list : goal.invariant-loop-list
invariant-loop-list l = l.count ≡ event_count (lists_of (take l.list-index l.lists))
