use Rattle.std.proofs.Common.{◌≡◌, ◌+◌, take}
use Rattle.gl_event.specs.Events.{segment}
use Rattle.gl_report.proofs.stats.segments_in.Given as goal

-- the segments so far
abbrev pub invariant-loop-event : goal.invariant-loop-event
invariant-loop-event l = l.count ≡ segment (take l.event-index l.list) + 1
