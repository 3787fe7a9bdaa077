use Rattle.std.proofs.Common.{◌≡◌, take}
use Rattle.gl_event.specs.Lawful.{lists_of}
use Rattle.gl_report.specs.Counts.{segment_count}
use Rattle.gl_report.proofs.stats.count_segments.Given as goal

-- the segments so far
abbrev pub invariant-loop-list : goal.invariant-loop-list
invariant-loop-list l = l.count ≡ segment_count (lists_of (take l.list-index l.lists))
