use Rattle.std.proofs.Common.{◌≡◌, length, take}
use Rattle.std.specs.HashSet.{contains}
use Rattle.gl_grounds.specs.Classes.{are_places}
use Rattle.gl_findings.specs.bodies.Tallies.{IsTally, noted_by, threads_of}
use Rattle.gl_findings.proofs.counts.threads_by_class.Given as goal

-- the threads of the edges so far are noted
abbrev pub invariant-loop-i : goal.invariant-loop-i
invariant-loop-i l = record {
  long : length l.counts.items ≡ length l.table;
  tally : IsTally (noted_by threads_of l.table (take l.i l.table)) (contains are_places l.seen) l.counts.items;
}
