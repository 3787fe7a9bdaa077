use Rattle.std.proofs.Common.{◌≡◌, map, take}
use Rattle.gl_findings.specs.Counts.{counts_of}
use Rattle.gl_findings.proofs.counts.counts_by_edge.Given as goal

-- the counts of the edges so far
abbrev pub invariant-loop-class : goal.invariant-loop-class
invariant-loop-class l = l.counts.items ≡ map (counts_of l.table) (take l.class-index l.table)
