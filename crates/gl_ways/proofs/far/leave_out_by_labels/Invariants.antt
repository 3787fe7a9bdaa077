use Rattle.gl_sought.specs.Sought.{GoesOnSeeking}
use Rattle.gl_sought.specs.Walks.{GrowByOne}
use Rattle.gl_ways.proofs.far.leave_out_by_labels.Given as goal

-- so far only edges that are in no cycle were left out, none came back, and the labels still grow by one along those that are kept
abbrev pub invariant-loop-x : goal.invariant-loop-x
invariant-loop-x l = record {
  goes_on : GoesOnSeeking l.sought l.fn.kept.items l.kept.items;
  grow : GrowByOne l.kept.items l.ends l.labels;
}
