use Rattle.gl_event.specs.Lawful.{lists_of}
use Rattle.gl_segments.proofs.Forking.{ForksBelow}
use Rattle.gl_segments.proofs.forked.all_forks.Given as goal

-- those of the threads so far
abbrev pub invariant-loop-from : goal.invariant-loop-from
invariant-loop-from l = ForksBelow (lists_of l.cuts) l.forks.items l.from
