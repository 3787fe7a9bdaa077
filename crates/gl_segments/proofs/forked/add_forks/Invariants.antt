use Rattle.gl_segments.proofs.Forking.{AddsBelow}
use Rattle.gl_segments.proofs.forked.add_forks.Given as goal

-- those of the events so far
abbrev pub invariant-loop-index : goal.invariant-loop-index
invariant-loop-index l = AddsBelow l.fn.forks.items l.forks.items l.from l.cuts l.index
