use Rattle.gl_edges.proofs.Clashing.{NoClash}
use Rattle.gl_edges.proofs.clashes.clashes_from.Given as goal

-- none of the guards so far clashes
abbrev pub invariant-loop-here : goal.invariant-loop-here
invariant-loop-here l = NoClash l.guard l.others l.here
