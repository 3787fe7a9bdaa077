use Rattle.gl_edges.proofs.Clashing.{NoneBelow}
use Rattle.gl_filters.proofs.verdict.gate_lock.Given as goal

-- none of the guards so far clashes with the other set
abbrev pub invariant-loop-guard : goal.invariant-loop-guard
invariant-loop-guard l = NoneBelow l.guards l.others l.guard-index
