use Rattle.gl_edges.proofs.Clashing.{IsWalked}
use Rattle.gl_edges.proofs.clashes.do_meet.Given as goal

abbrev pub invariant-loop-guard : goal.invariant-loop-guard
invariant-loop-guard l = IsWalked l.guards l.others l.guard-index l.place
