use Rattle.gl_engine.specs.Receipts.{AreOwnBelow}
use Rattle.gl_engine.proofs.receipts.first_strange.Given as goal

-- none of the receipts so far is strange
abbrev pub invariant-loop-at : goal.invariant-loop-at
invariant-loop-at l = AreOwnBelow l.session l.threads l.receipts l.at
