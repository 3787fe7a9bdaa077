use Rattle.gl_engine.specs.Receipts.{AreThereBelow}
use Rattle.gl_engine.proofs.receipts.first_missing.Given as goal

-- each of the threads so far has a receipt
abbrev pub invariant-loop-number : goal.invariant-loop-number
invariant-loop-number l = AreThereBelow l.receipts l.number
