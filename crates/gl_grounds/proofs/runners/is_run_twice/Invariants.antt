use Rattle.gl_grounds.proofs.runners.is_run_twice.Given as goal

abbrev pub invariant-loop-k : goal.invariant-loop-k
invariant-loop-k l = Unit {0}
