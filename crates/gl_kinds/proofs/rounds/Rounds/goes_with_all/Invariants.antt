use Rattle.gl_kinds.proofs.rounds.Rounds.goes_with_all.Given as goal

-- nothing is remembered
abbrev pub invariant-loop-place : goal.invariant-loop-place
invariant-loop-place l = Unit {0}
