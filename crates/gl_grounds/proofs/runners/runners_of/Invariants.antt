use Rattle.gl_filters.specs.Picked.{edges_of_table}
use Rattle.gl_grounds.specs.Running.{AreRunnersBefore}
use Rattle.gl_grounds.proofs.runners.runners_of.Given as goal

-- the edges so far that are kept are of threads that run their classes
abbrev pub invariant-loop-i : goal.invariant-loop-i
invariant-loop-i l = AreRunnersBefore l.i (edges_of_table l.table) l.classes l.kept l.runners.items
