use Rattle.gl_segments.specs.Clocks.{is_before}
use Rattle.gl_filters.specs.Picked.{edges_of_table, picked}
use Rattle.gl_filters.specs.Verdicts.{IsFree}
use Rattle.gl_filters.specs.bodies.Clashing.{clashes}
use Rattle.gl_filters.proofs.verdict.first_after.Given as goal

abbrev pub invariant-loop-j : goal.invariant-loop-j
invariant-loop-j l = IsFree (clashes (is_before l.order) l.clash) (picked (edges_of_table l.table) l.cycle) l.i l.j
