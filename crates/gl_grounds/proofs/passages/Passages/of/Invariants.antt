use Rattle.gl_filters.specs.Picked.{edges_of_table}
use Rattle.gl_grounds.specs.Passing.{ArePassagesBefore}
use Rattle.gl_grounds.proofs.passages.Passages.of.Given as goal

-- the edges so far that are flagged lead on only by classes that may
abbrev pub invariant-loop-i : goal.invariant-loop-i
invariant-loop-i l = ArePassagesBefore (edges_of_table l.table) l.classes l.flags l.i l.passages
