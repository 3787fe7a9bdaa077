use Rattle.gl_filters.specs.Picked.{edges_of_table}
use Rattle.gl_grounds.specs.Spanning.{HasModelsBefore}
use Rattle.gl_grounds.proofs.spans.spans_of_models.Given as goal

-- the models so far have their spans
abbrev pub invariant-loop-i : goal.invariant-loop-i
invariant-loop-i l = HasModelsBefore (edges_of_table l.table) l.classes l.flags l.i l.list.items
