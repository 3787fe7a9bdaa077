use Rattle.std.proofs.Common.{◌≡◌, ◌++◌}
use Rattle.gl_edges.specs.Edges.{once}
use Rattle.gl_edges.proofs.table.Table.copy.Given as goal

abbrev pub invariant-loop-edge : goal.invariant-loop-edge
invariant-loop-edge l = record {
  own : once l.table ≡ l.table;
  whole : once (l.table ++ l.edge-iterator) ≡ l.fn.self;
}
