use Rattle.std.proofs.Common.{◌≡◌, ◌++◌}
use Rattle.gl_edges.specs.Edges.{once}
use Rattle.gl_edges.proofs.table.Table.absorb.Given as goal

abbrev pub invariant-loop-edge : goal.invariant-loop-edge
invariant-loop-edge l = record {
  own : once l.self ≡ l.self;
  whole : once (l.self ++ l.edge-iterator) ≡ once (l.fn.self ++ l.fn.other);
}
