use Rattle.std.proofs.Common.{◌≡◌, ◌++◌}
use Rattle.std.specs.Vec.Iter.{into_iter_items}
use Rattle.gl_edges.specs.Edges.{once}
use Rattle.gl_shards.specs.Tables.{all_pairs, union}
use Rattle.gl_shards.proofs.merging.merge.Given as goal

abbrev pub invariant-loop-table : goal.invariant-loop-table
invariant-loop-table l = record {
  own : once l.all ≡ l.all;
  whole : once (l.all ++ all_pairs (into_iter_items l.table-iterator)) ≡ union l.fn.tables.items;
}
