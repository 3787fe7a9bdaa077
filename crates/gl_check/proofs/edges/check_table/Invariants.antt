use Rattle.std.proofs.Common.{◌≡◌, ◌≤◌, length, map, take}
use Rattle.serde_json.specs.View.{view}
use Rattle.gl_report.specs.Tree.{edge_tree}
use Rattle.gl_check.proofs.edges.check_table.Given as goal

-- the entries so far are those of the table
abbrev pub invariant-loop-k : goal.invariant-loop-k
invariant-loop-k l = record {
  within : l.k ≤ length l.values;
  same : map view (take l.k l.values) ≡ map (edge_tree l.names) (take l.k l.table);
}
