use Rattle.std.proofs.Common.{◌≡◌, map, take}
use Rattle.serde_json.specs.View.{view}
use Rattle.gl_report.specs.Tree.{edge_tree}
use Rattle.gl_report.proofs.listed.edge_values.Given as goal

-- the edges so far
abbrev pub invariant-loop-pair : goal.invariant-loop-pair
invariant-loop-pair l = map view l.values.items ≡ map (edge_tree l.names) (take l.pair-index l.table)
