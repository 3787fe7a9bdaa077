use Rattle.std.proofs.Common.{◌≡◌, map, take}
use Rattle.std.specs.Prelude.{slice_get}
use Rattle.std.specs.List.{filter_map}
use Rattle.serde_json.specs.View.{view}
use Rattle.gl_report.specs.TreeV1.{edge_tree_v1}
use Rattle.gl_report.proofs.tree_v1.edge_values.Given as goal

-- the edges so far
abbrev pub invariant-loop-position : goal.invariant-loop-position
invariant-loop-position l = map view l.values.items ≡ map (edge_tree_v1 l.names) (filter_map (slice_get l.table) (take l.position-index l.cycle))
