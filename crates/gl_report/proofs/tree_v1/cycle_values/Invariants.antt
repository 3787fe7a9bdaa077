use Rattle.std.proofs.Common.{◌≡◌, map, take}
use Rattle.serde_json.specs.View.{view}
use Rattle.gl_report.specs.TreeV1.{cycle_tree_v1}
use Rattle.gl_report.proofs.tree_v1.cycle_values.Given as goal

-- the cycles so far
abbrev pub invariant-loop-cycle : goal.invariant-loop-cycle
invariant-loop-cycle l = map view l.values.items ≡ map (cycle_tree_v1 l.names l.table) (map (λ cycle. cycle.items) (take l.cycle-index l.cycles))
