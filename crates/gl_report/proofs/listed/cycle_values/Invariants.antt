use Rattle.std.proofs.Common.{◌≡◌, map, take}
use Rattle.serde_json.specs.View.{view}
use Rattle.gl_report.specs.Tree.{positions_tree}
use Rattle.gl_report.proofs.listed.cycle_values.Given as goal

-- the cycles so far
abbrev pub invariant-loop-cycle : goal.invariant-loop-cycle
invariant-loop-cycle l = map view l.values.items ≡ map positions_tree (map (λ cycle. cycle.items) (take l.cycle-index l.cycles))
