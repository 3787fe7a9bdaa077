use Rattle.std.proofs.Common.{◌≡◌, map, take}
use Rattle.serde_json.specs.View.{view}
use Rattle.gl_report.specs.Tree.{name_tree}
use Rattle.gl_report.proofs.values.guard_values.Given as goal

-- the guards so far
abbrev pub invariant-loop-guard : goal.invariant-loop-guard
invariant-loop-guard l = map view l.values.items ≡ map (λ guard. name_tree l.names.locks guard.lock) (take l.guard-index l.guards)
