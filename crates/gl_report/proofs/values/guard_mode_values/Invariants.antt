use Rattle.std.proofs.Common.{◌≡◌, map, take}
use Rattle.serde_json.specs.View.{view}
use Rattle.gl_report.specs.Tree.{lock_mode_tree}
use Rattle.gl_report.proofs.values.guard_mode_values.Given as goal

-- the modes so far
abbrev pub invariant-loop-guard : goal.invariant-loop-guard
invariant-loop-guard l = map view l.values.items ≡ map (λ guard. lock_mode_tree guard.mode) (take l.guard-index l.guards)
