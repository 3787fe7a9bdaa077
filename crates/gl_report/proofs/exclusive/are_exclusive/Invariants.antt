use Rattle.std.proofs.Common.{◌≡◌, true, take}
use Rattle.std.specs.List.{list_all}
use Rattle.gl_report.specs.Exclusive.{is_exclusive_mode}
use Rattle.gl_report.proofs.exclusive.are_exclusive.Given as goal

-- those so far are
abbrev pub invariant-loop-guard : goal.invariant-loop-guard
invariant-loop-guard l = list_all (λ guard. is_exclusive_mode guard.mode) (take l.guard-index l.guards) ≡ true
