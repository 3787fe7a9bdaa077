use Rattle.std.proofs.Common.{◌≡◌}
use Rattle.gl_sought.specs.Sought.{GoesOnSeeking}
use Rattle.gl_sought.specs.Flags.{TellsIfAny}
use Rattle.gl_exclusions.proofs.partners.leave_out_each_stuck.Given as goal

-- so far only edges that are in no cycle were left out, none came back, and it is known whether there were any
abbrev pub invariant-loop-x : goal.invariant-loop-x
invariant-loop-x l = record {
  goes_on : GoesOnSeeking l.sought l.fn.kept.items l.kept.items;
  any : TellsIfAny l.has_changed l.fn.kept.items l.kept.items;
  chain : l.partners.chain ≡ l.fn.partners.chain;
}
