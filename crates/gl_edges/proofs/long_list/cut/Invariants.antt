use Rattle.std.proofs.Common.{◌-◌, ◌≤◌}
use Rattle.gl_edges.specs.bodies.Sharing.{FollowOn}
use Rattle.gl_edges.proofs.long_list.cut.Given as goal

-- the parts reach up to where the next one begins
abbrev pub invariant-loop-from : goal.invariant-loop-from
invariant-loop-from l = FollowOn 0 l.parts.items l.from × (l.from ≤ l.fn.events)

abbrev pub decreases-loop-from : goal.decreases-loop-from
decreases-loop-from l = l.fn.events - l.from
