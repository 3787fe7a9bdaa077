use Rattle.std.proofs.Common.{◌≤◌, length}
use Rattle.gl_edges.specs.bodies.Sharing.{FollowOn}
use Rattle.gl_edges.proofs.parallel.deal.Given as goal

-- the shares reach up to where the next one begins
abbrev pub invariant-loop-i : goal.invariant-loop-i
invariant-loop-i l = FollowOn 0 l.shares.items l.from × (l.from ≤ l.i) × (l.from ≤ length l.lists)
