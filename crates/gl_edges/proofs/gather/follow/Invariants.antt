use Rattle.std.proofs.Common.{take}
use Rattle.gl_edges.specs.Tracking.{Follows}
use Rattle.gl_edges.proofs.gather.follow.Given as goal

abbrev pub invariant-loop-place : goal.invariant-loop-place
invariant-loop-place l = Follows l.fn.thread (take l.place l.list) l.tracker
