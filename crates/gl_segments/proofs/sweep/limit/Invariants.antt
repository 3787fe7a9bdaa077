use Rattle.std.proofs.Common.{◌≡◌, ◌+◌, ◌-◌, ◌≤◌, length}
use Rattle.std.specs.Prelude.{◌^◌, min, take}
use Rattle.gl_segments.specs.bodies.Tables.{segments_of}
use Rattle.gl_segments.proofs.sweep.limit.Given as goal

-- the forks, and the segments of the threads so far
abbrev pub invariant-loop-thread : goal.invariant-loop-thread
invariant-loop-thread l = record {
  within : l.thread ≤ length l.steps;
  sum : l.limit ≡ min (l.forks + segments_of (take l.thread l.steps)) (2 ^ 64 - 1);
}
