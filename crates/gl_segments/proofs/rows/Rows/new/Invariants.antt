use Rattle.std.proofs.Common.{◌≡◌, length}
use Rattle.gl_segments.specs.bodies.Sweeps.{HaveRows}
use Rattle.gl_segments.specs.bodies.Tables.{Sources}
use Rattle.gl_segments.proofs.rows.Rows.new.Given as goal

-- nothing is known of the threads so far
abbrev pub invariant-loop : goal.invariant-loop
invariant-loop l = record {
  size : length l.rows.items ≡ l.counter;
  rows : (steps : Sources) → HaveRows steps l.rows.items;
}
