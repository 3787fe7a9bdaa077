use Rattle.std.proofs.Common.{◌≡◌, ◌++◌, length}
use Rattle.std.specs.Vec.Iter.{into_iter_items, into_iter_len}
use Rattle.gl_segments.specs.bodies.Rows.{AreClocksTo}
use Rattle.gl_segments.specs.bodies.Sweeps.{HaveRows}
use Rattle.gl_segments.specs.bodies.Tables.{Sources}
use Rattle.gl_segments.proofs.rows.Rows.histories.Given as goal

-- those of the threads so far
abbrev pub invariant-loop-row : goal.invariant-loop-row
invariant-loop-row l = record {
  all : l.yielded ++ into_iter_items l.row-iterator ≡ l.fn.self;
  counted : into_iter_len l.row-iterator ≡ length (into_iter_items l.row-iterator);
  size : length l.yielded ≡ length l.histories.items;
  clocks : (steps : Sources) → HaveRows steps l.fn.self → AreClocksTo steps l.histories.items (length l.histories.items);
}
