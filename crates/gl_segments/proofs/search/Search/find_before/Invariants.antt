use Rattle.std.proofs.Common.{◌≡◌, ◌+◌, ◌-◌, ◌≤◌, length}
use Rattle.gl_segments.specs.bodies.Search.{Explores, GrowsBy, unseen}
use Rattle.gl_segments.proofs.search.Search.find_before.Given as goal

-- the entries before `done` were looked at
abbrev pub invariant-loop-done : goal.invariant-loop-done
invariant-loop-done l = record {
  same_target : l.self.target ≡ l.fn.target;
  within : l.done ≤ length l.self.found.items;
  explored : Explores l.steps l.fn.target l.self.clock l.self.found.items l.done;
  grown : GrowsBy l.fn.self.clock l.self.found.items l.self.clock;
}

-- what is neither seen nor looked at
abbrev pub decreases-loop-done : goal.decreases-loop-done
decreases-loop-done l = unseen l.steps l.self.clock + length l.self.found.items - l.done
