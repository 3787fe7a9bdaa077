use Rattle.std.proofs.Common.{◌≡◌, ℕ, map, take}
use Rattle.gl_edges.specs.bodies.Seen.{noted, opened_of, LeadsTo}
use Rattle.gl_edges.proofs.seen.Tree.node_of.Given as goal

abbrev pub invariant-loop-depth : goal.invariant-loop-depth
invariant-loop-depth l = record {
  leads : LeadsTo l.self l.parent (map opened_of (take l.depth l.entries));
  same : (thread : ℕ) → noted thread l.self ≡ noted thread l.fn.self;
}
