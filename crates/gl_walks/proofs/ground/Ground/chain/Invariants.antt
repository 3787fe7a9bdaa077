use Rattle.std.proofs.Common.{length}
use Rattle.gl_filters.specs.Picked.{edges_of_table}
use Rattle.gl_walks.specs.bodies.Listing.{IsChain, key_at}
use Rattle.gl_walks.proofs.ground.Ground.chain.Given as goal

-- the positions from i on are in the chain
abbrev pub invariant-loop-i : goal.invariant-loop-i
invariant-loop-i l = IsChain (key_at l.keyed (edges_of_table l.self.table.now) l.self.classes.now l.self.flags.now) (length l.self.table.now) l.i l.chain
