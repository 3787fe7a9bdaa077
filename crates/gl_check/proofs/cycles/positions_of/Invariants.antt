use Rattle.std.proofs.Common.{map, take}
use Rattle.serde_json.specs.View.{view}
use Rattle.gl_check.specs.Edges.{NameEdges}
use Rattle.gl_check.proofs.cycles.positions_of.Given as goal

-- the edges so far
abbrev pub invariant-loop-k : goal.invariant-loop-k
invariant-loop-k l = NameEdges l.format l.names l.table (map view (take l.k l.edges)) l.positions.items
