use Rattle.std.proofs.Common.{take}
use Rattle.gl_event.specs.Lawful.{lists_of}
use Rattle.gl_edges.specs.Edges.{edges_made_from}
use Rattle.gl_edges.specs.bodies.Tables.{IsTableOf}
use Rattle.gl_edges.proofs.gather.edges_from.Given as goal

abbrev pub invariant-loop-index : goal.invariant-loop-index
invariant-loop-index l = IsTableOf l.gatherer.batch (edges_made_from l.first (lists_of (take l.index l.lists)))
