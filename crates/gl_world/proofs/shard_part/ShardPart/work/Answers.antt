use Rattle.std.proofs.Common.{◌++◌, ◌∷◌, [], ap, ◌∙◌, arith}
use Rattle.gl_edges.specs.Edges.{once}
use Rattle.gl_world.proofs.Dispatching.{tabled_more}
use Rattle.gl_world.proofs.shard_part.ShardPart.work.Goals as goal

pub invariant_of-self-2 : goal.invariant_of-self-2
invariant_of-self-2 c =
    tabled_more c.self.inside.shipped.items c.self.inside.table c.insert.new.self c.self.inside.worked c.index-pair.result.now c.self.invariant (omega (arith, c.if-self-len.false, c.len.ensures))
    c.index-pair.ensures
    (c.in_ok-insert.ensures.inserted ∙ ap (λ edge. once (c.self.inside.table ++ (edge, c.index-pair.result.now.1) ∷ [])) c.in_ok-edge.ensures.same)
