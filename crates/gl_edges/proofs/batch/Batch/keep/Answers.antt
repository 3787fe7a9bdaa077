use Rattle.std.proofs.Common.{[], ◌∷◌, ◌++◌, refl, sym, ap, ◌∙◌}
use Rattle.gl_edges.specs.Edges.{once}
use Rattle.gl_edges.proofs.Batching.{once_push}
use Rattle.gl_edges.proofs.batch.Batch.keep.Goals as goal

pub returns-then-knows : goal.returns-then-knows
returns-then-knows c = sym (c.knows.ensures c.if-knows.true) ∙ ap (λ pairs. once (pairs ++ (c.args.edge.now, c.args.sample) ∷ [])) c.make_room.ensures

pub returns : goal.returns
returns c =
    rw (c.in_ok-push.ensures.items, c.in_ok-copy.ensures.same)
    (once_push c.self.inside.ended.items c.self.inside.pairs.items c.self.inside.pairs.items (c.args.edge.now, c.args.sample) refl
    ∙ ap (λ pairs. once (pairs ++ (c.args.edge.now, c.args.sample) ∷ [])) (c.self.view_is ∙ c.make_room.ensures))
