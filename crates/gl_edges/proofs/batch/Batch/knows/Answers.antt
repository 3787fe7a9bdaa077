use Rattle.std.proofs.Common.{◌≡◌, [], ◌∷◌, ◌++◌, subst}
use Rattle.gl_edges.specs.Edges.{once}
use Rattle.gl_edges.proofs.Batching.{contains_in_front, known_adds_none}
use Rattle.gl_edges.proofs.batch.Batch.knows.Goals as goal

pub returns : goal.returns
returns c = λ found.
    let (known, at, low) = c.is_among.ensures found in
    subst (λ pairs. once (pairs ++ (c.args.edge.now, c.args.sample.now) ∷ []) ≡ pairs) c.self.view_is
    (known_adds_none c.self.inside.ended.items c.self.inside.pairs.items c.args.edge.now c.args.sample.now known (contains_in_front c.min-count.result c.self.inside.pairs.items (c.args.edge.now, known) (rw (← c.deref.ensures.value) at)) low)
