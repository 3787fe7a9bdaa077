use Rattle.std.proofs.Common.{◌≡◌, [], ◌∷◌, ◌++◌, ap, subst, ◌∙◌, IfSome}
use Rattle.gl_edges.specs.Edges.{once}
use Rattle.gl_edges.specs.declared.edge.Edge.{Edge}
use Rattle.gl_edges.specs.declared.edge.Sample.{Sample}
use Rattle.gl_edges.proofs.Filling.{once_before}
use Rattle.gl_shards.proofs.worker.with_edge.Goals as goal

pub returns-in-Ok : goal.returns-in-Ok
returns-in-Ok c pairs filled =
    let pair : Edge × Sample = (c.args.edge, c.args.sample) in
    let known : c.in_ok-table.table ≡ once pairs = subst (λ table. IfSome table (λ old. old ≡ once pairs)) c.in_ok-table.was filled in
    c.in-Ok.ensures.inserted ∙ ap (λ old. once (old ++ pair ∷ [])) known ∙ once_before pairs (pair ∷ [])
