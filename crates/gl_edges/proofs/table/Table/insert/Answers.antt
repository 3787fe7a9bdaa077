use Rattle.std.proofs.Common.{◌≡◌, [], ◌∷◌, ◌++◌, sym, subst, ◌∙◌}
use Rattle.gl_edges.specs.Edges.{once}
use Rattle.gl_edges.proofs.Filling.{seen_stays, unseen_enters, never_there}
use Rattle.gl_edges.proofs.table.Table.insert.Goals as goal

pub returns-then-has_seen-clause-inserted : goal.returns-then-has_seen-clause-inserted
returns-then-has_seen-clause-inserted c =
    subst (λ pairs. pairs ≡ once (pairs ++ (c.args.edge, c.args.sample) ∷ [])) c.self.view_is
    (seen_stays c.self.inside.edges c.args.edge c.args.sample c.self.invariant (sym c.has_seen.ensures ∙ c.if-has_seen.true))

pub returns-clause-inserted : goal.returns-clause-inserted
returns-clause-inserted c =
    subst (λ pairs. c.insert.new.self.entries ≡ once (pairs ++ (c.args.edge, c.args.sample) ∷ [])) c.self.view_is
    (unseen_enters c.self.inside.edges c.insert.new.self c.args.edge c.args.sample c.self.invariant c.in_ok-insert.ensures.ordered
    (sym c.has_seen.ensures ∙ c.if-has_seen.false) c.in_ok-insert.ensures.updates.0)

pub returns-in_err-insert-clause-absent : goal.returns-in_err-insert-clause-absent
returns-in_err-insert-clause-absent c =
    rw (← c.self.view_is) (never_there c.from_residual.result c.self.inside.edges.entries c.args.edge c.self.invariant c.in_err-insert.ensures.absent)
