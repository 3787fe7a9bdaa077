use Rattle.std.proofs.Common.{true, subst, ◌∙◌}
use Rattle.gl_edges.specs.bodies.Seen.{IsNode}
use Rattle.gl_edges.proofs.Ways.{noted_found, noted_grows}
use Rattle.gl_edges.proofs.seen.Tree.note.Goals as goal

pub returns-in-Some-default-true-clause-known : goal.returns-in-Some-default-true-clause-known
returns-in-Some-default-true-clause-known c = λ is_known thread held leads edge there.
    let number = c.in-Some-default-true.number in
    let node : IsNode c.args.self.now c.args.branch true number =
    subst (λ b. IsNode c.args.self.now c.args.branch b number) c.in-Some-default-true.field-0-1-test c.in-Some-default-true.ensures in
    noted_found c.args.self.now c.args.branch number node thread held leads edge there

pub returns-clause-noted : goal.returns-clause-noted
returns-clause-noted c = λ thread held leads edge there.
    noted_grows c.args.self.now c.come_to-2.new.self c.args.branch (c.come_to-2.ensures ∙ c.in_ok-number.ensures.added) thread held leads edge there
