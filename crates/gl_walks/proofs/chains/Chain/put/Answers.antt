use Rattle.std.proofs.Common.{ap, set, ◌∙◌, arith}
use Rattle.gl_walks.specs.bodies.Listing.{first_in}
use Rattle.gl_walks.proofs.Listed.{listed_passed, listed_more}
use Rattle.gl_walks.proofs.chains.Chain.put.Goals as goal

-- nothing leads to it
pub returns-in_default : goal.returns-in_default
returns-in_default c = λ keys size had at. listed_passed keys size c.args.i _ _ (at ∙ c.in_default.is) had

-- it is the first that has its key
pub returns : goal.returns
returns c = λ keys size had at.
    let s = c.args.self.now in
    let long = had.long in
    listed_more keys size c.args.i (first_in s) _ s.next.items _ c.in-Some.key (omega (arith, c.requires, s.next.ok.0)) (at ∙ c.in-Some.is) had
    (ap (set s.next.items c.args.i) (c.copied.ensures ∙ c.get.ensures.value)) c.in_ok-insert.ensures.updates.0
