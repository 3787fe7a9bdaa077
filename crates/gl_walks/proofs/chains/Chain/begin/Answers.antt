use Rattle.std.proofs.Common.{sym, subst, ◌∙◌}
use Rattle.gl_walks.specs.bodies.Listing.{IsNext}
use Rattle.gl_walks.proofs.chains.Chain.begin.Goals as goal

pub returns : goal.returns
returns c = λ keys size are. subst (IsNext keys size (c.args.class, c.args.lock) 0) (sym (c.copied.ensures ∙ c.get.ensures.value)) (are.begins (c.args.class, c.args.lock))
