use Rattle.std.proofs.Common.{sym, subst}
use Rattle.gl_index.specs.Listed.{IsNextWith}
use Rattle.gl_index.specs.Sides.{lock_towards}
use Rattle.gl_index.proofs.chains.Chain.begin.Goals as goal

pub returns : goal.returns
returns c = λ edges kept side are. subst (IsNextWith (lock_towards side) edges kept c.args.lock 0) (sym c.get.ensures) (are.begins c.args.lock)
