use Rattle.std.proofs.Common.{refl, arith}
use Rattle.std.proofs.lemmas.Result.{IfOk-weaker}
use Rattle.gl_findings.proofs.Prepared.{none_open}
use Rattle.gl_findings.proofs.finder.Finder.may_grow.Goals as goal

-- it is as long as a cycle may be, and doesn't lead round
pub returns-then-not-may_close-clause-none : goal.returns-then-not-may_close-clause-none
returns-then-not-may_close-clause-none c = λ no. none_open c.args.self.now c.requires.ready c.args.signature.now (omega arith) (c.if-not-may_close.ensures refl)

pub returns-clause-none : goal.returns-clause-none
returns-clause-none c = IfOk-weaker c.may_begin.result _ _ (λ may none no. none no _) c.may_begin.ensures.none
