use Rattle.std.proofs.Common.{subst}
use Rattle.std.specs.Prelude.{IfSome}
use Rattle.gl_std.specs.bodies.Blocks.{IsRight}
use Rattle.gl_std.proofs.block.Block.empty.Goals as goal

pub returns-in-Some-clause-right : goal.returns-in-Some-clause-right
returns-in-Some-clause-right c = λ names right. c.forget_many.ensures.right names (subst (λ s. IfSome s (IsRight names)) c.in-Some.is right)

pub returns-in-None-clause-right : goal.returns-in-None-clause-right
returns-in-None-clause-right c = λ names right. c.new.ensures.right names
