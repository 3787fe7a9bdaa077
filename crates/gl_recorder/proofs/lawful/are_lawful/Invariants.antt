use Rattle.std.proofs.Common.{map}
use Rattle.gl_recorder.proofs.Lists.{LawfulBelow}
use Rattle.gl_recorder.proofs.lawful.are_lawful.Given as goal

abbrev pub invariant-loop-number : goal.invariant-loop-number
invariant-loop-number l = LawfulBelow l.limits (map (λ v. v.items) l.lists) l.number
