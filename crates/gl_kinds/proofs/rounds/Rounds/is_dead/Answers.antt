use Rattle.std.proofs.Common.{arith}
use Rattle.gl_kinds.proofs.rounds.Rounds.is_dead.Goals as goal

pub index-requires : goal.index-requires
index-requires c = omega (arith, c.requires.there, c.requires.known.lawful.long)

-- no round goes on from it
pub returns-then-not-may-clause-none : goal.returns-then-not-may-clause-none
returns-then-not-may-clause-none c = λ _. c.may_close-may.ensures.none c.if-not-may.true
