use Rattle.std.proofs.Common.{refl}
use Rattle.gl_exclusions.proofs.turns.is_seen_behind.Goals as goal

pub returns-then-was_at-clause-behind : goal.returns-then-was_at-clause-behind
returns-then-was_at-clause-behind c = λ is. rw (c.if-was_at.ensures refl) at c.requires
