use Rattle.std.proofs.Common.{refl}
use Rattle.gl_exclusions.proofs.turns.is_in_turn.Goals as goal

pub returns-then-ends_in_turn-clause-turn : goal.returns-then-ends_in_turn-clause-turn
returns-then-ends_in_turn-clause-turn c = λ is. record { behind = c.is_seen_behind.ensures.behind is; over = c.if-ends_in_turn.ensures refl }
