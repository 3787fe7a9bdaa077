use Rattle.std.proofs.Common.{refl}
use Rattle.gl_pruning.proofs.limits.limits_by.Goals as goal

pub limits_of-requires-clause-checked : goal.limits_of-requires-clause-checked
limits_of-requires-clause-checked c = record {
  components = record { keeps = c.requires.kept; numbered = c.requires.numbered; onward = rw c.deref.ensures.value at c.if-not-none_goes_back.ensures refl };
  have = c.if-not-are_covered.ensures refl;
  in_turn = c.if-not-take_turns.ensures refl;
}
