use Rattle.gl_filters.proofs.Valid.{cycle_if_valid, valid_if_cycle}
use Rattle.gl_filters.proofs.laws.valid_lists_are_cycles.Goals as goal

pub returns : goal.returns
returns c = λ before asked es. (cycle_if_valid before asked es, valid_if_cycle before asked es)
