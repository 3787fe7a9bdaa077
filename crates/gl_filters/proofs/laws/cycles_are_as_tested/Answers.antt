use Rattle.gl_filters.proofs.Cycling.{cycle_from_test, test_from_cycle}
use Rattle.gl_filters.proofs.laws.cycles_are_as_tested.Goals as goal

pub returns : goal.returns
returns c = λ before mode len cycle. (
  λ is. (is.not_too_long, test_from_cycle before mode len cycle is),
  λ tested. cycle_from_test before mode len cycle tested.0 tested.1,
)
