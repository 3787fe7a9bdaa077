use Rattle.std.proofs.Common.{sym}
use Rattle.gl_cycles.proofs.WholeTrims.{trim_is, whole_is, none_with_cycle}
use Rattle.gl_cycles.proofs.laws.trims_are_unique.Goals as goal

pub returns-clause-removed : goal.returns-clause-removed
returns-clause-removed c = λ before mode edges kept removed is. sym (trim_is before mode edges kept removed is)

pub returns-clause-whole : goal.returns-clause-whole
returns-clause-whole c = whole_is

pub returns-clause-cycle : goal.returns-clause-cycle
returns-clause-cycle c = λ before mode len edges positions. none_with_cycle before mode edges len positions
