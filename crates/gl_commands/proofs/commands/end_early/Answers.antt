use Rattle.std.proofs.Common.{◌∙◌}
use Rattle.gl_event.specs.Bounds.{greatest}
use Rattle.gl_commands.proofs.FirstFaults.{ends_early, no_fault_before}
use Rattle.gl_commands.proofs.commands.end_early.Goals as goal

pub returns-in-Ok : goal.returns-in-Ok
returns-in-Ok c = λ text is. no_fault_before greatest text c.in-Ok.trace (is ∙ c.in-Ok.ensures.trace)

pub returns-in-Err : goal.returns-in-Err
returns-in-Err c = λ text is. ends_early greatest text c.args.read c.in-Err.ended is c.in-Err.ensures.refused
