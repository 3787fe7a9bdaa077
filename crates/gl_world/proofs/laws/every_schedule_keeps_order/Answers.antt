use Rattle.gl_world.proofs.Schedules.{every_schedule}
use Rattle.gl_world.proofs.laws.every_schedule_keeps_order.Goals as goal

pub returns : goal.returns
returns c = every_schedule
