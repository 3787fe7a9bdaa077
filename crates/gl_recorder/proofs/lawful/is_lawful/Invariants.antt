use Rattle.std.proofs.Common.{take}
use Rattle.gl_recorder.specs.Taking.{Tracks}
use Rattle.gl_recorder.proofs.lawful.is_lawful.Given as goal

abbrev pub invariant-loop-event : goal.invariant-loop-event
invariant-loop-event l = Tracks l.limits l.fn.thread (take l.event-index l.list) l.taker
