use Rattle.std.proofs.Common.{◌≡◌, ◌++◌, take}
use Rattle.gl_writing.specs.Written.{written_list}
use Rattle.gl_writing.proofs.writing.put_list.Given as goal

-- the lines so far
abbrev pub invariant-loop-event : goal.invariant-loop-event
invariant-loop-event l = l.text.items ≡ l.fn.text.items ++ written_list l.names l.thread (take l.event-index l.events)
