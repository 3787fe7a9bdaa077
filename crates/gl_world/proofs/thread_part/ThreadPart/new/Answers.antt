use Rattle.gl_world.proofs.ThreadParts.{kept_new}
use Rattle.gl_world.proofs.thread_part.ThreadPart.new.Goals as goal

pub invariant_of-result : goal.invariant_of-result
invariant_of-result c = rw (c.new-2.ensures.items, c.new-3.ensures.items) (kept_new _ _ _ _ c.new.ensures.tracks c.new-4.ensures c.requires.range)
