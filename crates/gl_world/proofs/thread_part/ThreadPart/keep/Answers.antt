use Rattle.gl_world.proofs.ThreadParts.{may_follow, kept_event}
use Rattle.gl_world.proofs.thread_part.ThreadPart.keep.Goals as goal

pub advance-requires : goal.advance-requires
advance-requires c =
    let allowed = rw (← c.self.view_is) at c.requires.lawful in
    may_follow _ _ _ _ _ _ _ _ c.self.invariant c.args.wish.now allowed

pub invariant_of-self-2 : goal.invariant_of-self-2
invariant_of-self-2 c =
    let is = rw (← c.self.view_is) at c.requires.its_note in
    rw (c.in_ok-append_both.ensures.first, c.in_ok-append_both.ensures.second)
    (kept_event _ _ _ _ _ _ _ _ c.self.invariant c.args.wish.now c.args.note.now is c.advance.new.self c.advance.ensures)
