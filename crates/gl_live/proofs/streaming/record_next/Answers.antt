use Rattle.gl_live.proofs.NextEvents.{can_be_taken}
use Rattle.gl_live.proofs.streaming.record_next.Goals as goal

pub record_item-requires : goal.record_item-requires
record_item-requires g c =
    record { can_be_taken = can_be_taken _ _ _ _ c.args.items.now c.next.new.self c.args.recorders.now.items c.in-Ok.item c.next.result c.in-Ok.is c.requires.recording c.requires.usable c.next.ensures.next }
