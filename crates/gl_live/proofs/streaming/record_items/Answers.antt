use Rattle.gl_live.proofs.NextEvents.{still_recording}
use Rattle.gl_live.proofs.streaming.record_items.Goals as goal

pub record_next-requires-clause-recording : goal.record_next-requires-clause-recording
record_next-requires-clause-recording g c =
    let recording = c.requires.recording in
    still_recording _ _ _ _ c.args.items.now c.loop.items c.args.recorders.now.items c.loop.recorders.items c.loop.invariant.count recording (c.loop.invariant.follows recording.s recording.limits recording.turns recording.start)

pub returns-in-Err-clause-stops : goal.returns-in-Err-clause-stops
returns-in-Err-clause-stops g c = λ s limits turns start follows. c.in-Err.ensures.stops s limits turns start (c.loop.invariant.follows s limits turns start follows)
