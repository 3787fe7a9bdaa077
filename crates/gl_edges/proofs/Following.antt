-- A tracker follows its thread from event to event.
use Rattle.std.proofs.Common.{◌+◌, ◌<◌, ◌^◌, arith}
use Rattle.gl_event.specs.Bounds.{greatest}
use Rattle.gl_event.specs.declared.events.Event.{Event}
use Rattle.gl_event.proofs.States.{room_to_follow}
use Rattle.gl_edges.specs.Tracking.{IsNextFor}
use Rattle.gl_edges.specs.declared.tracker.Tracker.{Tracker}

-- the next place fits
pub place_fits : (tracker : Tracker) (event : Event) → IsNextFor tracker event → tracker.state.events + 1 < 2 ^ 32
place_fits tracker event next = let room = room_to_follow greatest tracker.thread tracker.state event next in omega (arith, room)
