-- Why a session gives no report.
use Rattle.std.specs.Prelude.{List}
use Rattle.gl_event.specs.declared.events.Event.{Event}
use Rattle.gl_segments.specs.Segments.{IsLeastInRing}
use Rattle.gl_segments.specs.declared.faults.OrderFault.{OrderFault}
use Rattle.gl_segments.specs.declared.faults.OrderFault.TheVariants as order
use Rattle.gl_live.specs.declared.faults.LiveFault.{LiveFault}
use Rattle.gl_live.specs.declared.faults.LiveFault.TheVariants.{Inconsistent, Memory, Unconfirmed}

-- there is no report of these lists: the least segment that is before itself, with a ring. Out of memory may come at any time, and so may
-- that the session isn't confirmed
abbrev pub IsLiveFault : List (List Event) → LiveFault → Type 0
IsLiveFault lists (Inconsistent at ring) = IsLeastInRing lists at ring.items
IsLiveFault lists Memory = Unit {0}
IsLiveFault lists Unconfirmed = Unit {0}

-- why there is no report where there is no order: the same fault, of a session
abbrev pub live_fault_of : OrderFault → LiveFault
live_fault_of (order.Inconsistent at ring) = Inconsistent at ring
live_fault_of order.Memory = Memory
