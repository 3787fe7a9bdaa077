-- What the order of lists answers.
use Rattle.std.specs.Prelude.{List}
use Rattle.gl_event.specs.declared.events.Event.{Event}
use Rattle.gl_segments.specs.Segments.{IsLeastInRing}
use Rattle.gl_segments.specs.declared.faults.OrderFault.{OrderFault}
use Rattle.gl_segments.specs.declared.faults.OrderFault.TheVariants.{Inconsistent, Memory}

-- the fault is one of these lists: out of memory may come at any time
abbrev pub IsFaultOf : List (List Event) → OrderFault → Type 0
IsFaultOf lists (Inconsistent at ring) = IsLeastInRing lists at ring.items
IsFaultOf lists Memory = Unit {0}
