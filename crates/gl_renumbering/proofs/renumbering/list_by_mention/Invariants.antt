use Rattle.std.proofs.Common.{◌≡◌, take, map}
use Rattle.gl_renumbering.specs.Tales.{mentioned, told}
use Rattle.gl_renumbering.specs.bodies.Tables.{StandsFor, StayToldBy}
use Rattle.gl_renumbering.proofs.renumbering.list_by_mention.Given as goal

-- the events so far are numbered
abbrev pub invariant-loop-event : goal.invariant-loop-event
invariant-loop-event l =
    StandsFor l.old l.numbers.names l.numbers.locks.items l.numbers.locations.items
    × (l.numbers.names ≡ mentioned l.fn.numbers.names (map (told l.old) (take l.event-index l.events)))
    × StayToldBy l.numbers.names (map (told l.old) (take l.event-index l.events)) l.list.items
