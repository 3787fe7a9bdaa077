use Rattle.std.proofs.Common.{◌≡◌, [], Vec, Global, map, take}
use Rattle.std.specs.List.{flat_map}
use Rattle.gl_event.specs.declared.events.Event.{Event}
use Rattle.gl_renumbering.specs.Tales.{mentioned, tales}
use Rattle.gl_renumbering.specs.bodies.Tables.{AllStayToldBy, StandsFor}
use Rattle.gl_renumbering.proofs.renumbering.all_by_mention.Given as goal

-- the lists so far are numbered
abbrev pub invariant-loop-list : goal.invariant-loop-list
invariant-loop-list l =
    StandsFor l.old l.numbers.names l.numbers.locks.items l.numbers.locations.items
    × (l.numbers.names ≡ mentioned (record l.old { locks = []; locs = [] }) (flat_map (λ list. list) (tales l.old (map (λ (list : Vec Event Global). list.items) (take l.list-index l.lists)))))
    × AllStayToldBy l.numbers.names (tales l.old (map (λ (list : Vec Event Global). list.items) (take l.list-index l.lists))) (map (λ (list : Vec Event Global). list.items) l.by_mention.items)
