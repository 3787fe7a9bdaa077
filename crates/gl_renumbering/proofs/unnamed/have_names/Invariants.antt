use Rattle.std.proofs.Common.{◌≡◌, true, take, map, Vec, Global}
use Rattle.gl_event.specs.declared.events.Event.{Event}
use Rattle.gl_renumbering.specs.Tales.{have_names}
use Rattle.gl_renumbering.proofs.unnamed.have_names.Given as goal

-- the events of the lists so far have names
abbrev pub invariant-loop-list : goal.invariant-loop-list
invariant-loop-list l = have_names l.names (map (λ (list : Vec Event Global). list.items) (take l.list-index l.lists)) ≡ true
