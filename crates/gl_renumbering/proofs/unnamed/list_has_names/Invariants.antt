use Rattle.std.proofs.Common.{◌≡◌, true, take}
use Rattle.std.specs.List.{list_all}
use Rattle.gl_renumbering.specs.Tales.{has_names}
use Rattle.gl_renumbering.proofs.unnamed.list_has_names.Given as goal

-- the events so far have names
abbrev pub invariant-loop-event : goal.invariant-loop-event
invariant-loop-event l = list_all (has_names l.names) (take l.event-index l.events) ≡ true
