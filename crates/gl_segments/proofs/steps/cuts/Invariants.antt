use Rattle.std.proofs.Common.{◌≡◌, map, take, filter}
use Rattle.gl_event.specs.Events.{closes}
use Rattle.gl_event.specs.Lawful.{lists_of}
use Rattle.gl_segments.proofs.steps.cuts.Given as goal

-- those of the lists so far
abbrev pub invariant-loop-list : goal.invariant-loop-list
invariant-loop-list l = lists_of l.cuts.items ≡ map (λ v. filter closes v.items) (take l.list-index l.lists)
