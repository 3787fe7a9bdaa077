use Rattle.std.proofs.Common.{◌≡◌, ◌≤◌, ◌+◌, List, ◌++◌, length, map, take}
use Rattle.std.specs.Vec.{vec_len, vec_capacity}
use Rattle.gl_event.specs.States.{StandsAfter}
use Rattle.gl_event.specs.declared.events.Event.{Event}
use Rattle.gl_edges.specs.Edges.{pair_at}
use Rattle.gl_edges.proofs.tracker.push_each.Given as goal

abbrev pub invariant-loop-guard : goal.invariant-loop-guard
invariant-loop-guard l =
    ((es : List Event) → StandsAfter es l.state → l.made.items ≡ l.fn.made.items ++ map (λ g. pair_at l.thread es l.wanted l.mode l.loc g.lock) (take l.guard-index l.others))
    × (take (length l.fn.made.items) l.made.items ≡ l.fn.made.items)
    × (vec_len l.made + (length l.others + 1) ≤ vec_capacity l.made + l.guard-index)
