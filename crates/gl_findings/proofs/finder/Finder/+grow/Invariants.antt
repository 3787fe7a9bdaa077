use Rattle.std.proofs.Common.{length, map, ◌-◌, ◌+◌, ◌*◌}
use Rattle.gl_segments.specs.Clocks.{is_before}
use Rattle.gl_findings.proofs.Below.{HasGrown}
use Rattle.gl_findings.proofs.finder.Finder.+grow.Given as goal

-- how many more classes the signature may have; a call for all classes, and one for each, come between two lengths
abbrev pub decreases-grow : goal.decreases-grow
decreases-grow l = 3 * (l.self.now.len - length l.signature.now) + 2

abbrev pub decreases-grow_on : goal.decreases-grow_on
decreases-grow_on l = 3 * (l.self.now.len - length l.signature.now) + 1

abbrev pub decreases-grow_by : goal.decreases-grow_by
decreases-grow_by l = 3 * (l.self.now.len - length l.signature.now)

-- what goes on with the classes before the next one was found
abbrev pub invariant-grow_on-loop-next : goal.invariant-grow_on-loop-next
invariant-grow_on-loop-next l =
    HasGrown (is_before l.self.order.now) l.self.mode l.self.len l.self.table.now (l.self.len - length l.signature - 1) l.signature l.self.cap
    (map (λ cycle. cycle.items) l.initial.found.items) (map (λ cycle. cycle.items) l.found.items) l.next

-- how many classes are left
abbrev pub decreases-grow_on-loop-next : goal.decreases-grow_on-loop-next
decreases-grow_on-loop-next l = length l.self.table.now - l.next
