use Rattle.std.proofs.Common.{◌≡◌, ◌-◌, ◌≤◌, map}
use Rattle.gl_cycles.specs.Roots.{first_below}
use Rattle.gl_cycles.proofs.roots.found_by_roots.Given as goal

-- what there is from the roots so far
abbrev pub invariant-loop-done : goal.invariant-loop-done
invariant-loop-done g l =
    (map (λ cycle. cycle.items) l.found.items ≡ first_below (g.S.RootedSearch.cap l.search) (g.S.RootedSearch.found_from l.search) l.done)
    × (l.from ≤ l.done)
    × (l.done ≤ l.size)

-- fewer roots are left
abbrev pub decreases-loop-done : goal.decreases-loop-done
decreases-loop-done g l = l.size - l.done
