use Rattle.std.proofs.Common.{◌≡◌, map}
use Rattle.gl_cycles.specs.bodies.Dealt.{first_with}
use Rattle.gl_cycles.proofs.roots.add_alone.Given as goal

-- what there is from the roots so far
abbrev pub invariant-loop-root : goal.invariant-loop-root
invariant-loop-root g l =
    map (λ cycle. cycle.items) l.found.items
    ≡ first_with (g.S.RootedSearch.cap l.search) (g.S.RootedSearch.found_from l.search) (map (λ cycle. cycle.items) l.initial.found.items) l.from l.root
