use Rattle.std.proofs.Common.{map}
use Rattle.gl_cycles.specs.bodies.Searching.{HasFound, sought_by}
use Rattle.gl_cycles.proofs.paths.Searcher.first_cycles.Given as goal

-- the cycles that begin with the edges so far
abbrev pub invariant-loop-root : goal.invariant-loop-root
invariant-loop-root l = HasFound (sought_by l.self) l.self.cap l.root (map (λ cycle. cycle.items) l.found.items)
