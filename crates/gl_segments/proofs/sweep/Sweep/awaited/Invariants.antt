use Rattle.std.proofs.Common.{◌≡◌}
use Rattle.std.specs.List.{find}
use Rattle.std.specs.Prelude.{drop}
use Rattle.gl_segments.specs.bodies.Sweeps.{is_awaited}
use Rattle.gl_segments.proofs.sweep.Sweep.awaited.Given as goal

-- the first one is among those that are left
abbrev pub invariant-loop-source : goal.invariant-loop-source
invariant-loop-source l = find (is_awaited l.self.rows l.growing) l.sources ≡ find (is_awaited l.self.rows l.growing) (drop l.source-index l.sources)
