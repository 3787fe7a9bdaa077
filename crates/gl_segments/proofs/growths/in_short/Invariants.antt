use Rattle.std.proofs.Common.{◌≡◌, map, take}
use Rattle.gl_segments.specs.bodies.Growths.{long}
use Rattle.gl_segments.proofs.growths.in_short.Given as goal

-- the growths so far
abbrev pub invariant-loop-growth : goal.invariant-loop-growth
invariant-loop-growth l = map long l.short.items ≡ take l.growth-index l.growths
