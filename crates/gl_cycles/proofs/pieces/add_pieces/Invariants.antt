use Rattle.std.proofs.Common.{◌≡◌, ◌++◌, map, take}
use Rattle.std.specs.List.{flat_map}
use Rattle.gl_cycles.proofs.pieces.add_pieces.Given as goal

-- the cycles of the pieces so far
abbrev pub invariant-loop-i : goal.invariant-loop-i
invariant-loop-i l = map (λ cycle. cycle.items) l.found.items ≡ take l.cap (map (λ cycle. cycle.items) l.initial.found.items ++ flat_map (λ piece. map (λ cycle. cycle.items) piece.items) (take l.i l.pieces))
