use Rattle.std.proofs.Common.{◌≡◌, map, take}
use Rattle.serde_json.specs.View.{view}
use Rattle.gl_check.specs.Shape.{number_told}
use Rattle.gl_check.proofs.claims.numbers_of.Given as goal

-- those so far
abbrev pub invariant-loop-value : goal.invariant-loop-value
invariant-loop-value l = l.numbers.items ≡ map number_told (map view (take l.value-index l.values))
