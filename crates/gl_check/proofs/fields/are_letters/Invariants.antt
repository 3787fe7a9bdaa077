use Rattle.std.proofs.Common.{◌≡◌, true, map, take}
use Rattle.std.specs.List.{list_all}
use Rattle.serde_json.specs.View.{view}
use Rattle.gl_check.specs.Shape.{is_letter}
use Rattle.gl_check.proofs.fields.are_letters.Given as goal

-- those so far are
abbrev pub invariant-loop-value : goal.invariant-loop-value
invariant-loop-value l = list_all is_letter (map view (take l.value-index l.values)) ≡ true
