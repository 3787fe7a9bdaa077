use Rattle.std.proofs.Common.{◌≡◌, true, is_some, map, take}
use Rattle.std.specs.List.{list_all}
use Rattle.serde_json.specs.Find.{as_str}
use Rattle.serde_json.specs.View.{view}
use Rattle.gl_check.proofs.fields.are_names.Given as goal

-- those so far are
abbrev pub invariant-loop-value : goal.invariant-loop-value
invariant-loop-value l = list_all (λ name. is_some (as_str name)) (map view (take l.value-index l.values)) ≡ true
