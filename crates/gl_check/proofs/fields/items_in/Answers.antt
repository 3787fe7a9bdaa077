use Rattle.std.proofs.Common.{[], ap, sym, ◌∙◌, map, option_map, unwrap_or}
use Rattle.serde_json.specs.View.{view}
use Rattle.gl_check.specs.Shape.{items_listed}
use Rattle.gl_check.proofs.Shapes.{listed_items_of}
use Rattle.gl_check.proofs.fields.items_in.Goals as goal

pub returns-in-Some : goal.returns-in-Some
returns-in-Some c = ap (map view) c.as_slice.ensures.value ∙ sym (listed_items_of _) ∙ ap (λ o. unwrap_or (option_map items_listed o) []) c.in-Some.ensures
