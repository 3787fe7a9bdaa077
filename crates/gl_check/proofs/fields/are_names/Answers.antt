use Rattle.std.proofs.Common.{is_some, sym, ◌∙◌}
use Rattle.serde_json.specs.Find.{as_str}
use Rattle.serde_json.specs.View.{view}
use Rattle.gl_check.proofs.Shapes.{not_all}
use Rattle.gl_check.proofs.fields.are_names.Goals as goal

pub returns-then-not-is_string : goal.returns-then-not-is_string
returns-then-not-is_string c =
    sym (not_all (λ name. is_some (as_str name)) view c.args.values.now c.loop-value.value-index c.value-item.result c.value-item.result c.loop-value-test.true c.value-item.is (sym c.is_string.ensures ∙ c.if-not-is_string.true))
