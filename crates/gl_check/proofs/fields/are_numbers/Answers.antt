use Rattle.std.proofs.Common.{sym, ◌∙◌, ◌^◌}
use Rattle.serde_json.specs.View.{view}
use Rattle.gl_check.specs.Shape.{is_below}
use Rattle.gl_check.proofs.Shapes.{not_all}
use Rattle.gl_check.proofs.fields.are_numbers.Goals as goal

pub returns-then-not-is_below : goal.returns-then-not-is_below
returns-then-not-is_below c =
    sym (not_all (is_below (2 ^ 32)) view c.args.values.now c.loop-value.value-index c.value-item.result c.value-item.result c.loop-value-test.true c.value-item.is (sym c.is_below.ensures ∙ c.if-not-is_below.true))
