use Rattle.std.proofs.Common.{sym, ◌∙◌}
use Rattle.serde_json.specs.View.{view}
use Rattle.gl_check.specs.Shape.{is_letter}
use Rattle.gl_check.proofs.Shapes.{not_all}
use Rattle.gl_check.proofs.fields.are_letters.Goals as goal

pub returns-then-not-is_letter : goal.returns-then-not-is_letter
returns-then-not-is_letter c =
    sym (not_all is_letter view c.args.values.now c.loop-value.value-index c.value-item.result c.value-item.result c.loop-value-test.true c.value-item.is (sym c.is_letter.ensures ∙ c.if-not-is_letter.true))
