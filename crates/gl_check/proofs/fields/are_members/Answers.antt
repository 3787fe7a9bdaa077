use Rattle.std.proofs.Common.{sym, ◌∙◌}
use Rattle.serde_json.specs.View.{view}
use Rattle.gl_check.specs.Shape.{is_member}
use Rattle.gl_check.proofs.Shapes.{not_all}
use Rattle.gl_check.proofs.fields.are_members.Goals as goal

pub returns-then-not-is_member : goal.returns-then-not-is_member
returns-then-not-is_member c =
    sym (not_all (is_member c.args.format c.args.size) view c.args.values.now c.loop-value.value-index c.value-item.result c.value-item.result c.loop-value-test.true c.value-item.is (sym c.is_member.ensures ∙ c.if-not-is_member.true))
