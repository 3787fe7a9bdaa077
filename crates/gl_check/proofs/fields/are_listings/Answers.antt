use Rattle.std.proofs.Common.{sym, ◌∙◌}
use Rattle.serde_json.specs.View.{view}
use Rattle.gl_check.specs.Shape.{is_listing}
use Rattle.gl_check.proofs.Shapes.{not_all}
use Rattle.gl_check.proofs.fields.are_listings.Goals as goal

pub returns-then-not-is_listing : goal.returns-then-not-is_listing
returns-then-not-is_listing c =
    sym (not_all (is_listing c.args.format c.args.size) view c.args.values.now c.loop-value.value-index c.value-item.result c.value-item.result c.loop-value-test.true c.value-item.is (sym c.is_listing.ensures ∙ c.if-not-is_listing.true))
