use Rattle.std.proofs.Common.{refl}
use Rattle.serde_json.specs.Data.{number, unsigned}
use Rattle.gl_report.proofs.Trees.{mapped_more}
use Rattle.gl_report.proofs.values.position_values.Goals as goal

pub loop-position-preserved : goal.loop-position-preserved
loop-position-preserved c =
    mapped_more (λ position. number (unsigned position)) _ _ c.args.positions.now c.loop-position.position-index 0 _ c.loop-position-test.true refl c.loop-position.invariant
    c.in_ok-push_position.ensures
