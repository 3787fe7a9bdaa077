use Rattle.std.proofs.Common.{length, ap, ◌+◌, ◌∙◌}
use Rattle.std.proofs.lemmas.List.{length_push}
use Rattle.gl_segments.specs.bodies.Fronts.{first_of}
use Rattle.gl_segments.proofs.Starting.{front_none}
use Rattle.gl_segments.proofs.Telling.{rows_push}
use Rattle.gl_segments.proofs.rows.Rows.new.Goals as goal

pub loop-preserved : goal.loop-preserved
loop-preserved c =
    let inv = c.loop.invariant in
    let old = c.loop.rows.items in
    record {
      size = ap length c.in_ok-push.ensures.items ∙ length_push old _ ∙ ap (λ n. n + 1) inv.size;
      rows = λ steps. rw c.in_ok-push.ensures.items (rows_push steps old _ (front_none steps _ (first_of (length old)) (ap length c.new.ensures.items)) (inv.rows steps));
    }
