use Rattle.std.proofs.Common.{ap, sym, ◌∙◌, ◌++◌, ◌∷◌, [], slice_index_or}
use Rattle.gl_check.proofs.Turns.{class_more}
use Rattle.gl_check.proofs.signatures.signature_of.Goals as goal

pub loop-i-preserved : goal.loop-i-preserved
loop-i-preserved c =
    c.in_ok-push.ensures.items ∙ ap (λ l. l ++ slice_index_or c.args.classes.now (slice_index_or c.args.positions.now c.loop-i.i 0) 0 ∷ []) c.loop-i.invariant
    ∙ sym (class_more c.args.classes.now c.args.positions.now c.loop-i.i c.loop-i-test.true (c.requires c.loop-i.i 0 c.loop-i-test.true))
