use Rattle.std.proofs.Common.{sym, ◌∙◌}
use Rattle.gl_check.specs.Signatures.{lesser_list}
use Rattle.gl_check.proofs.Turns.{turn_more}
use Rattle.gl_check.proofs.signatures.least_turn.Goals as goal

pub loop-k-preserved : goal.loop-k-preserved
loop-k-preserved c =
    c.lesser-least.ensures ∙ (λ i. lesser_list (c.loop-k.invariant i) (c.in_ok-turn.ensures i)) ∙ sym (turn_more c.args.signature.now c.loop-k.k)
