use Rattle.std.proofs.Common.{length, sym, ap, ◌∙◌, arith}
use Rattle.std.specs.Cmp.Lexicographic.{slice_cmp}
use Rattle.std.specs.Ordering.{nat_cmp, is_le, is_gt}
use Rattle.gl_findings.specs.Findings.{turned}
use Rattle.gl_findings.proofs.Compared.{above, not_above, all_below_more, not_all_below}
use Rattle.gl_findings.proofs.turns.begins_least.Goals as goal

-- a turn is less
pub returns-then-is_gt : goal.returns-then-is_gt
returns-then-is_gt c =
    let signature = c.args.signature.now in
    let compared = c.cmp.ensures ∙ ap (slice_cmp nat_cmp signature) (c.as_slice.ensures.value ∙ c.turned.ensures) in
    sym (not_all_below (λ k. is_le (slice_cmp nat_cmp signature (turned k signature))) (length signature) c.loop-k.k (omega arith)
    (above _ (ap is_gt (sym compared) ∙ sym c.is_gt.ensures ∙ c.if-is_gt.true)))

-- one more is not
pub loop-k-preserved : goal.loop-k-preserved
loop-k-preserved c =
    let signature = c.args.signature.now in
    let compared = c.cmp.ensures ∙ ap (slice_cmp nat_cmp signature) (c.as_slice.ensures.value ∙ c.turned.ensures) in
    all_below_more (λ k. is_le (slice_cmp nat_cmp signature (turned k signature))) c.loop-k.k c.loop-k.invariant
    (not_above _ (ap is_gt (sym compared) ∙ sym c.is_gt.ensures ∙ c.if-is_gt.false))
