use Rattle.std.proofs.Common.{length, ap, sym, subst, ◌∙◌, arith}
use Rattle.std.specs.Prelude.{slice_get}
use Rattle.std.proofs.lemmas.List.{length_push}
use Rattle.gl_segments.specs.Clocks.{is_before}
use Rattle.gl_filters.specs.Picked.{edges_of_table}
use Rattle.gl_pruning.specs.Limits.{IsLimit}
use Rattle.gl_pruning.proofs.InComponents.{push_each}
use Rattle.gl_pruning.proofs.limits.limits_of.Goals as goal

-- one limit more
pub loop-i-preserved : goal.loop-i-preserved
loop-i-preserved c =
    let s = c.args.sought.now in
    let before = c.loop-i.limits.items in
    let pushed = c.in_ok-push.ensures.items in
    let holds = IsLimit (is_before s.order.now) s.mode s.len (edges_of_table s.table.now) in (
      omega (arith, ap length pushed, length_push before c.limit.result, c.loop-i.invariant.0),
      λ i limit at. push_each holds before c.limit.result c.loop-i.invariant.1 (subst (λ n. holds n c.limit.result) (sym c.loop-i.invariant.0) c.limit.ensures) i limit
          (sym (ap (λ xs. slice_get xs i) pushed) ∙ at),
    )
