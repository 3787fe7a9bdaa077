use Rattle.std.proofs.Common.{◌+◌, ◌++◌, ap, ◌∙◌}
use Rattle.gl_report.specs.Text.{cycle_text}
use Rattle.gl_report.proofs.Parts.{cycles_more}
use Rattle.gl_report.proofs.printing.listing_text.Goals as goal

pub loop-i-preserved : goal.loop-i-preserved
loop-i-preserved c =
    cycles_more c.args.listing c.args.names.now c.entries-table.result.now (λ cycle. cycle.items) c.as_slice-cycles.result.now c.loop-i.i c.index-cycles-i.result _ _ c.loop-i-test.true c.loop-i.invariant
    (c.in_ok-put_cycle.ensures ∙ ap (λ l. c.loop-i.out.items ++ cycle_text c.args.listing c.args.names.now c.entries-table.result.now (c.loop-i.i + 1) l) (c.as_slice.ensures.value ∙ ap (λ v. v.items) c.index-cycles-i.is))
