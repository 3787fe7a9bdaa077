use Rattle.std.proofs.Common.{ap, ◌∙◌}
use Rattle.gl_segments.specs.Clocks.{is_before}
use Rattle.gl_cycles.specs.Listed.{listed_cycles}
use Rattle.gl_findings.proofs.grouped.findings_of_cycles.Goals as goal

pub returns : goal.returns
returns c =
    let before = is_before c.args.order.now in
    c.grouped.ensures before (c.in_ok-all.ensures ∙ ap (λ asked. listed_cycles asked before c.args.edges.now) c.for_many.ensures)
