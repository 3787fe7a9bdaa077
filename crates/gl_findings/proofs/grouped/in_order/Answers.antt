use Rattle.std.proofs.Common.{take, sym, ap, ◌∙◌}
use Rattle.std.specs.BTreeMap as tree
use Rattle.std.proofs.lemmas.List.{take-map}
use Rattle.gl_cycles.specs.Cycles.{cycles_in}
use Rattle.gl_findings.proofs.grouped.in_order.Goals as goal

pub returns : goal.returns
returns c =
    ap cycles_in (c.truncate.ensures.items ∙ ap (take c.args.count) c.in_ok-cycles.ensures)
    ∙ sym (take-map (λ cycle. cycle.items) c.args.count (tree.values c.args.firsts))
