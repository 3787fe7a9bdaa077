use Rattle.std.proofs.Common.{sym, ap, ◌∙◌}
use Rattle.std.specs.Ordering.{is_eq, is_le}
use Rattle.gl_edges.proofs.Least.{tied}
use Rattle.gl_edges.proofs.Orders.{edge_cmp_exact}
use Rattle.gl_edges.proofs.batch.is_among.Goals as goal

pub returns-then-is_eq : goal.returns-then-is_eq
returns-then-is_eq c = λ below.
    let same = tied edge_cmp_exact c.in-Some.pair.now.0 c.args.edge.now (ap is_eq (sym c.cmp.ensures) ∙ sym c.is_eq.ensures ∙ c.if-is_eq.true) in
    let (within, here) = c.in-Some.ensures.lookup.3 in (
      c.in-Some.pair.now.1,
      (c.in-Ok.at, within, sym (here (c.args.edge.now, c.in-Some.pair.now.1)) ∙ (λ i. (same i, c.in-Some.pair.now.1))),
      ap is_le (sym c.cmp-then-is_eq.ensures) ∙ sym c.is_le.ensures ∙ below,
    )
