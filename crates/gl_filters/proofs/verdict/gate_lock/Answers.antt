use Rattle.std.proofs.Common.{◌≡◌, false, get_or, below_more, sym, ap, ◌∙◌}
use Rattle.std.specs.List.{list_any}
use Rattle.std.proofs.lemmas.List.{get_or_default}
use Rattle.gl_edges.specs.declared.guards.Guard.{Guard}
use Rattle.gl_edges.specs.Clashes.{clash_on}
use Rattle.gl_filters.proofs.Cycling.{gate_from}
use Rattle.gl_edges.proofs.Clashing.{some_clashes}
use Rattle.gl_filters.proofs.Gates.{first_is_least}
use Rattle.gl_filters.proofs.verdict.gate_lock.Goals as goal

pub returns-then-clashes_with_any-clause-gate : goal.returns-then-clashes_with_any-clause-gate
returns-then-clashes_with_any-clause-gate c =
    gate_from c.args.guards.now c.args.others.now c.guard-item.result (c.loop-guard.guard-index, c.loop-guard-test.true, sym c.guard-item.is) (sym c.if-clashes_with_any.ensures)

pub returns-then-clashes_with_any-clause-least : goal.returns-then-clashes_with_any-clause-least
returns-then-clashes_with_any-clause-least c =
    first_is_least c.args.guards.now c.args.others.now c.requires.ascending c.loop-guard.guard-index c.guard-item.result c.guard-item.is c.loop-guard.invariant

pub loop-guard-preserved : goal.loop-guard-preserved
loop-guard-preserved c = λ k d below.
    below_more (λ k. (d : Guard) → list_any (clash_on (get_or c.args.guards.now k d)) c.args.others.now ≡ false) c.loop-guard.guard-index (λ k lower d. c.loop-guard.invariant k d lower)
    (λ d. ap (λ g. list_any (clash_on g) c.args.others.now) (get_or_default c.args.guards.now c.loop-guard.guard-index d c.guard-item.result c.loop-guard-test.true ∙ sym c.guard-item.is) ∙ sym c.if-clashes_with_any.ensures)
    k below d

pub unreachable-requires : goal.unreachable-requires
unreachable-requires c = some_clashes c.args.guards.now c.args.others.now c.requires.clash c.loop-guard.guard-index c.loop-guard-test.false c.loop-guard.invariant
