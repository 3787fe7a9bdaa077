use Rattle.std.proofs.Common.{inl, subst}
use Rattle.gl_segments.specs.Orders.{IsFaultOf}
use Rattle.gl_check.proofs.reports.checked_of.Goals as goal

pub returns-in-Err-clause-fault : goal.returns-in-Err-clause-fault
returns-in-Err-clause-fault c = inl (c.no_order.ensures c.args.trace.now.lists (subst (λ lists. IsFaultOf lists c.in-Err.fault) c.as_slice-lists.ensures c.in-Err.ensures.fault))
