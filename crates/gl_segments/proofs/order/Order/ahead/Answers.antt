use Rattle.std.proofs.Common.{sym, subst}
use Rattle.gl_segments.specs.Clocks.{CountsBefore}
use Rattle.gl_segments.proofs.Ordering.{counted}
use Rattle.gl_segments.proofs.order.Order.ahead.Goals as goal

pub returns-clause-counts : goal.returns-clause-counts
returns-clause-counts c = λ lists orders.
    subst (CountsBefore lists c.args.a c.args.thread) (sym c.count.ensures) (counted lists c.args.self.now c.args.a c.args.thread orders)
