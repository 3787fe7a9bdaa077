use Rattle.std.proofs.Common.{length, sym, subst}
use Rattle.std.proofs.lemmas.Result.{on_ok_weaker}
use Rattle.gl_edges.specs.bodies.Gatherers.{Gathers}
use Rattle.gl_edges.proofs.Gathering.{wanting_none, not_deep}
use Rattle.gl_edges.proofs.Remembering.{gathers_nothing, gathers_acquire, no_edges}
use Rattle.gl_edges.proofs.gather.Gatherer.add_edges.Goals as goal

pub returns-then-holds : goal.returns-then-holds
returns-then-holds c = λ thread es tracked pairs is.
    let deep = (c.holds.ensures es tracked.stands).0 c.if-holds.true in
    rw c.in-Some.ensures.some
    (gathers_nothing pairs _ (length es) c.args.self.now (wanting_none thread es c.in-Some.wanted.lock c.in-Some.wanted.mode c.in-Some.wanted.loc deep) is)

pub returns : goal.returns
returns c =
    on_ok_weaker c.add_acquire.result
    (λ added thread es tracked pairs is.
    let free = not_deep c.holds.result _ (c.holds.ensures es tracked.stands).1 c.if-holds.false in
    rw c.in-Some.ensures.some
    (gathers_acquire thread es c.args.tracker.now tracked c.in-Some.wanted.lock c.in-Some.wanted.mode c.in-Some.wanted.loc pairs c.add_acquire.new.self free
    (added pairs (subst (λ place. Gathers pairs place c.args.self.now) (sym tracked.stands.events) is))))
    c.add_acquire.ensures

pub returns-in_default : goal.returns-in_default
returns-in_default c = λ thread es tracked pairs is.
    gathers_nothing pairs _ (length es) c.args.self.now (no_edges thread es c.args.event.now (c.wanted.ensures.none c.in_default.is)) is
