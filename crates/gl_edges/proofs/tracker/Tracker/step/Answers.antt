use Rattle.std.proofs.Common.{refl, subst, sym, ◌∙◌}
use Rattle.gl_edges.specs.Order.{AreAscending}
use Rattle.gl_edges.proofs.Steps.{newest, after_ascends, on_err}
use Rattle.gl_edges.proofs.tracker.Tracker.step.Goals as goal

pub returns-clause-edges : goal.returns-clause-edges
returns-clause-edges c = λ thread es tracked. c.in_ok-edges.ensures.edges thread es tracked ∙ sym (newest thread es c.args.event)

pub returns-clause-ascending : goal.returns-clause-ascending
returns-clause-ascending c =
    subst AreAscending (sym (c.in_ok-edges.ensures.edges c.args.self.now.thread c.requires.es (record { of_thread = refl; stands = c.requires.stands }))) (after_ascends c.args.self.now.thread c.requires.es c.args.event)

pub returns-in_err-edges-clause-room : goal.returns-in_err-edges-clause-room
returns-in_err-edges-clause-room c = λ thread es tracked.
    on_err c.from_residual.result (λ none. c.in_err-edges.ensures.room thread es tracked (sym (newest thread es c.args.event) ∙ none))
