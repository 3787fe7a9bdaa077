use Rattle.gl_event.specs.Bounds.{greatest}
use Rattle.gl_event.proofs.States.{is_taken, locks_let}
use Rattle.gl_edges.proofs.Following.{place_fits}
use Rattle.gl_edges.proofs.tracker.Tracker.advance.Goals as goal

pub take-requires : goal.take-requires
take-requires c = record { fits = place_fits c.args.self.now c.args.event c.requires }

pub returns : goal.returns
returns c = λ thread es tracked.
    let next = c.requires in
    let none = locks_let greatest c.args.self.now.thread c.args.self.now.state c.args.event next in
    let taken = is_taken c.take.result c.args.self.now.state next.es c.args.event next.stands c.take.ensures.refused none c.take.ensures.stands in
    record { of_thread = tracked.of_thread; stands = taken es tracked.stands }
