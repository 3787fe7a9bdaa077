use Rattle.std.proofs.Common.{◌∙◌, ap}
use Rattle.gl_engine.specs.Collecting.{Side, pulled_of}
use Rattle.gl_engine.specs.Keeping.{pulling_of}
use Rattle.gl_engine.proofs.Sides.{took}
use Rattle.gl_engine.proofs.lane_input.LaneInput.take_front.Goals as goal

pub returns-in-Ok-clause-pull : goal.returns-in-Ok-clause-pull
returns-in-Ok-clause-pull c limits before after offered made later grown kept =
    let front = c.requires.front.front in
    let popped = c.pop_seen.ensures.popped front c.requires.front.seen in
    let none = rw c.in-Ok.is at offered.next in
    let edges = rw c.in-Ok.is at grown in
    let stream = rw c.in-Ok.is at offered.grown in
    let answer = rw c.in-Ok.is at offered.answer in
    let old : Side = record { input = pulling_of c.args.self.now; stream = before; made = made } in
    let new : Side = record {
      input = record { lane = c.pop_seen.new.lane.lane; popped = c.pop_seen.new.lane.popped; broken = c.args.self.now.broken };
      stream = after;
      made = later;
    } in
    took limits c.args.note.now.thread old front c.args.note.now c.requires.front.is c.pulled.result new c.requires.running none (c.pulled.ensures ∙ ap pulled_of answer)
    (λ i. record { input = record { lane = c.pop_seen.ensures.lane i; popped = popped i; broken = c.args.self.now.broken }; stream = stream i; made = edges i })
