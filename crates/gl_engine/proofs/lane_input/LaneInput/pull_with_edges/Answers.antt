use Rattle.gl_engine.specs.Collecting.{as_of}
use Rattle.gl_engine.specs.Dealing.{made_by}
use Rattle.gl_engine.proofs.Sides.{made_if}
use Rattle.gl_engine.proofs.lane_input.LaneInput.pull_with_edges.Goals as goal

pub returns-clause-pull : goal.returns-clause-pull
returns-clause-pull c =
    let before = c.args.intake.now.stream in
    let after = c.accept_with_edges-offered.new.intake.stream in
    let note = as_of c.args.thread c.in-Some-peek.front in
    let offered = c.accept_with_edges-offered.ensures.offered in
    let made = made_if c.accept_with_edges-offered.result before after note offered.grown offered.unchanged in
    rw (c.peek.ensures.lane, c.peek.ensures.popped) at (c.take_front.ensures.pull c.args.intake.now.limits before after offered (made_by before) (made_by after) made.0 made.1)
