use Rattle.std.proofs.Common.{◌∙◌}
use Rattle.gl_engine.proofs.Handing.{blamed_later}
use Rattle.gl_engine.proofs.pull_and_ship.collect_all.Goals as goal

pub returns-in-Err-clause-goes_on : goal.returns-in-Err-clause-goes_on
returns-in-Err-clause-goes_on g c =
    let went = c.in-Err.ensures.goes_on in
    record {
      keeps = tt;
      limits = went.limits;
      lanes = c.discard_all.ensures.lanes ∙ went.lanes;
      feeds = went.feeds;
      grown = went.grown;
      blamed = blamed_later c.args.intake.now.limits c.pull_until_ended.new.inputs.items c.discard_all.new.inputs.items c.pull_until_ended.new.intake.stream c.in-Err.fault c.discard_all.ensures.handed went.blamed;
      stopped = went.stopped;
    }
