use Rattle.gl_engine.proofs.Ending.{ended_there, ended_later, ended_first}
use Rattle.gl_engine.proofs.collector_run.end_one.Goals as goal

pub returns-in-Ok-clause-ended : goal.returns-in-Ok-clause-ended
returns-in-Ok-clause-ended g c feeds before count are =
    ended_there feeds before c.args.sent.now.items c.args.gone are c.in-Ok.ended c.keep.new.list.items c.args.outlet.feed c.args.outlet.sent c.keep.ensures.items c.in-Ok.ensures.feed c.in-Ok.ensures.sent

pub returns-in-Some-clause-ended : goal.returns-in-Some-clause-ended
returns-in-Some-clause-ended g c feeds before count are =
    ended_later feeds before c.args.sent.now.items c.in-Some.first (rw c.in-Some.is at are) c.args.outlet.feed c.args.outlet.sent

pub returns-in-None-clause-ended : goal.returns-in-None-clause-ended
returns-in-None-clause-ended g c feeds before count are =
    ended_first feeds before c.args.sent.now.items c.args.shard count (rw c.in-None.is at are) c.args.outlet.feed c.args.outlet.sent
