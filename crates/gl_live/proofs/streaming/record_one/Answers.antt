use Rattle.std.proofs.lemmas.Option.{slice_get_within}
use Rattle.gl_world.proofs.Lists.{get_at}
use Rattle.gl_live.proofs.Following.{records}
use Rattle.gl_live.proofs.streaming.record_one.Goals as goal

pub returns-clause-recorded : goal.returns-clause-recorded
returns-clause-recorded g c = λ s lists threads known are.
    let recorders = c.args.recorders.now.items in
    let r = c.index_mut-recorder.result.now in
    let within = slice_get_within recorders c.args.thread c.requires.may_take.recorder c.requires.may_take.here in
    records threads lists c.args.thread c.args.event known s recorders are r c.record_wait.new.self _ (get_at recorders c.args.thread r within c.index_mut-recorder.ensures.value) c.in-Ok.ensures.taken.pushed
