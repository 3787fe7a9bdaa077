use Rattle.gl_event.specs.Lawful.{lists_of}
use Rattle.gl_live.proofs.Rostered.{receipt_whole}
use Rattle.gl_live.proofs.recording.record_own.Goals as goal

pub returns : goal.returns
returns g c session is =
    receipt_whole session c.args.recorder is (lists_of c.args.lists.now) c.thread.result c.thread.ensures c.in-Some.list.now c.in-Some.ensures c.record_list.result c.record_list.ensures.identity c.record_list.ensures.whole
