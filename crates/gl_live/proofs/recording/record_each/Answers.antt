use Rattle.std.proofs.Common.{◌∙◌, ◌++◌, ◌∷◌, [], sym, ap, append_assoc, take, arith}
use Rattle.gl_world.proofs.Lists.{take_more, get_at}
use Rattle.gl_engine.specs.Recording.{recorded, identity_of}
use Rattle.gl_live.proofs.Rostered.{recorded_more}
use Rattle.gl_live.proofs.recording.record_each.Goals as goal

pub loop-event-preserved : goal.loop-event-preserved
loop-event-preserved g c =
    let was = c.loop-event in
    let event = c.event-item.result in
    let list = c.args.list.now in record {
      identity = ap identity_of c.in-Ok.ensures.taken.pushed ∙ was.invariant.identity;
      all =
          recorded_more was.recorder c.record_wait.new.self event c.record_wait.new.self.room c.in-Ok.ensures.taken.pushed
          ∙ ap (λ es. es ++ event ∷ []) was.invariant.all
          ∙ append_assoc (recorded c.args.recorder.now) (take was.event-index list) (event ∷ [])
          ∙ ap (λ es. recorded c.args.recorder.now ++ es) (sym (take_more list was.event-index event (get_at list was.event-index event (omega (arith, c.loop-event-test.true)) c.event-item.is)));
    }
