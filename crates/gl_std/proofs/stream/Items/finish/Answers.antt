use Rattle.std.proofs.Common.{refl, ap, ◌∙◌}
use Rattle.gl_std.specs.Streaming.{Stream}
use Rattle.gl_std.proofs.ItemByItem.{known_item, last_faulty, last_told, leaves_done, over_shown}
use Rattle.gl_std.proofs.stream.Items.finish.Goals as goal

-- the last line, or none
pub returns-in-Ok-clause-last : goal.returns-in-Ok-clause-last
returns-in-Ok-clause-last c =
    let old = c.self.inside in
    let shown = c.self.view_is in
    let taken = c.in-Ok.ensures.takes in
    record {
      tells = λ limits turns input text told read same over.
          let over1 = over_shown old.stage old.reader c.args.self.now text told shown over in
          last_told limits turns input.before input.after input.failed old.reader c.last.new.self text told c.in-Ok.judged _ c.item_of.ensures (ap (λ (s : Stream). s.reader.judge.limits) shown ∙ same) read (taken.trace text told over1) (taken.has_judged text told over1);
      known = known_item c.item_of.result c.in-Ok.judged c.last.new.self.judge.names c.item_of.ensures taken.known;
      leaves = leaves_done c.item_of.result _ refl;
    }

-- it is at fault, or memory was refused
pub returns-in-Err-clause-last : goal.returns-in-Err-clause-last
returns-in-Err-clause-last c =
    let old = c.self.inside in
    let shown = c.self.view_is in
    record {
      tells = λ limits turns input text told read same over.
          last_faulty limits turns input old.reader c.last.new.self text told c.in-Err.fault c.from-fault.result c.from-fault.ensures (ap (λ (s : Stream). s.reader.judge.limits) shown ∙ same) read c.in-Err.ensures.takes (over_shown old.stage old.reader c.args.self.now text told shown over);
      known = tt;
      leaves = refl;
    }
