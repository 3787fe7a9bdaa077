use Rattle.std.proofs.Common.{◌≡◌, ◌++◌, ◌-◌, [], length, replicate, vec_len, Vec, Global, sym, ap, ◌∙◌, arith}
use Rattle.std.proofs.lemmas.List.{length-map}
use Rattle.gl_event.specs.declared.events.Event.{Event}
use Rattle.gl_std.specs.Listed.{listed}
use Rattle.gl_std.proofs.JudgedLines.{put_listed}
use Rattle.gl_std.proofs.lists.Lists.put.Goals as goal

pub returns : goal.returns
returns c =
    let rows = λ (v : Vec Event Global). v.items in
    let old = c.self.inside.lists in
    let size : vec_len old ≡ length c.args.self.now = old.ok.0 ∙ sym (length-map old.items rows) ∙ ap length c.self.view_is in
    put_listed rows c.grow.new.lists.items c.args.self.now c.args.threads (vec_len old) c.number.result c.args.event c.index_mut.result.now c.push.new.self
    (c.in_ok-grow.ensures ∙ ap (λ ls. ls ++ replicate (c.args.threads - vec_len old) []) c.self.view_is) size (omega (arith, c.requires, c.number.ensures)) c.index_mut.ensures.value c.in_ok-push.ensures.items
    ∙ ap (λ t. listed c.args.threads c.args.self.now t c.args.event) c.number.ensures
