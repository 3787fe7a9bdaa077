use Rattle.std.proofs.Common.{◌||◌, eqb, take, get_or, sym, ap, ◌∙◌}
use Rattle.std.specs.List.{list_any}
use Rattle.std.proofs.lemmas.List.Folds.{list_any_more}
use Rattle.gl_trims.specs.bodies.Waiting.{waits}
use Rattle.gl_trims.proofs.Watching.{one_more_waits}
use Rattle.gl_trims.proofs.trims.all_of.Goals as goal

pub loop-i-preserved : goal.loop-i-preserved
loop-i-preserved c = record {
  waiting = λ i.
      let w = get_or c.args.watchers.now c.loop-i.i 0 in
      let had = waits c.args.waiting.now i in
      let so_far = list_any (λ w. eqb w i) (take c.loop-i.i c.args.watchers.now) in
      c.in_ok-add.ensures.waits i ∙ ap (λ b. b || eqb w i) (c.loop-i.invariant.waiting i) ∙ one_more_waits had so_far (eqb w i)
      ∙ ap (λ b. had || b) (sym (list_any_more (λ w. eqb w i) c.args.watchers.now c.loop-i.i 0 c.loop-i-test.true));
  earlier = c.in_ok-add.ensures.earlier;
  next = c.in_ok-add.ensures.next ∙ c.loop-i.invariant.next;
}
