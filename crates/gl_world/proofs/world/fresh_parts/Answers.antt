use Rattle.std.proofs.Common.{◌≡◌, ◌∷◌, [], length, sym, ap, ◌∙◌, append_assoc, arith}
use Rattle.std.specs.Vec.Iter.{into_iter_items}
use Rattle.std.proofs.lemmas.List.{length_push}
use Rattle.gl_intake.proofs.Fresh.{each_pushed}
use Rattle.gl_world.specs.Keeping.{Keeper, lanes_kept}
use Rattle.gl_world.proofs.Worlds.{IsFreshPart, all_fresh, lanes_push}
use Rattle.gl_world.proofs.world.fresh_parts.Goals as goal

pub loop-list-preserved : goal.loop-list-preserved
loop-list-preserved c =
    let before = c.loop-list in
    let x = c.in-Some.list in
    let part = c.new-in-loop-list.result in
    let steps : into_iter_items before.list-iterator ≡ x ∷ into_iter_items c.next.new.self = c.in-Some.ensures.steps.0 in
    let more = length_push before.yielded x in
    let one = length_push before.parts.items part in
    let grown = c.in_ok-push.ensures.items in
    record {
      all = append_assoc before.yielded (x ∷ []) _ ∙ rw (← steps) before.invariant.all;
      counted = (let was = before.invariant.counted in let gone = c.in-Some.ensures.steps.1 in let short = ap length steps in omega arith);
      so_far = omega (arith, more, before.invariant.so_far);
      count = omega (arith, more, one, before.invariant.count, ap length grown);
      lanes = ap lanes_kept grown ∙ lanes_push _ before.parts.items part before.yielded x before.invariant.lanes (ap (λ (k : Keeper). k.lane) c.new-in-loop-list.ensures);
      each = λ i d within.
          rw grown
          (each_pushed (IsFreshPart c.args.limits.now) before.parts.items part before.invariant.each
          (ap (λ (k : Keeper). k.thread) c.new-in-loop-list.ensures ∙ c.new.ensures ∙ before.invariant.so_far ∙ sym before.invariant.count, ap (λ (k : Keeper). k.limits) c.new-in-loop-list.ensures)
          i d (omega (arith, within, one, ap length grown)));
    }

pub returns-clause-keepers : goal.returns-clause-keepers
returns-clause-keepers c = all_fresh _ _ c.loop-list.invariant.each
