use Rattle.std.proofs.Common.{◌≡◌, ◌+◌, ◌++◌, ◌∷◌, [], length, Some, sym, ap, subst, ◌∙◌, append_assoc, rules, arith}
use Rattle.std.specs.Vec.Iter.{into_iter_items}
use Rattle.std.proofs.lemmas.List.{length_push, length-append}
use Rattle.gl_segments.specs.declared.rows.Row.{Row}
use Rattle.gl_segments.specs.declared.rows.Row.TheVariants.{Ended}
use Rattle.gl_segments.specs.bodies.Rows.{AreClocksOf, AreClocksTo}
use Rattle.gl_segments.proofs.Ordering.{clocks_none, threads_more}
use Rattle.gl_segments.proofs.Telling.{row_here}
use Rattle.gl_segments.proofs.rows.Rows.histories.Goals as goal

pub loop-row-init : goal.loop-row-init
loop-row-init c =
    let gives = c.into_iter-row-iterator.ensures.into_iter_gives in
    record {
      all = gives.0 ∙ c.self.view_is;
      counted = search rules;
      size = ap length (sym c.new-histories.ensures.items);
      clocks = λ steps have. rw c.new-histories.ensures.items (clocks_none steps);
    }

pub loop-row-preserved : goal.loop-row-preserved
loop-row-preserved c =
    let before = c.loop-row in
    let x : Row = c.in-Some.row in
    let steps : into_iter_items before.row-iterator ≡ x ∷ into_iter_items c.next.new.self = c.in-Some.ensures.steps.0 in
    let all : (before.yielded ++ x ∷ []) ++ into_iter_items c.next.new.self ≡ c.args.self = append_assoc before.yielded (x ∷ []) _ ∙ rw (← steps) before.invariant.all in
    let grown = c.in_ok-push.ensures.items in
    let old = before.histories.items in
    let longer = ap length grown ∙ length_push old c.in-Ended.history in
    record {
      all = all;
      counted = (let was = before.invariant.counted in let gone = c.in-Some.ensures.steps.1 in let short = ap length steps in omega arith);
      size = let one = length_push before.yielded x in let was = before.invariant.size in omega arith;
      clocks = λ table have.
          let here = row_here before.yielded (into_iter_items c.next.new.self) x c.args.self all ∙ ap Some c.in-Ended.is in
          let new : AreClocksOf table (length old) c.in-Ended.history = subst (λ n. AreClocksOf table n c.in-Ended.history) before.invariant.size (have (length before.yielded) (Ended c.in-Ended.history) here) in
          rw longer (subst (λ hs. AreClocksTo table hs (length old + 1)) (sym grown) (threads_more table old (length old) c.in-Ended.history new (before.invariant.clocks table have)));
    }

pub returns : goal.returns
returns c = λ steps have.
    let inv = c.loop-row.invariant in
    let none = c.in-None.ensures.steps.0 in
    let counted = inv.counted in
    let size = inv.size in
    let all = sym (length-append c.loop-row.yielded (into_iter_items c.loop-row.row-iterator)) ∙ ap length inv.all in
    let whole : length c.loop-row.histories.items ≡ length c.args.self = omega arith in
    subst (AreClocksTo steps c.loop-row.histories.items) whole (inv.clocks steps have)
