use Rattle.std.proofs.Common.{◌≡◌, ◌+◌, ◌-◌, ◌<◌, false, length, get_or, set, Some, sym, ap, subst, ◌∙◌, arith}
use Rattle.std.proofs.lemmas.Option.{slice_get-get_or}
use Rattle.gl_grounds.specs.bodies.Classing.{AreNextFrom}
use Rattle.gl_grounds.proofs.NextFlagged.{next_at_end, next_more}
use Rattle.gl_grounds.proofs.classes.nexts_of.Goals as goal

pub loop-m-init : goal.loop-m-init
loop-m-init c = next_at_end (length c.args.occurs.now) c.args.occurs.now c.in_ok-nexts.nexts.items (c.in_ok-nexts.ensures.items_if_clones_equal (λ y is. is))

pub loop-m-preserved : goal.loop-m-preserved
loop-m-preserved c =
    let occurs = c.args.occurs.now in
    let nexts = c.loop-m.nexts.items in
    let n = c.loop-m.m - 1 in
    let next_is : c.loop-m.m ≡ n + 1 = omega arith in
    let within : n < length occurs = omega arith in
    let inside : n + 1 < length nexts = omega (arith, within, c.loop-m.invariant.long) in
    subst (λ next. AreNextFrom n (length occurs) occurs (set nexts n next)) (sym c.next_at.ensures)
    (next_more n (length occurs) occurs nexts (get_or occurs n false) c.index.result.now (subst (λ k. AreNextFrom k (length occurs) occurs nexts) next_is c.loop-m.invariant) within (slice_get-get_or occurs n false within)
    (slice_get-get_or nexts (n + 1) c.index.result.now inside ∙ ap Some (sym c.index.ensures)))

pub returns : goal.returns
returns c =
    let at_start : c.loop-m.m ≡ 0 = omega arith in
    subst (λ k. AreNextFrom k (length c.args.occurs.now) c.args.occurs.now c.loop-m.nexts.items) at_start c.loop-m.invariant
