use Rattle.std.proofs.Common.{◌≡◌, Some, below_more, arith, ap, sym, subst, ◌∙◌}
use Rattle.std.specs.Prelude.{slice_get}
use Rattle.std.proofs.lemmas.Option.{same_Some}
use Rattle.gl_filters.specs.Picked.{edges_of_table, picked}
use Rattle.gl_filters.specs.Verdicts.{following, IsClosedAt}
use Rattle.std.proofs.lemmas.Bool.{false≢true}
use Rattle.gl_filters.specs.Cycle.{LeadsOn}
use Rattle.gl_filters.proofs.Cycling.{leads_tells, leads_from}
use Rattle.gl_filters.proofs.Judged.{picked_length}
use Rattle.gl_filters.proofs.verdict.first_open.Goals as goal

pub returns-then-not-leads_on : goal.returns-then-not-leads_on
returns-then-not-leads_on c =
    let same = picked_length c.args.table.now c.args.cycle.now c.requires.within in
    let next_is = c.next_place-next.ensures.next ∙ ap (λ n. following n c.loop-i.i) (sym same) in
    record {
      one = c.edge_at.result.now;
      next = c.edge_at-in-loop-i.result.now;
      at_one = c.edge_at.ensures;
      at_next = subst (λ k. slice_get (picked (edges_of_table c.args.table.now) c.args.cycle.now) k ≡ Some c.edge_at-in-loop-i.result.now) next_is c.edge_at-in-loop-i.ensures;
      open_here = λ leads. false≢true (c.if-not-leads_on.ensures ∙ leads_from _ _ leads);
      closed_before = c.loop-i.invariant;
    }

pub loop-i-preserved : goal.loop-i-preserved
loop-i-preserved c =
    let same = picked_length c.args.table.now c.args.cycle.now c.requires.within in
    let next_is = c.next_place-next.ensures.next ∙ ap (λ n. following n c.loop-i.i) (sym same) in
    below_more (IsClosedAt (picked (edges_of_table c.args.table.now) c.args.cycle.now)) c.loop-i.i c.loop-i.invariant
    (λ e f one next.
    let e_is = same_Some _ e (sym c.edge_at.ensures ∙ one) in
    let f_is = same_Some _ f (sym c.edge_at-in-loop-i.ensures ∙ ap (slice_get (picked (edges_of_table c.args.table.now) c.args.cycle.now)) next_is ∙ next) in
    subst (λ x. LeadsOn x f) e_is (subst (LeadsOn c.edge_at.result.now) f_is (leads_tells c.edge_at.result.now c.edge_at-in-loop-i.result.now (sym c.if-not-leads_on.ensures))))

pub returns : goal.returns
returns c = λ i within.
    let same = picked_length c.args.table.now c.args.cycle.now c.requires.within in
    c.loop-i.invariant i (omega (arith, same, c.loop-i-test.false))
