use Rattle.std.proofs.Common.{◌≤◌, below_more, arith, rules, sym, subst, ◌∙◌}
use Rattle.std.proofs.lemmas.Option.{same_Some}
use Rattle.gl_filters.specs.Picked.{edges_of_table, picked}
use Rattle.gl_filters.specs.Verdicts.{IsNotLesserAt}
use Rattle.gl_edges.specs.declared.edge.Edge.{Edge}
use Rattle.gl_filters.proofs.Judged.{picked_length}
use Rattle.gl_filters.proofs.verdict.first_lesser.Goals as goal

pub loop-i-preserved : goal.loop-i-preserved
loop-i-preserved c =
    below_more (IsNotLesserAt (picked (edges_of_table c.args.table.now) c.args.cycle.now)) c.loop-i.i c.loop-i.invariant
    (λ e f first this.
    let e_is = same_Some _ e (sym c.edge_at-first.ensures ∙ first) in
    let f_is = same_Some _ f (sym c.edge_at.ensures ∙ this) in
    let least : c.edge_at-first.result.now.thread ≤ c.edge_at.result.now.thread = search rules in
    subst (λ (x : Edge). x.thread ≤ f.thread) e_is (subst (λ (x : Edge). c.edge_at-first.result.now.thread ≤ x.thread) f_is least))

pub returns : goal.returns
returns c = λ i within.
    let same = picked_length c.args.table.now c.args.cycle.now c.requires.within in
    c.loop-i.invariant i (omega (arith, same, c.loop-i-test.false))
