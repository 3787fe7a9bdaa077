use Rattle.std.proofs.Common.{◌∷◌, ◌++◌, [], take, sym, ap, subst, ◌∙◌}
use Rattle.gl_cycles.specs.Cycles.{cycles_in}
use Rattle.gl_findings.specs.bodies.Grouping.{AreFirsts}
use Rattle.gl_findings.proofs.FirstsAdded.{cycles_more}
use Rattle.gl_findings.proofs.grouped.firsts_of.Goals as goal

pub loop-i-preserved : goal.loop-i-preserved
loop-i-preserved c =
    let cycles = c.args.cycles.now in
    let i = c.loop-i.i in
    subst (λ l. AreFirsts c.args.classes.now l c.add.new.firsts)
    (ap (λ cycle. take i (cycles_in cycles) ++ cycle ∷ []) (c.deref.ensures.value ∙ ap (λ cycle. cycle.items) c.index-cycles-i.is) ∙ sym (cycles_more cycles i c.index-cycles-i.result c.loop-i-test.true))
    (c.in_ok-add.ensures c.if-not-branch.false (take i (cycles_in cycles)) c.loop-i.invariant)
