use Rattle.std.proofs.Common.{◌≡◌, ◌+◌, take, sym, ap, subst, ◌∙◌}
use Rattle.std.specs.Prelude.{IfSome}
use Rattle.gl_filters.specs.Picked.{edges_of_table}
use Rattle.gl_cycles.specs.AllCycles.{all_cycles}
use Rattle.gl_cycles.specs.Cycles.{cycles_in}
use Rattle.gl_cycles.specs.Listed.{listed}
use Rattle.gl_grounds.specs.Classes.{classes_of}
use Rattle.gl_findings.specs.Findings.{findings}
use Rattle.gl_findings.specs.bodies.Grouping.{AreFirsts}
use Rattle.gl_findings.specs.declared.grouped.TheConstants.{MANY}
use Rattle.gl_findings.proofs.InOrder.{all_listed, findings_are_firsts}
use Rattle.gl_findings.proofs.grouped.grouped.Goals as goal

pub returns : goal.returns
returns c = λ before is.
    let asked = c.args.query.now in
    let table = c.args.edges.now in
    let firsts = c.in-Some.firsts in
    let all = all_cycles before asked.mode asked.len (edges_of_table table) in
    let told = findings before asked.mode asked.len table in
    let classes_are : c.deref.result.now ≡ classes_of table = c.deref.ensures.value ∙ c.in_ok-classes.ensures.classes ∙ ap classes_of c.entries.ensures.pairs in
    let cycles_are : cycles_in c.as_slice.result.now ≡ all = c.as_slice.ensures ∙ all_listed MANY all c.args.all.now is c.if-all.false in
    let are : AreFirsts c.deref.result.now (cycles_in c.as_slice.result.now) firsts =
    subst (λ o. IfSome o (λ firsts. AreFirsts c.deref.result.now (cycles_in c.as_slice.result.now) firsts)) c.in-Some.is c.in_ok-firsts.ensures in
    let same = findings_are_firsts before asked.mode asked.len table firsts
    (subst (λ classes. AreFirsts classes all firsts) classes_are (subst (λ cycles. AreFirsts c.deref.result.now cycles firsts) cycles_are are)) in
    c.listed.ensures told
    (c.in_ok-findings.ensures ∙ ap (take (c.max.result + 1)) (sym same) ∙ ap (λ max. take (max + 1) told) (c.max.ensures.value ∙ sym c.max-2.ensures.value))
    ∙ ap (λ max. listed max told) c.max-2.ensures.value
