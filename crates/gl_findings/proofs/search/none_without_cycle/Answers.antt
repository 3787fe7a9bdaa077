use Rattle.std.proofs.Common.{◌≡◌, ◌+◌, length, take, sym, ap, ◌∙◌}
use Rattle.std.proofs.lemmas.Bool.{eqb-true}
use Rattle.std.proofs.lemmas.List.{length-map}
use Rattle.gl_filters.specs.Picked.{edges_of_table}
use Rattle.gl_cycles.specs.AllCycles.{all_cycles}
use Rattle.gl_cycles.specs.Cycles.{cycles_in}
use Rattle.gl_cycles.specs.Listed.{listed}
use Rattle.gl_findings.specs.Findings.{findings}
use Rattle.gl_findings.proofs.Shorter.{no_findings, nothing_first, take_nothing}
use Rattle.gl_findings.proofs.search.none_without_cycle.Goals as goal

pub returns-then-is_empty : goal.returns-then-is_empty
returns-then-is_empty c = λ before pairs first_is.
    let asked = c.args.query.now in
    let all = all_cycles before asked.mode asked.len (edges_of_table pairs) in
    let told = findings before asked.mode asked.len pairs in
    let none : length (take 1 all) ≡ 0 =
    ap length (ap (λ found. found.cycles) (sym first_is) ∙ sym c.as_slice.ensures)
    ∙ length-map c.as_slice.result.now (λ cycle. cycle.items)
    ∙ eqb-true _ _ (sym c.is_empty.ensures ∙ c.if-is_empty.true) in
    let nothing = no_findings before asked.mode asked.len pairs (nothing_first all none) in
    c.listed.ensures told (ap cycles_in c.new.ensures.items ∙ take_nothing (c.max.result + 1) ∙ ap (take (c.max.result + 1)) (sym nothing))
    ∙ ap (λ max. listed max told) c.max.ensures.value
