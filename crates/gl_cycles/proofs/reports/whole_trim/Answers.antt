use Rattle.std.proofs.Common.{◌≡◌, ◌<◌, eqb, cond, length, take, Some, None, sym, ap, ◌∙◌, arith}
use Rattle.std.specs.Prelude.{vec_len}
use Rattle.std.proofs.lemmas.List.{length-map}
use Rattle.gl_segments.specs.Clocks.{is_before}
use Rattle.gl_filters.specs.Picked.{edges_of_table}
use Rattle.gl_cycles.specs.AllCycles.{all_cycles}
use Rattle.gl_trims.specs.Trims.{IsTrimmed}
use Rattle.gl_cycles.proofs.WholeTrims.{first_of_taken, none_with_cycle, whole_is, some_from_test}
use Rattle.gl_cycles.proofs.reports.whole_trim.Goals as goal

-- no edge of a cycle goes
pub returns-then-not-is_empty : goal.returns-then-not-is_empty
returns-then-not-is_empty c =
    let before = is_before c.args.order.now in
    let asked = c.args.query.now in
    let edges = edges_of_table c.args.edges.now in
    let some : 0 < length (take asked.max (all_cycles before asked.mode asked.len edges)) =
    omega (arith, some_from_test (length c.as_slice.result.now) c.if-not-is_empty.ensures, ap length (c.as_slice.ensures ∙ ap (λ found. found.cycles) c.requires), length-map c.as_slice.result.now (λ cycle. cycle.items)) in
    let first = first_of_taken asked.max (all_cycles before asked.mode asked.len edges) some in
    sym (none_with_cycle before asked.mode edges asked.len first.0 first.1)

-- one is kept
pub returns-then-not-is_empty-2 : goal.returns-then-not-is_empty-2
returns-then-not-is_empty-2 c =
    let before = is_before c.args.order.now in
    let asked = c.args.query.now in
    let edges = edges_of_table c.args.edges.now in
    let is : IsTrimmed before asked.mode edges c.in_ok-trimmed.trimmed.kept.items c.in_ok-trimmed.trimmed.removed.items = rw c.mode.ensures.value at c.in_ok-trimmed.ensures in
    let kept = c.in_ok-trimmed.trimmed.kept in
    let same : length kept.items ≡ vec_len kept = omega (arith, kept.ok.0) in
    sym (whole_is before asked.mode edges c.in_ok-trimmed.trimmed.kept.items c.in_ok-trimmed.trimmed.removed.items is ∙ ap (λ b. cond b (Some c.in_ok-trimmed.trimmed.removed.items) None) (ap (λ n. eqb n 0) same ∙ sym c.if-not-is_empty-2.ensures))

-- all of them go
pub returns : goal.returns
returns c =
    let before = is_before c.args.order.now in
    let asked = c.args.query.now in
    let edges = edges_of_table c.args.edges.now in
    let is : IsTrimmed before asked.mode edges c.in_ok-trimmed.trimmed.kept.items c.in_ok-trimmed.trimmed.removed.items = rw c.mode.ensures.value at c.in_ok-trimmed.ensures in
    let kept = c.in_ok-trimmed.trimmed.kept in
    let same : length kept.items ≡ vec_len kept = omega (arith, kept.ok.0) in
    ap Some c.from_vec.ensures ∙ sym (whole_is before asked.mode edges c.in_ok-trimmed.trimmed.kept.items c.in_ok-trimmed.trimmed.removed.items is ∙ ap (λ b. cond b (Some c.in_ok-trimmed.trimmed.removed.items) None) (ap (λ n. eqb n 0) same ∙ sym c.if-not-is_empty-2.ensures))
