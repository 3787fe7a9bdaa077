use Rattle.std.proofs.Common.{◌≤◌, List, length, sym, ap, ◌∙◌, arith}
use Rattle.std.specs.Prelude.{All, Contains}
use Rattle.gl_edges.specs.declared.edge.Edge.{Edge}
use Rattle.gl_segments.specs.Clocks.{is_before}
use Rattle.gl_filters.specs.Cycle.{IsCycle}
use Rattle.gl_filters.specs.Picked.{edges_of_table}
use Rattle.gl_cycles.specs.Listed.{listed}
use Rattle.gl_findings.specs.Findings.{findings}
use Rattle.gl_findings.specs.Listed.{listed_findings}
use Rattle.gl_findings.proofs.Shorter.{findings_shorter}
use Rattle.gl_findings.proofs.search.shorter_query.Goals as goal

pub returns-in-Ok : goal.returns-in-Ok
returns-in-Ok c =
    let before = is_before c.args.order.now in
    let asked = c.args.query.now in
    let table = c.args.edges.now in
    let sought = c.of-sought.ensures in
    let shorter = c.in_ok-shorter.ensures in
    let each : (cycle : List Edge) → All (Contains (edges_of_table table)) cycle → IsCycle before asked.mode asked.len cycle → length cycle ≤ c.in_ok-shorter.shorter.len =
    rw (sought.table, sought.order, sought.mode, sought.len) at shorter.all in
    let all : (cycle : List Edge) → All (Contains (edges_of_table table)) cycle → IsCycle before asked.mode asked.len cycle → length cycle ≤ c.max.result =
    λ cycle among is. let short = each cycle among is in omega (arith, short, c.max.ensures) in
    let less : c.max.result ≤ asked.len = omega (arith, shorter.short, sought.len, c.max.ensures, c.max-2.ensures.within.two_edges) in
    ap (λ query. listed_findings query before table) c.in-Ok.ensures.kept
    ∙ (λ i. listed (c.max-2.ensures.value i) (findings before (c.mode.ensures.value i) c.max.result table))
    ∙ ap (listed asked.max) (sym (findings_shorter before asked.mode asked.len table c.max.result less all))
