use Rattle.serde_json.specs.View.{view}
use Rattle.gl_report.specs.Findings.{findings_tree}
use Rattle.gl_report.proofs.Trees.{findings_without_float, line_of_tree}
use Rattle.gl_report.proofs.findings.findings_json_text.Goals as goal

pub returns : goal.returns
returns c =
    let names = c.args.names.now in
    let asked = c.args.query.now in
    let table = c.args.edges.now in
    let found = c.args.found.now in
    line_of_tree c.line_of.result (view c.in_ok-value.value) (findings_tree names asked table found) c.in_ok-value.ensures (findings_without_float names asked table found) c.line_of.ensures
