use Rattle.serde_json.specs.View.{view}
use Rattle.gl_report.specs.Tree.{report_tree}
use Rattle.gl_report.proofs.Trees.{line_of_tree, report_without_float}
use Rattle.gl_report.proofs.tree.json_text.Goals as goal

pub returns : goal.returns
returns c =
    let names = c.args.names.now in
    let report = c.args.report.now in
    line_of_tree c.line_of.result (view c.in_ok-value.value) (report_tree names report) c.in_ok-value.ensures (report_without_float names report) c.line_of.ensures
