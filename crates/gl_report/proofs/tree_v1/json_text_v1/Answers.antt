use Rattle.std.proofs.Common.{[], ◌∷◌, ◌++◌, ◌∙◌, ap}
use Rattle.serde_json.specs.Written.{has_float, compact_text}
use Rattle.gl_report.proofs.Trees.{report_v1_without_float}
use Rattle.gl_report.proofs.tree_v1.json_text_v1.Goals as goal

pub returns : goal.returns
returns c =
    let plain = ap has_float c.in_ok-value.ensures ∙ report_v1_without_float c.args.names.now c.args.report.now in
    c.in_ok-push.ensures.items
    ∙ ap (λ l. l ++ 10 ∷ []) (ap (λ v. v.items) c.into_bytes-text.ensures.value ∙ c.in_ok-to_string.ensures.text plain ∙ ap compact_text c.in_ok-value.ensures)
