use Rattle.std.proofs.Common.{[], ◌∷◌, ◌++◌, ◌∙◌, ap}
use Rattle.gl_report.proofs.tree.line_of.Goals as goal

pub returns : goal.returns
returns c = λ plain.
    c.in_ok-push.ensures.items
    ∙ ap (λ l. l ++ 10 ∷ []) (ap (λ v. v.items) c.into_bytes-text.ensures.value ∙ c.in_ok-to_string.ensures.text plain)
