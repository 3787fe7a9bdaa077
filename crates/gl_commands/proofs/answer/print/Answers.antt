use Rattle.std.proofs.Common.{◌≡◌, sym, subst}
use Rattle.std.specs.Prelude.{IfOk}
use Rattle.gl_options.specs.declared.form.Form.{Form}
use Rattle.gl_commands.specs.Answer.{printed_report}
use Rattle.gl_commands.proofs.answer.print.Goals as goal

pub returns-in-Text : goal.returns-in-Text
returns-in-Text c = subst (λ (form : Form). IfOk c.listed_text.result (λ t. t.items ≡ printed_report c.args.listing form c.args.names.now c.args.report.now)) (sym c.in-Text.is) c.listed_text.ensures

pub returns-in-Json : goal.returns-in-Json
returns-in-Json c = subst (λ (form : Form). IfOk c.listed_json_text.result (λ t. t.items ≡ printed_report c.args.listing form c.args.names.now c.args.report.now)) (sym c.in-Json.is) c.listed_json_text.ensures
