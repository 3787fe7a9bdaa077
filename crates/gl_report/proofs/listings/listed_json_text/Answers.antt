use Rattle.std.proofs.Common.{◌≡◌, sym, subst}
use Rattle.std.specs.Prelude.{IfOk}
use Rattle.gl_findings.specs.declared.listing.Listing.{Listing}
use Rattle.gl_report.specs.Listings.{listed_json}
use Rattle.gl_report.proofs.listings.listed_json_text.Goals as goal

pub returns-in-Cycles : goal.returns-in-Cycles
returns-in-Cycles c = subst (λ (listing : Listing). IfOk c.json_text.result (λ t. t.items ≡ listed_json listing c.args.names.now c.args.report.now)) (sym c.in-Cycles.is) c.json_text.ensures

pub returns-in-Findings : goal.returns-in-Findings
returns-in-Findings c = subst (λ (listing : Listing). IfOk c.findings_json_text.result (λ t. t.items ≡ listed_json listing c.args.names.now c.args.report.now)) (sym c.in-Findings.is) c.findings_json_text.ensures
