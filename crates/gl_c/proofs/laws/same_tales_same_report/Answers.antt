use Rattle.std.proofs.Common.{◌≡◌, Some, sym, ap, subst, ◌∙◌}
use Rattle.gl_findings.specs.Reports.{IsReportOf}
use Rattle.gl_findings.proofs.ListingsAgree.{listings_agree}
use Rattle.gl_renumbering.specs.Tales.{lists_by_mention}
use Rattle.gl_renumbering.proofs.Alike.{same_lists}
use Rattle.gl_c.proofs.laws.same_tales_same_report.Goals as goal

pub returns : goal.returns
returns c listing asked names others lists other_lists made other same one two =
    let alike = same_lists names others lists other_lists same in
    let by = lists_by_mention others other_lists in
    let report : made.report ≡ other.report = listings_agree listing asked by made.report other.report (subst (λ ls. IsReportOf listing asked ls made.report) alike.1 one.0) two.0 in
    let lists_what : made.listing ≡ other.listing = one.1 ∙ sym two.1 in
    let own : made.names ≡ other.names = one.2 ∙ ap Some alike.0 ∙ sym two.2 in
    λ i. record { report = report i; listing = lists_what i; names = own i }
