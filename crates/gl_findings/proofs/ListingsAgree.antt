-- What a report of lists lists, what was asked and the lists decide the report.
use Rattle.std.proofs.Common.{sym, ◌∙◌}
use Rattle.gl_edges.specs.Edges.{edges}
use Rattle.gl_segments.proofs.LawLemmas.{agree}
use Rattle.gl_cycles.proofs.ReportsAreUnique.{reports_agree}
use Rattle.gl_findings.specs.Reports.{ListingsAreUnique, findings_by}
use Rattle.gl_findings.specs.declared.listing.Listing.TheVariants.{Cycles, Findings}

pub listings_agree : ListingsAreUnique
listings_agree Cycles asked lists a b of_a of_b = reports_agree asked (edges lists) lists a b of_a of_b
listings_agree Findings asked lists a b of_a of_b =
    of_a.is
    ∙ (λ i. findings_by asked (λ s t. agree lists of_a.before of_b.before of_a.decides of_b.decides s t i) (edges lists))
    ∙ sym of_b.is
