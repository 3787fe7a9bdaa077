-- What holds of accepted reports, for readers.
use Rattle.std.specs.Prelude.{ℕ, Bool, List, AllPairs}
use Rattle.gl_event.specs.declared.events.Segment.{Segment}
use Rattle.gl_std.specs.declared.trace.Trace.{Trace}
use Rattle.gl_edges.specs.declared.edge.Edge.{Edge}
use Rattle.gl_edges.specs.declared.edge.Sample.{Sample}
use Rattle.gl_cycles.specs.declared.found.Report.{Report}
use Rattle.gl_findings.specs.Laws.{AreOneFinding}
use Rattle.gl_findings.specs.declared.listing.Listing.TheVariants.{Findings}
use Rattle.gl_check.specs.Checked.{IsTrueReport}

-- no two of the cycles at these positions are one finding
abbrev pub AreOtherFindings : List (Edge × Sample) → List (List ℕ) → Type 0
AreOtherFindings table shown = AllPairs (λ one other. ¬ AreOneFinding table one other) shown

-- a true report of findings lists none twice, whichever cycles show them
abbrev pub NoneIsToldTwice : Trace → (Segment → Segment → Bool) → Report → Type 0
NoneIsToldTwice trace before report =
    IsTrueReport trace Findings before report → AreOtherFindings report.edges report.found.cycles
