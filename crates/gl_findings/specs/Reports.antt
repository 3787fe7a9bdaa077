-- The reports over edges that list cycles or findings, with a trim order or without one.
use Rattle.std.specs.Prelude.{◌≡◌, Bool, List, None}
use Rattle.gl_event.specs.declared.events.Event.{Event}
use Rattle.gl_event.specs.declared.events.Segment.{Segment}
use Rattle.gl_segments.specs.Laws.{DecidesBefore}
use Rattle.gl_segments.specs.Segments.{IsConsistent}
use Rattle.gl_edges.specs.Edges.{edges}
use Rattle.gl_edges.specs.declared.edge.Edge.{Edge}
use Rattle.gl_edges.specs.declared.edge.Sample.{Sample}
use Rattle.gl_filters.specs.Asked.{Asked}
use Rattle.gl_cycles.specs.Listed.{listed_cycles}
use Rattle.gl_cycles.specs.Reports.{report_by, IsGoodlockReport}
use Rattle.gl_cycles.specs.declared.found.Found.{Found}
use Rattle.gl_cycles.specs.declared.found.Report.{Report}
use Rattle.gl_findings.specs.Listed.{listed_findings}
use Rattle.gl_findings.specs.declared.listing.Contents.{Contents}
use Rattle.gl_findings.specs.declared.listing.Contents.TheVariants as only
use Rattle.gl_findings.specs.declared.listing.Listing.{Listing}
use Rattle.gl_findings.specs.declared.listing.Listing.TheVariants.{Cycles, Findings}

-- the report that lists what was found. It has no trim order
abbrev pub untrimmed : Asked → List (Edge × Sample) → Found → Report
untrimmed asked pairs found = record { query = asked; edges = pairs; found = found; trim = None }

-- the report that lists findings, each shown by a cycle, by a test of which segment is before which
abbrev pub findings_by : Asked → (Segment → Segment → Bool) → List (Edge × Sample) → Report
findings_by asked before pairs = untrimmed asked pairs (listed_findings asked before pairs)

-- the report that lists cycles, or findings
abbrev pub listing_by : Listing → Asked → (Segment → Segment → Bool) → List (Edge × Sample) → Report
listing_by Cycles = report_by
listing_by Findings = findings_by

-- the report that has these contents
abbrev pub report_with : Contents → Asked → (Segment → Segment → Bool) → List (Edge × Sample)
    → Report
report_with only.Cycles asked before pairs =
    untrimmed asked pairs (listed_cycles asked before pairs)
report_with only.CyclesAndTrim asked before pairs = report_by asked before pairs
report_with only.Findings asked before pairs = findings_by asked before pairs

-- this is the report over these edges that has these contents, by the order of these lists
pub record IsReportWith
    (contents : Contents) (asked : Asked) (pairs : List (Edge × Sample)) (lists : List (List Event))
    (report : Report)
    : Type 0 where
  -- no segment of the lists is before itself
  pub consistent : IsConsistent lists
  -- a test of which of their segments is before which
  pub before : Segment → Segment → Bool
  -- it is one
  pub decides : DecidesBefore lists before
  -- the report is made by it
  pub is : report ≡ report_with contents asked before pairs

-- this is the report of these lists that lists cycles, which is their Goodlock report, or the one that lists findings: both over their own edges
abbrev pub IsReportOf : Listing → Asked → List (List Event) → Report → Type 0
IsReportOf Cycles asked lists report = IsGoodlockReport asked lists report
IsReportOf Findings asked lists report =
    IsReportWith only.Findings asked (edges lists) lists report

-- which report it is follows from what it lists, what was asked and the lists
abbrev pub ListingsAreUnique : Type 0
ListingsAreUnique =
    (listing : Listing) (asked : Asked) (lists : List (List Event)) (a b : Report)
    → IsReportOf listing asked lists a → IsReportOf listing asked lists b → a ≡ b
