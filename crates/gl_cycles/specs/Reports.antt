-- The report over edges: the first cycles that a query asks for, by the order of lists of events.
use Rattle.std.specs.Prelude.{◌≡◌, Bool, List}
use Rattle.gl_event.specs.declared.events.Event.{Event}
use Rattle.gl_event.specs.declared.events.Segment.{Segment}
use Rattle.gl_segments.specs.Laws.{DecidesBefore}
use Rattle.gl_segments.specs.Segments.{IsConsistent, IsLeastInRing}
use Rattle.gl_segments.specs.declared.faults.OrderFault.{OrderFault}
use Rattle.gl_segments.specs.declared.faults.OrderFault.TheVariants as order
use Rattle.gl_edges.specs.Edges.{edges}
use Rattle.gl_edges.specs.declared.edge.Edge.{Edge}
use Rattle.gl_edges.specs.declared.edge.Sample.{Sample}
use Rattle.gl_filters.specs.Asked.{Asked}
use Rattle.gl_filters.specs.Picked.{edges_of_table}
use Rattle.gl_cycles.specs.Listed.{listed_cycles}
use Rattle.gl_trims.specs.Trims.{whole_trim}
use Rattle.gl_cycles.specs.declared.found.Report.{Report}
use Rattle.gl_cycles.specs.declared.found.ReportFault.{ReportFault}
use Rattle.gl_cycles.specs.declared.found.ReportFault.TheVariants.{Inconsistent, Memory}

-- the first of the cycles that are asked for, whether there are more, and the whole trim order, by a test of which segment is before which
abbrev pub report_by : Asked → (Segment → Segment → Bool) → List (Edge × Sample) → Report
report_by asked before pairs =
    record {
      query = asked;
      edges = pairs;
      found = listed_cycles asked before pairs;
      trim = whole_trim before asked.mode (edges_of_table pairs);
    }

-- this is the report over these edges, by the order of these lists
pub record IsReport (asked : Asked) (pairs : List (Edge × Sample)) (lists : List (List Event))
    (report : Report) : Type 0 where
  -- no segment of the lists is before itself
  pub consistent : IsConsistent lists
  -- a test of which of their segments is before which
  pub before : Segment → Segment → Bool
  -- it is one
  pub decides : DecidesBefore lists before
  -- the report has the first cycles by it
  pub is : report ≡ report_by asked before pairs

-- there is no report by the order of these lists: the least segment that is before itself, with a ring. Out of memory may come at any time
abbrev pub IsReportFault : List (List Event) → ReportFault → Type 0
IsReportFault lists (Inconsistent at ring) = IsLeastInRing lists at ring.items
IsReportFault lists Memory = Unit {0}

-- why there is no report where there is no order: the same fault, of a report
abbrev pub report_fault_of : OrderFault → ReportFault
report_fault_of (order.Inconsistent at ring) = Inconsistent at ring
report_fault_of order.Memory = Memory

-- the Goodlock report of lists of events: that over their own edges
abbrev pub IsGoodlockReport : Asked → List (List Event) → Report → Type 0
IsGoodlockReport asked lists report = IsReport asked (edges lists) lists report

-- which report it is follows from what was asked, the edges and the lists
abbrev pub ReportsAreUnique : Type 0
ReportsAreUnique =
    (asked : Asked) (pairs : List (Edge × Sample)) (lists : List (List Event)) (a b : Report)
    → IsReport asked pairs lists a → IsReport asked pairs lists b → a ≡ b

-- so does the segment that stands against it
abbrev pub LoopsAreUnique : Type 0
LoopsAreUnique =
    (lists : List (List Event)) (a b : Segment) (ring other : List Segment)
    → IsLeastInRing lists a ring → IsLeastInRing lists b other → a ≡ b

-- and where there is one, there is no report
abbrev pub NoReportOfLoops : Type 0
NoReportOfLoops =
    (asked : Asked) (pairs : List (Edge × Sample)) (lists : List (List Event)) (report : Report)
    (at : Segment) (ring : List Segment) → IsLeastInRing lists at ring
    → ¬ IsReport asked pairs lists report
