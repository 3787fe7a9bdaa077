-- What it means that a report is accepted, and each reason why one is not.
use Rattle.std.specs.Prelude.{◌≡◌, ◌≢◌, ◌≤◌, ℕ, Bool, true, false, List, length, map, Some, None, is_some, codes, All, IfSome, IsUtf8}
use Rattle.serde_json.specs.Data.{Data}
use Rattle.serde_json.specs.Read.{read}
use Rattle.gl_event.specs.declared.events.Event.{Event}
use Rattle.gl_event.specs.declared.events.Segment.{Segment}
use Rattle.gl_std.specs.Names.{NameLists}
use Rattle.gl_std.specs.declared.trace.Trace.{Trace}
use Rattle.gl_segments.specs.Laws.{DecidesBefore}
use Rattle.gl_segments.specs.Segments.{IsConsistent, IsLeastInRing}
use Rattle.gl_edges.specs.Edges.{edges}
use Rattle.gl_edges.specs.declared.edge.Edge.{Edge}
use Rattle.gl_edges.specs.declared.edge.Sample.{Sample}
use Rattle.gl_filters.specs.Asked.{first_out_of_range}
use Rattle.gl_filters.specs.Picked.{edges_of_table}
use Rattle.gl_cycles.specs.Laws.{IsCycleAt}
use Rattle.gl_trims.specs.Trims.{IsRemovalFault, IsWholeRemoval}
use Rattle.gl_cycles.specs.declared.found.Report.{Report}
use Rattle.gl_findings.specs.declared.listing.Listing.{Listing}
use Rattle.gl_report.specs.Exclusive.{ListsExclusive}
use Rattle.gl_report.specs.Findings.{findings_tree}
use Rattle.gl_report.specs.Tree.{edge_tree, report_tree}
use Rattle.gl_report.specs.TreeV1.{report_tree_v1}
use Rattle.gl_check.specs.Cycles.{AreCyclesOf, IsFirstFault}
use Rattle.gl_check.specs.Edges.{IsFirstDifference}
use Rattle.gl_check.specs.Shape.{asked_in, cycles_shown, format_in, is_report, items_under, listing_in, trim_in}
use Rattle.gl_check.specs.Signatures.{Ascend}
use Rattle.gl_check.specs.declared.fields.Format.{Format}
use Rattle.gl_check.specs.declared.fields.Format.TheVariants.{One, Two, Three}
use Rattle.gl_check.specs.declared.reports.Checked.{Checked}
use Rattle.gl_check.specs.declared.faults.CheckFault.{CheckFault}
use Rattle.gl_check.specs.declared.faults.CheckFault.TheVariants.{Json, Shape, Inconsistent, Table, Edge as AnEdge, Verdict, Order, Trim, Memory}

-- the bytes are the text of this JSON
abbrev pub Reads : List ℕ → Data → Type 0
Reads json said = IsUtf8 json × (read json ≡ Some said)

-- the JSON of a report, in each format
abbrev pub printed : Format → NameLists → Report → Data
printed One names report = report_tree_v1 names report
printed Two names report = report_tree names report
printed Three names report = findings_tree names report.query report.edges report.found

-- what a format has to leave out isn't there: format 1 shows no modes, so that its edges are of exclusive locks, and formats 1 and 3 show no trim order
abbrev pub Shows : Format → Report → Type 0
Shows One report = ListsExclusive report × (report.trim ≡ None)
Shows Two report = Unit {0}
Shows Three report = report.trim ≡ None

-- a report over the trace's own edges: each listed cycle is one of them that was asked for, and they ascend. Where findings are listed, each is shown by such a cycle
pub record IsTrueReport (trace : Trace) (listing : Listing) (before : Segment → Segment → Bool)
    (report : Report) : Type 0 where
  -- its edges are those of the trace's lists, with their samples
  pub own_edges : report.edges ≡ edges trace.lists
  -- what was asked is in its ranges, and no more cycles are listed
  pub in_range : first_out_of_range report.query ≡ None
  pub few : length report.found.cycles ≤ report.query.max
  -- each is a cycle of the mode and of at most the length asked for
  pub cycles : All (IsCycleAt before report.query.mode report.query.len
      (edges_of_table report.edges)) report.found.cycles
  -- each cycle, or each finding, is above the one before it
  pub ascend : Ascend listing report.edges report.found.cycles
  -- its trim order, if it has one, takes away each edge
  pub trim : IfSome report.trim
      (IsWholeRemoval before report.query.mode (edges_of_table report.edges))

-- the bytes are the JSON of a true report, and this is said of it
pub record IsChecked (trace : Trace) (json : List ℕ) (checked : Checked) : Type 0 where
  -- no segment of the trace is before itself, and this decides which is before which
  pub consistent : IsConsistent trace.lists
  pub before : Segment → Segment → Bool
  pub decides : DecidesBefore trace.lists before
  -- the report, as it is printed in one of the formats
  pub report : Report
  pub format : Format
  pub prints : Reads json (printed format trace.names report)
  pub shows : Shows format report
  pub is_true : IsTrueReport trace (listing_in format) before report
  -- what is answered: what is listed, by how many cycles, and whether a trim order is there
  pub lists : checked.listing ≡ listing_in format
  pub counted : checked.cycles ≡ length report.found.cycles
  pub trimmed : checked.acyclic ≡ is_some report.trim
  -- then the trace has no cycle of the mode, of whatever length
  pub none_of_any_length : checked.acyclic ≡ true → (len : ℕ) (positions : List ℕ)
      → ¬ IsCycleAt before report.query.mode len (edges_of_table (edges trace.lists)) positions

-- the format shows a table of all edges
abbrev pub ShowsTable : Format → Type 0
ShowsTable format = format ≢ One

module _ (names : NameLists) (table : List (Edge × Sample)) (before : Segment → Segment → Bool)
    (said : Data) where
  -- the table that is printed, which formats 2 and 3 have, is this one
  abbrev pub HasTable : Format → Type 0
  HasTable One = Unit {0}
  HasTable Two = items_under (codes "edges") said ≡ map (edge_tree names) table
  HasTable Three = items_under (codes "edges") said ≡ map (edge_tree names) table

  -- the listed cycles are cycles that were asked for, at these positions, and ascend
  abbrev pub AreListedAt : List (List ℕ) → Type 0
  AreListedAt found =
      AreCyclesOf (format_in said) names table before (asked_in said) (cycles_shown said) found

  -- the trim order, if one is said, takes away each edge
  abbrev pub HasWholeTrim : Type 0
  HasWholeTrim =
      IfSome (trim_in said) (IsWholeRemoval before (asked_in said).mode (edges_of_table table))

  -- this is the first place at which the trim order that is said is wrong
  pub record IsWrongTrim (place : ℕ) : Type 0 where
    pub removed : List ℕ
    pub given : trim_in said ≡ Some removed
    pub wrong : IsRemovalFault before (asked_in said).mode (edges_of_table table) removed place

  -- the trim order is at fault so, or memory was refused
  abbrev pub IsFaultOfTrim : CheckFault → Type 0
  IsFaultOfTrim (Trim i) = IsWrongTrim i
  IsFaultOfTrim Memory = Unit {0}
  IsFaultOfTrim Json = ⊥
  IsFaultOfTrim Shape = ⊥
  IsFaultOfTrim (Inconsistent at ring) = ⊥
  IsFaultOfTrim (Table k) = ⊥
  IsFaultOfTrim (AnEdge i k) = ⊥
  IsFaultOfTrim (Verdict i verdict) = ⊥
  IsFaultOfTrim (Order i) = ⊥

  -- all that is said holds
  pub record Holds (found : List (List ℕ)) : Type 0 where
    pub printed_table : HasTable (format_in said)
    pub cycles : AreListedAt found
    pub trim : HasWholeTrim

  -- the table is right, and this is the fault of the first listed cycle that has one
  pub record IsCyclesFault (fault : CheckFault) : Type 0 where
    pub printed_table : HasTable (format_in said)
    pub first : IsFirstFault (format_in said) names table before (asked_in said)
        (cycles_shown said) fault

  -- table and cycles are right, and this is the first place at which the trim order is wrong
  pub record IsTrimFault (place : ℕ) : Type 0 where
    pub printed_table : HasTable (format_in said)
    pub found : List (List ℕ)
    pub cycles : AreListedAt found
    pub trim : IsWrongTrim place

  -- this is the first thing said that is false
  abbrev pub IsFirstFalse : CheckFault → Type 0
  IsFirstFalse (Table k) =
      ShowsTable (format_in said)
      × IsFirstDifference (items_under (codes "edges") said) (map (edge_tree names) table) k
  IsFirstFalse (AnEdge i k) = IsCyclesFault (AnEdge i k)
  IsFirstFalse (Verdict i verdict) = IsCyclesFault (Verdict i verdict)
  IsFirstFalse (Order i) = IsCyclesFault (Order i)
  IsFirstFalse (Trim i) = IsTrimFault i
  IsFirstFalse Memory = Unit {0}
  IsFirstFalse Json = ⊥
  IsFirstFalse Shape = ⊥
  IsFirstFalse (Inconsistent at ring) = ⊥

-- the trace is consistent, and what is said of it holds, with the listed cycles at these positions
pub record HoldsOf (trace : Trace) (said : Data) (found : List (List ℕ)) : Type 0 where
  pub consistent : IsConsistent trace.lists
  pub before : Segment → Segment → Bool
  pub decides : DecidesBefore trace.lists before
  pub holds : Holds trace.names (edges trace.lists) before said found

-- the trace is consistent, and this is the first fault of what is said of it
pub record IsFalseOf (trace : Trace) (said : Data) (fault : CheckFault) : Type 0 where
  pub consistent : IsConsistent trace.lists
  pub before : Segment → Segment → Bool
  pub decides : DecidesBefore trace.lists before
  pub first : IsFirstFalse trace.names (edges trace.lists) before said fault

-- the bytes are JSON of the shape of a report, and this is the first fault of what it says
pub record IsReportFault (trace : Trace) (json : List ℕ) (fault : CheckFault) : Type 0 where
  pub said : Data
  pub reads : Reads json said
  pub shaped : is_report said ≡ true
  pub is : IsFalseOf trace said fault

-- the lists of a trace have no order
abbrev pub IsOrderFault : List (List Event) → CheckFault → Type 0
IsOrderFault lists (Inconsistent at ring) = IsLeastInRing lists at ring.items
IsOrderFault lists Memory = Unit {0}
IsOrderFault lists Json = ⊥
IsOrderFault lists Shape = ⊥
IsOrderFault lists (Table k) = ⊥
IsOrderFault lists (AnEdge i k) = ⊥
IsOrderFault lists (Verdict i verdict) = ⊥
IsOrderFault lists (Order i) = ⊥
IsOrderFault lists (Trim i) = ⊥

-- the fault is the first that the report has: each is looked for only where those before it were not found
abbrev pub IsCheckFault : Trace → List ℕ → CheckFault → Type 0
IsCheckFault trace json Json = IsUtf8 json → read json ≡ None
IsCheckFault trace json Shape = (d : Data) × Reads json d × (is_report d ≡ false)
IsCheckFault trace json (Inconsistent at ring) =
    (d : Data) × Reads json d × (is_report d ≡ true) × IsLeastInRing trace.lists at ring.items
IsCheckFault trace json (Table k) = IsReportFault trace json (Table k)
IsCheckFault trace json (AnEdge i k) = IsReportFault trace json (AnEdge i k)
IsCheckFault trace json (Verdict i verdict) = IsReportFault trace json (Verdict i verdict)
IsCheckFault trace json (Order i) = IsReportFault trace json (Order i)
IsCheckFault trace json (Trim i) = IsReportFault trace json (Trim i)
IsCheckFault trace json Memory = Unit {0}
