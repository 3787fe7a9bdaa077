-- What is answered to a text: what a command prints of its trace, or why it prints nothing.
use Rattle.std.specs.Prelude.{◌≡◌, ℕ, Bool, List, Ok, Err, length, nat_lt, if◌then◌else◌}
use Rattle.gl_event.specs.Bounds.{Bounds, greatest}
use Rattle.gl_event.specs.declared.events.Event.{Event}
use Rattle.gl_event.specs.declared.events.Segment.{Segment}
use Rattle.gl_std.specs.Names.{NameLists}
use Rattle.gl_std.specs.Trace.{trace_of}
use Rattle.gl_writing.specs.Written.{written}
use Rattle.gl_std.specs.declared.faults.StdKind.{StdKind}
use Rattle.gl_std.specs.declared.faults.ReadFault.TheVariants.{Line}
use Rattle.gl_std.specs.declared.trace.Trace.{Trace}
use Rattle.gl_edges.specs.Edges.{edges}
use Rattle.gl_segments.specs.Laws.{DecidesBefore}
use Rattle.gl_segments.specs.Segments.{Before, IsBelow, IsConsistent}
use Rattle.gl_filters.specs.Asked.{Asked}
use Rattle.gl_cycles.specs.declared.found.Report.{Report}
use Rattle.gl_findings.specs.Reports.{listing_by}
use Rattle.gl_findings.specs.declared.listing.Listing.{Listing}
use Rattle.gl_findings.specs.declared.listing.Listing.TheVariants as lists
use Rattle.gl_report.specs.Counts.{stats_of, stats_text}
use Rattle.gl_report.specs.Listings.{listed_json, listed_text}
use Rattle.gl_commands.specs.RefusalLines.{fault_line, inconsistent_line}
use Rattle.gl_options.specs.declared.form.Form.{Form}
use Rattle.gl_options.specs.declared.form.Form.TheVariants.{Text, Json}
use Rattle.gl_commands.specs.declared.ended.Outcome.{Outcome}
use Rattle.gl_commands.specs.declared.ended.Outcome.TheVariants.{Clean, Cycles, Done}

-- a text to be printed, with what becomes of the command once it is, or a line that says why there is none
pub data Answer : Type 0 where
  Prints : (text : List ℕ) (outcome : Outcome) → Answer
  Refusal : (line : List ℕ) → Answer

-- the segment is before itself, and no lesser one is
pub record IsLeastBeforeItself (lists : List (List Event)) (at : Segment) : Type 0 where
  pub loops : Before lists at at
  pub least : (s : Segment) → Before lists s s → ¬ IsBelow s at

-- ---- what is printed of a trace, by a test of which segment is before which

-- the report of a trace that lists cycles, or findings: the one over the edges of its lists
abbrev pub report_of : Listing → Asked → (Segment → Segment → Bool) → Trace → Report
report_of listing asked before trace = listing_by listing asked before (edges trace.lists)

-- a report that lists cycles, or findings, in the form that is asked for
abbrev pub printed_report : Listing → Form → NameLists → Report → List ℕ
printed_report listing Text names report = listed_text listing names report
printed_report listing Json names report = listed_json listing names report

-- whether a report lists a cycle, or a finding
abbrev pub outcome_of : Report → Outcome
outcome_of report = if nat_lt 0 (length report.found.cycles) then Cycles else Clean

-- `predict` prints the report that lists cycles, and `predict --findings` the one that lists findings
abbrev pub prediction : Listing → Asked → Form → (Segment → Segment → Bool) → Trace → Answer
prediction listing asked form before trace =
    let report = report_of listing asked before trace in
    Prints (printed_report listing form trace.names report) (outcome_of report)

-- `stats` prints the counts of the trace and of the report that lists cycles
abbrev pub counts : Asked → (Segment → Segment → Bool) → Trace → Answer
counts asked before trace =
    Prints (stats_text (stats_of trace (report_of lists.Cycles asked before trace))) Done

-- `replay` prints the trace as a text, and needs no order of segments
abbrev pub replay : Trace → Answer
replay trace = Prints (written trace.names trace.lists) Done

-- ---- what is answered to a text

-- under these limits, by a command that prints this of a trace and of the order of its segments
pub data IsAnswerUnder (limits : Bounds) (printed : (Segment → Segment → Bool) → Trace → Answer)
    (text : List ℕ) : Answer → Type 0 where
  -- the first line with a fault
  bad_line : (line : ℕ) (kind : StdKind) → trace_of limits text ≡ Err (Line line kind)
      → IsAnswerUnder limits printed text (Refusal (fault_line line kind))
  -- forks and joins that can't have happened
  no_order : (trace : Trace) (at : Segment) → trace_of limits text ≡ Ok trace
      → IsLeastBeforeItself trace.lists at
      → IsAnswerUnder limits printed text (Refusal (inconsistent_line trace.names at))
  -- what is printed of the trace
  ordered : (trace : Trace) (before : Segment → Segment → Bool) → trace_of limits text ≡ Ok trace
      → IsConsistent trace.lists → DecidesBefore trace.lists before
      → IsAnswerUnder limits printed text (printed before trace)

-- under the greatest limits
abbrev pub IsAnswer : ((Segment → Segment → Bool) → Trace → Answer) → List ℕ → Answer → Type 0
IsAnswer printed text answer = IsAnswerUnder greatest printed text answer

-- by a command that prints this of a trace, be there an order of its segments or not
pub data IsPlainAnswer (printed : Trace → Answer) (text : List ℕ) : Answer → Type 0 where
  -- the first line with a fault
  bad_line : (line : ℕ) (kind : StdKind) → trace_of greatest text ≡ Err (Line line kind)
      → IsPlainAnswer printed text (Refusal (fault_line line kind))
  -- what is printed of the trace
  plain : (trace : Trace) → trace_of greatest text ≡ Ok trace
      → IsPlainAnswer printed text (printed trace)

-- a text has one answer
abbrev pub AnswersAreUnique : Type 0
AnswersAreUnique =
    (limits : Bounds) (printed : (Segment → Segment → Bool) → Trace → Answer) (text : List ℕ)
    (a b : Answer) → IsAnswerUnder limits printed text a → IsAnswerUnder limits printed text b
    → a ≡ b

abbrev pub PlainAnswersAreUnique : Type 0
PlainAnswersAreUnique =
    (printed : Trace → Answer) (text : List ℕ) (a b : Answer) → IsPlainAnswer printed text a
    → IsPlainAnswer printed text b → a ≡ b
