-- The report of a trace that was read, or why there is none.
use Rattle.std.specs.Prelude.{◌≡◌, ◌⊎◌, ℕ, Bool, false, true, List, Result, Ok, Err}
use Rattle.std.specs.Io.KnownBytes.{Keeps}
use Rattle.gl_event.specs.Bounds.{Bounds, greatest}
use Rattle.gl_event.specs.declared.events.Segment.{Segment}
use Rattle.gl_segments.specs.Laws.{DecidesBefore}
use Rattle.gl_segments.specs.Segments.{IsConsistent}
use Rattle.gl_filters.specs.Asked.{Asked}
use Rattle.gl_cycles.specs.declared.found.Report.{Report}
use Rattle.gl_edges.specs.Edges.{edges}
use Rattle.gl_findings.specs.Reports.{report_with}
use Rattle.gl_findings.specs.declared.listing.Contents.{Contents}
use Rattle.gl_live.specs.Streamed.{Becomes}
use Rattle.gl_live.specs.declared.faults.StreamFault.{StreamFault}
use Rattle.gl_options.specs.declared.live_options.LiveOptions.{LiveOptions}
use Rattle.gl_std.specs.Streaming.{Stream}
use Rattle.gl_std.specs.Trace.{trace_of}
use Rattle.gl_std.specs.declared.faults.StdKind.{StdKind}
use Rattle.gl_io.specs.Reads.{HasRead}
use Rattle.gl_std.specs.declared.faults.LinesFault.{LinesFault}
use Rattle.gl_std.specs.declared.faults.LinesFault.TheVariants.{Line as BadLine, Read as CutShort, Memory as NoMemory}
use Rattle.gl_std.specs.declared.faults.ReadFault.{ReadFault}
use Rattle.gl_std.specs.declared.faults.ReadFault.TheVariants.{Line}
use Rattle.gl_std.specs.declared.trace.Trace.{Trace}
use Rattle.gl_commands.specs.Answer.{Answer, IsAnswerUnder, IsLeastBeforeItself}
use Rattle.gl_commands.specs.Answer.Answer.{Prints, Refusal}
use Rattle.gl_io.specs.Uses.{SinkUse, SourceUse}
use Rattle.gl_commands.specs.Ending.{HasEndedStreamed}
use Rattle.gl_commands.specs.RefusalLines.{fault_line, inconsistent_line}
use Rattle.gl_commands.specs.Sessions.{session_prediction}
use Rattle.gl_commands.specs.bodies.Needed.{contents_of}
use Rattle.gl_commands.specs.declared.answer.Printed.{Printed}
use Rattle.gl_commands.specs.declared.ended.Ended.{Ended}
use Rattle.gl_commands.specs.declared.ended.Ended.TheVariants.{Refused, Memory, ReadFailed, Unconfirmed}

-- it ended with a line, of which this holds, or for want of memory
abbrev pub IfRefused : Ended → (List ℕ → Type 0) → Type 0
IfRefused (Refused line) P = P line.items
IfRefused Memory P = Unit {0}
IfRefused other P = ⊥

-- it ended with a line, of which this holds, for want of memory, or because the session isn't confirmed
abbrev pub IfStopped : Ended → (List ℕ → Type 0) → Type 0
IfStopped Unconfirmed P = Unit {0}
IfStopped other P = IfRefused other P

-- the line says the fault that was read in a trace's place
pub record IsFaultIn (read : Result Trace ReadFault) (line : List ℕ) : Type 0 where
  pub number : ℕ
  pub kind : StdKind
  pub first : read ≡ Err (Line number kind)
  pub said : line ≡ fault_line number kind

-- the line says which segment of the trace is before itself
pub record IsLoopOf (trace : Trace) (line : List ℕ) : Type 0 where
  pub at : Segment
  pub least : IsLeastBeforeItself trace.lists at
  pub said : line ≡ inconsistent_line trace.names at

-- the line says the fault that was read in a trace's place, or which segment of the trace is before itself
abbrev pub SaysWhyNoReport : Result Trace ReadFault → List ℕ → Type 0
SaysWhyNoReport read line =
    IsFaultIn read line ⊎ ((trace : Trace) × (read ≡ Ok trace) × IsLoopOf trace line)

-- the trace is the one that was read, and this is the report of it with these contents
pub record IsReportOf (contents : Contents) (asked : Asked) (read : Result Trace ReadFault)
    (trace : Trace) (report : Report) : Type 0 where
  pub is_read : read ≡ Ok trace
  pub before : Segment → Segment → Bool
  pub consistent : IsConsistent trace.lists
  pub decides : DecidesBefore trace.lists before
  pub is_report : report ≡ report_with contents asked before (edges trace.lists)

-- ---- what is answered to the texts that have this trace or first fault

-- this is answered to each of them
abbrev pub IsAnswerToEach : (List ℕ → Answer → Type 0) → Result Trace ReadFault → Answer → Type 0
IsAnswerToEach IsAnswered read answer =
    (text : List ℕ) → trace_of greatest text ≡ read → IsAnswered text answer

-- what is printed is answered to each, or the line that refuses them; or memory was refused
abbrev pub IsAnsweredBy : (List ℕ → Answer → Type 0)
    → Result Trace ReadFault → Result Printed Ended → Type 0
IsAnsweredBy IsAnswered read (Ok p) =
    IsAnswerToEach IsAnswered read (Prints p.text.items p.outcome)
IsAnsweredBy IsAnswered read (Err ended) =
    IfRefused ended (λ line. IsAnswerToEach IsAnswered read (Refusal line))

-- what is printed is answered to each, or the line that refuses them; or memory was refused, or the session isn't confirmed
abbrev pub IsAnsweredInSession : (List ℕ → Answer → Type 0)
    → Result Trace ReadFault → Result Printed Ended → Type 0
IsAnsweredInSession IsAnswered read (Ok p) =
    IsAnswerToEach IsAnswered read (Prints p.text.items p.outcome)
IsAnsweredInSession IsAnswered read (Err ended) =
    IfStopped ended (λ line. IsAnswerToEach IsAnswered read (Refusal line))

-- ---- a session that records a text as it comes

-- a text was read whole, and this is answered to it
pub record HasAnswer (IsAnswered : List ℕ → Answer → Type 0) (turns : ℕ) (input : SourceUse)
    (answer : Answer) : Type 0 where
  pub text : List ℕ
  pub whole : HasRead turns input.before input.after input.failed text true
  pub is : IsAnswered text answer

-- it ends so over each writer that is left as it was
abbrev pub EndsUnwritten : Bounds → (List ℕ → Answer → Type 0) → ℕ → SourceUse → Ended → Type 0
EndsUnwritten limits IsAnswered turns input ended =
    (output : SinkUse) → Keeps output.before output.after → output.failed ≡ false
    → HasEndedStreamed limits IsAnswered turns input output ended

-- this holds for each text that could have been read so under the options: of which the items told a trace, and this is the report, or why there
-- is none
abbrev pub ForEachText : LiveOptions → Stream → Result Report StreamFault
    → (Bounds → ℕ → SourceUse → Type 0) → Type 0
ForEachText options items reported Holds = (limits : Bounds) (turns : ℕ) (input : SourceUse)
    → Becomes (contents_of options) options.query limits turns input items reported
    → Holds limits turns input

-- a text was read whole, and what is printed is answered to it
abbrev pub IsPrintedUnder : LiveOptions → Bounds → ℕ → SourceUse → Printed → Type 0
IsPrintedUnder options limits turns input printed =
    HasAnswer (IsAnswerUnder limits (session_prediction options)) turns input
    (Prints printed.text.items printed.outcome)

-- it ends so over each writer that is left as it was, as a session with these options may
abbrev pub StopsUnder : LiveOptions → Bounds → ℕ → SourceUse → Ended → Type 0
StopsUnder options limits turns input ended =
    EndsUnwritten limits (IsAnswerUnder limits (session_prediction options)) turns input ended

-- it ends so where this fault of the text was met
abbrev pub IsEndOfText : LinesFault → Ended → Type 0
IsEndOfText (BadLine number kind) ended = IfRefused ended (λ line. line ≡ fault_line number kind)
IsEndOfText CutShort ended = ended ≡ ReadFailed
IsEndOfText NoMemory ended = ended ≡ Memory
