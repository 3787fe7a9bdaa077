-- What `check` answers to an input, which is a report and after its line the text of a trace, and how it ends.
use Rattle.std.specs.Prelude.{◌≡◌, ◌≢◌, ◌==◌, ◌++◌, ℕ, true, false, List, Ok, Err, codes}
use Rattle.std.specs.Io.KnownBytes.{Keeps}
use Rattle.std.specs.List.{before_first, after_first}
use Rattle.gl_event.specs.Bounds.{greatest}
use Rattle.gl_io.specs.Reads.{HasRead}
use Rattle.gl_std.specs.Names.{NameLists}
use Rattle.gl_std.specs.Trace.{trace_of}
use Rattle.gl_std.specs.declared.faults.StdKind.{StdKind}
use Rattle.gl_std.specs.declared.faults.ReadFault.TheVariants.{Line}
use Rattle.gl_std.specs.declared.trace.Trace.{Trace}
use Rattle.gl_check.specs.Checked.{IsChecked, IsCheckFault}
use Rattle.gl_check.specs.Faults.{checked_text, text_of}
use Rattle.gl_check.specs.declared.faults.CheckFault.{CheckFault}
use Rattle.gl_check.specs.declared.faults.CheckFault.TheVariants.{Inconsistent, Memory}
use Rattle.gl_check.specs.declared.reports.Checked.{Checked}
use Rattle.gl_commands.specs.Answer.{Answer}
use Rattle.gl_commands.specs.Answer.Answer.{Prints, Refusal}
use Rattle.gl_io.specs.Uses.{SinkUse, SourceUse}
use Rattle.gl_commands.specs.Ending.{EndsAs, EndsEarlyAs}
use Rattle.gl_commands.specs.RefusalLines.{fault_line, inconsistent_line}
use Rattle.gl_commands.specs.declared.ended.Ended.{Ended}
use Rattle.gl_commands.specs.declared.ended.Ended.TheVariants as ended
use Rattle.gl_commands.specs.declared.ended.Outcome.TheVariants.{Done}

-- ---- the two parts of an input

-- the report: the bytes before the first LF, all where there is none
abbrev pub report_in : List ℕ → List ℕ
report_in input = before_first (λ byte. byte == 10) input

-- the text of the trace: the bytes after that LF
abbrev pub trace_in : List ℕ → List ℕ
trace_in input = after_first (λ byte. byte == 10) input

-- ---- the input was read whole

-- the line for standard error that says why a report isn't accepted
abbrev pub said_line : NameLists → CheckFault → List ℕ
said_line names (Inconsistent at ring) = inconsistent_line names at
said_line names other = codes "goodlock: " ++ text_of other ++ codes "\n"

-- what is answered
pub data IsCheckAnswer (input : List ℕ) : Answer → Type 0 where
  -- the first line of the trace with a fault
  bad_line : (line : ℕ) (kind : StdKind) → trace_of greatest (trace_in input) ≡ Err (Line line kind)
      → IsCheckAnswer input (Refusal (fault_line line kind))
  -- the first fault of the report
  refused : (trace : Trace) (fault : CheckFault) → trace_of greatest (trace_in input) ≡ Ok trace
      → IsCheckFault trace (report_in input) fault → fault ≢ Memory
      → IsCheckAnswer input (Refusal (said_line trace.names fault))
  -- the report is accepted
  accepted : (trace : Trace) (checked : Checked) → trace_of greatest (trace_in input) ≡ Ok trace
      → IsChecked trace (report_in input) checked
      → IsCheckAnswer input (Prints (checked_text checked ++ codes "\n") Done)

-- ---- it was or it wasn't

-- the end of `check`, after at most so many turns: the reader had the bytes `old` left and then `new`, the writer held `before` and then
-- `after`; each may have failed
pub data HasChecked (turns : ℕ) (input : SourceUse) (output : SinkUse) : Ended → Type 0 where
  -- memory for the input was refused while it was read, and nothing was written
  out_of_memory : Keeps output.before output.after → output.failed ≡ false
      → HasChecked turns input output ended.Memory
  -- only this much was read: the lines of its trace that LF had ended are judged, and nothing was written
  cut_short : (bytes : List ℕ) (how : Ended)
      → HasRead turns input.before input.after input.failed bytes false
      → EndsEarlyAs greatest (trace_in bytes) how
      → Keeps output.before output.after → output.failed ≡ false → HasChecked turns input output how
  -- the input was read whole
  ended_so : (bytes : List ℕ) (how : Ended)
      → HasRead turns input.before input.after input.failed bytes true
      → EndsAs IsCheckAnswer bytes output.before output.after output.failed how
      → HasChecked turns input output how
