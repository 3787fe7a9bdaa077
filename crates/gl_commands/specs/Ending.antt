-- How a command ends: what was read, what was written, and what is answered.
use Rattle.std.specs.Prelude.{◌≡◌, ◌≢◌, ◌++◌, ℕ, ◌<◌, Bool, true, false, List, Option, Err, length, take}
use Rattle.std.specs.Io.KnownBytes.{Appends, Keeps}
use Rattle.gl_event.specs.Bounds.{Bounds, greatest}
use Rattle.gl_io.specs.Reads.{HasRead}
use Rattle.gl_io.specs.Uses.{SinkUse, SourceUse}
use Rattle.gl_std.specs.LineReading.{HasGiven}
use Rattle.gl_std.specs.Lines.{ended_lines}
use Rattle.gl_std.specs.Trace.{trace_of}
use Rattle.gl_std.specs.declared.faults.StdKind.{StdKind}
use Rattle.gl_std.specs.declared.faults.ReadFault.TheVariants.{Line}
use Rattle.gl_commands.specs.Answer.{Answer}
use Rattle.gl_commands.specs.Answer.Answer.{Prints, Refusal}
use Rattle.gl_commands.specs.RefusalLines.{fault_line}
use Rattle.gl_commands.specs.declared.ended.Ended.{Ended}
use Rattle.gl_commands.specs.declared.ended.Ended.TheVariants.{Clean, Cycles, Done, Refused, Memory, ReadFailed, WriteFailed, Unconfirmed}
use Rattle.gl_commands.specs.declared.ended.Outcome.{Outcome}
use Rattle.gl_commands.specs.declared.ended.Outcome.TheVariants as outcome

-- ---- the input was read whole

-- what is answered was written whole, and nothing else
pub record HasWritten (IsAnswered : List ℕ → Answer → Type 0) (text : List ℕ) (outcome : Outcome)
    (old new : Option (List ℕ)) : Type 0 where
  pub printed : List ℕ
  pub answer : IsAnswered text (Prints printed outcome)
  pub written : Appends old new printed

-- only a front of what is answered was written, and the writer failed
pub record HasWrittenFront (IsAnswered : List ℕ → Answer → Type 0) (text : List ℕ) (count : ℕ)
    (old new : Option (List ℕ)) (failed : Bool) : Type 0 where
  pub printed : List ℕ
  pub outcome : Outcome
  pub answer : IsAnswered text (Prints printed outcome)
  pub written : Appends old new (take count printed)
  pub part : count < length printed
  pub broke : failed ≡ true

-- how it ended, where this is what is answered to a text, and the writer held the old bytes before and the new ones after. The writer
-- has failed only where it is answered
abbrev pub EndsAs : (List ℕ → Answer → Type 0) → List ℕ → Option (List ℕ) → Option (List ℕ) → Bool
    → Ended → Type 0
EndsAs IsAnswered text old new failed Clean =
    HasWritten IsAnswered text outcome.Clean old new × (failed ≡ false)
EndsAs IsAnswered text old new failed Cycles =
    HasWritten IsAnswered text outcome.Cycles old new × (failed ≡ false)
EndsAs IsAnswered text old new failed Done =
    HasWritten IsAnswered text outcome.Done old new × (failed ≡ false)
EndsAs IsAnswered text old new failed (Refused line) =
    Keeps old new × IsAnswered text (Refusal line.items) × (failed ≡ false)
EndsAs IsAnswered text old new failed (WriteFailed count) =
    HasWrittenFront IsAnswered text count old new failed
EndsAs IsAnswered text old new failed Memory = Keeps old new × (failed ≡ false)
EndsAs IsAnswered text old new failed ReadFailed = ⊥
EndsAs IsAnswered text old new failed Unconfirmed = ⊥

-- ---- it wasn't

-- the line is that of the first fault, under these limits, in the lines that LF had ended
pub record IsFaultBefore (limits : Bounds) (text line : List ℕ) : Type 0 where
  pub number : ℕ
  pub kind : StdKind
  pub first : trace_of limits (ended_lines text) ≡ Err (Line number kind)
  pub said : line ≡ fault_line number kind

-- no line that LF had ended has a fault under these limits
abbrev pub IsFaultless : Bounds → List ℕ → Type 0
IsFaultless limits text =
    (number : ℕ) (kind : StdKind) → trace_of limits (ended_lines text) ≢ Err (Line number kind)

-- how it ended, where no more than this text was read
abbrev pub EndsEarlyAs : Bounds → List ℕ → Ended → Type 0
EndsEarlyAs limits text (Refused line) = IsFaultBefore limits text line.items
EndsEarlyAs limits text ReadFailed = IsFaultless limits text
EndsEarlyAs limits text Memory = Unit {0}
EndsEarlyAs limits text other = ⊥

-- the reads ended before the text was read whole, or before there was memory for it
pub data HasEndedEarly (limits : Bounds) (turns : ℕ) (input : SourceUse) : Ended → Type 0 where
  -- memory for the text was refused while it was read
  out_of_memory : HasEndedEarly limits turns input Memory
  -- only this text was read
  cut_short : (text : List ℕ) (ended : Ended)
      → HasRead turns input.before input.after input.failed text false
      → EndsEarlyAs limits text ended → HasEndedEarly limits turns input ended

-- ---- either

-- the end of a command that judges lines under these limits and answers so to a text, after at most so many turns over this reader and
-- this writer
pub data HasEndedUnder (limits : Bounds) (IsAnswered : List ℕ → Answer → Type 0) (turns : ℕ)
    (input : SourceUse) (output : SinkUse) : Ended → Type 0 where
  -- nothing was written
  early : (ended : Ended) → HasEndedEarly limits turns input ended
      → Keeps output.before output.after → output.failed ≡ false
      → HasEndedUnder limits IsAnswered turns input output ended
  -- a text was read whole
  ended_so : (text : List ℕ) (ended : Ended)
      → HasRead turns input.before input.after input.failed text true
      → EndsAs IsAnswered text output.before output.after output.failed ended
      → HasEndedUnder limits IsAnswered turns input output ended

-- under the greatest limits
abbrev pub HasEnded : (List ℕ → Answer → Type 0) → ℕ → SourceUse → SinkUse → Ended → Type 0
HasEnded IsAnswered turns input output ended =
    HasEndedUnder greatest IsAnswered turns input output ended

-- the end of a command that runs a session to answer so: as any other, or nothing is written because the session isn't confirmed
pub data HasEndedLive (IsAnswered : List ℕ → Answer → Type 0) (turns : ℕ) (input : SourceUse)
    (output : SinkUse) : Ended → Type 0 where
  -- as any other command that answers so
  confirmed : (ended : Ended) → HasEnded IsAnswered turns input output ended
      → HasEndedLive IsAnswered turns input output ended
  -- a text was read whole, and nothing was written
  unconfirmed : (text : List ℕ) → HasRead turns input.before input.after input.failed text true
      → Keeps output.before output.after → output.failed ≡ false
      → HasEndedLive IsAnswered turns input output Unconfirmed

-- the lines of the text that LF has ended are refused with this line, whatever follows them
abbrev pub IsRefusedAlready : (List ℕ → Answer → Type 0) → List ℕ → Ended → Type 0
IsRefusedAlready IsAnswered text (Refused line) =
    (rest : List ℕ) → IsAnswered (ended_lines text ++ rest) (Refusal line.items)
IsRefusedAlready IsAnswered text other = ⊥

-- the end of a command that runs a session over a text as it comes, to answer so: as any other; or reading stops at a line; or nothing is
-- written because no session could be begun, or because it isn't confirmed
pub data HasEndedStreamed (limits : Bounds) (IsAnswered : List ℕ → Answer → Type 0) (turns : ℕ)
    (input : SourceUse) (output : SinkUse) : Ended → Type 0 where
  -- as any other command that judges lines under these limits and answers so
  confirmed : (ended : Ended) → HasEndedUnder limits IsAnswered turns input output ended
      → HasEndedStreamed limits IsAnswered turns input output ended
  -- this text was read, so many turns before they were used up; the lines in it are refused already, and nothing was written
  met_fault : (text : List ℕ) (left : ℕ) (ended : Ended)
      → HasGiven turns input.before input.after left text → IsRefusedAlready IsAnswered text ended
      → Keeps output.before output.after → output.failed ≡ false
      → HasEndedStreamed limits IsAnswered turns input output ended
  -- nothing was read, and nothing written
  unstarted : input.after ≡ input.before → Keeps output.before output.after → output.failed ≡ false
      → HasEndedStreamed limits IsAnswered turns input output Unconfirmed
  -- a text was read whole, and nothing was written
  unconfirmed : (text : List ℕ) → HasRead turns input.before input.after input.failed text true
      → Keeps output.before output.after → output.failed ≡ false
      → HasEndedStreamed limits IsAnswered turns input output Unconfirmed
