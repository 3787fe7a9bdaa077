-- The two halves of a command: what was heard, and what was written.
use Rattle.std.specs.Prelude.{◌≡◌, ℕ, ◌<◌, Bool, true, false, List, Option, Result, Ok, Err, length, take}
use Rattle.std.specs.Io.KnownBytes.{Appends, Keeps}
use Rattle.gl_event.specs.Bounds.{greatest}
use Rattle.gl_io.specs.Reads.{HasRead}
use Rattle.gl_std.specs.Trace.{trace_of}
use Rattle.gl_std.specs.declared.faults.ReadFault.{ReadFault}
use Rattle.gl_std.specs.declared.trace.Trace.{Trace}
use Rattle.gl_io.specs.Uses.{SourceUse}
use Rattle.gl_commands.specs.declared.answer.Printed.{Printed}
use Rattle.gl_commands.specs.declared.ended.Ended.{Ended}
use Rattle.gl_commands.specs.declared.ended.Ended.TheVariants.{Clean, Cycles, Done, WriteFailed}
use Rattle.gl_commands.specs.declared.ended.Outcome.{Outcome}
use Rattle.gl_commands.specs.declared.ended.Outcome.TheVariants as outcome

-- a text was read whole, and this is its trace or its first fault
pub record HasHeardAll (turns : ℕ) (input : SourceUse)
    (read : Result Trace ReadFault) : Type 0 where
  pub text : List ℕ
  pub whole : HasRead turns input.before input.after input.failed text true
  pub trace : trace_of greatest text ≡ read

-- what became of a text to be printed
abbrev pub HasWrittenText : List ℕ → Outcome → Option (List ℕ) → Option (List ℕ) → Bool → Ended
    → Type 0
HasWrittenText printed told old new failed Clean =
    (told ≡ outcome.Clean) × Appends old new printed × (failed ≡ false)
HasWrittenText printed told old new failed Cycles =
    (told ≡ outcome.Cycles) × Appends old new printed × (failed ≡ false)
HasWrittenText printed told old new failed Done =
    (told ≡ outcome.Done) × Appends old new printed × (failed ≡ false)
HasWrittenText printed told old new failed (WriteFailed count) =
    Appends old new (take count printed) × (count < length printed) × (failed ≡ true)
HasWrittenText printed told old new failed other = ⊥

-- what became of a text to be printed, or of an end that has none
abbrev pub EndsWith : Result Printed Ended → Option (List ℕ) → Option (List ℕ) → Bool → Ended
    → Type 0
EndsWith (Ok printed) old new failed ended =
    HasWrittenText printed.text.items printed.outcome old new failed ended
EndsWith (Err why) old new failed ended = (ended ≡ why) × Keeps old new × (failed ≡ false)
