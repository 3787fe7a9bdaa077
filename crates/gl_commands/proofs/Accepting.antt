-- What is said of a report is what is answered to its input.
use Rattle.std.proofs.Common.{◌≡◌, ◌++◌, ℕ, Bool, true, false, List, Result, Ok, Err, sym, ap, subst, ◌∙◌}
use Rattle.std.specs.Io.KnownBytes.{Keeps}
use Rattle.std.specs.Prelude.{IfOk, IfErr, codes}
use Rattle.gl_event.specs.Bounds.{greatest}
use Rattle.gl_io.specs.Reads.{HasRead}
use Rattle.gl_std.specs.Trace.{trace_of}
use Rattle.gl_std.specs.declared.trace.Trace.{Trace}
use Rattle.gl_check.specs.Checked.{IsChecked, IsCheckFault}
use Rattle.gl_check.specs.Faults.{checked_text}
use Rattle.gl_commands.specs.Answer.Answer.{Prints, Refusal}
use Rattle.gl_commands.specs.Checking.{HasChecked, IsCheckAnswer, report_in, trace_in}
use Rattle.gl_commands.specs.Checking.HasChecked.{cut_short, ended_so}
use Rattle.gl_commands.specs.Checking.IsCheckAnswer.{bad_line, refused, accepted}
use Rattle.gl_io.specs.Uses.{SinkUse, SourceUse}
use Rattle.gl_commands.specs.Ending.{EndsEarlyAs}
use Rattle.gl_commands.specs.bodies.Halves.{EndsWith}
use Rattle.gl_commands.specs.bodies.Opinions.{SaysAccepted, SaysRefused}
use Rattle.gl_commands.specs.bodies.Stops.{IfRefused, IsFaultIn}
use Rattle.gl_commands.proofs.Answering.{ends_as}
use Rattle.gl_commands.specs.declared.answer.Printed.{Printed}
use Rattle.gl_commands.specs.declared.ended.Ended.{Ended}
use Rattle.gl_commands.specs.declared.ended.Ended.TheVariants.{Clean, Cycles, Done, Refused, Memory, ReadFailed, WriteFailed, Unconfirmed}

-- a line of the trace is at fault
pub answers_bad : (input text : List ℕ) (ended : Ended) → text ≡ trace_in input → IfRefused ended (IsFaultIn (trace_of greatest text)) → IfRefused ended (λ line. IsCheckAnswer input (Refusal line))
answers_bad input text (Refused line) is says = subst (λ l. IsCheckAnswer input (Refusal l)) (sym says.said) (bad_line says.number says.kind (ap (trace_of greatest) (sym is) ∙ says.first))
answers_bad input text Memory is says = tt
answers_bad input text Clean is says = absurd says
answers_bad input text Cycles is says = absurd says
answers_bad input text Done is says = absurd says
answers_bad input text ReadFailed is says = absurd says
answers_bad input text (WriteFailed count) is says = absurd says
answers_bad input text Unconfirmed is says = absurd says

-- the report is accepted
pub answers_accepted : (input : List ℕ) (trace : Trace) (report : List ℕ) (answer : Result Printed Ended) → report ≡ report_in input → trace_of greatest (trace_in input) ≡ Ok trace
    → IfOk answer (λ p. SaysAccepted trace report p.text.items p.outcome) → IfOk answer (λ p. IsCheckAnswer input (Prints p.text.items p.outcome))
answers_accepted input trace report (Ok p) is read says =
    subst (λ t. IsCheckAnswer input (Prints t p.outcome)) (sym says.said)
    (subst (λ o. IsCheckAnswer input (Prints (checked_text says.checked ++ codes "\n") o)) (sym says.done) (accepted trace says.checked read (subst (λ r. IsChecked trace r says.checked) is says.is)))
answers_accepted input trace report (Err ended) is read says = tt

-- the report is refused
pub answers_refused : (input : List ℕ) (trace : Trace) (report : List ℕ) (answer : Result Printed Ended) → report ≡ report_in input → trace_of greatest (trace_in input) ≡ Ok trace
    → IfErr answer (λ ended. IfRefused ended (SaysRefused trace report)) → IfErr answer (λ ended. IfRefused ended (λ line. IsCheckAnswer input (Refusal line)))
answers_refused input trace report (Ok p) is read says = tt
answers_refused input trace report (Err (Refused line)) is read says =
    subst (λ l. IsCheckAnswer input (Refusal l)) (sym says.said) (refused trace says.fault read (subst (λ r. IsCheckFault trace r says.fault) is says.first) says.found)
answers_refused input trace report (Err Memory) is read says = tt
answers_refused input trace report (Err Clean) is read says = absurd says
answers_refused input trace report (Err Cycles) is read says = absurd says
answers_refused input trace report (Err Done) is read says = absurd says
answers_refused input trace report (Err ReadFailed) is read says = absurd says
answers_refused input trace report (Err (WriteFailed count)) is read says = absurd says
answers_refused input trace report (Err Unconfirmed) is read says = absurd says

-- the input was read whole, and what is answered to it was written or refused
pub ends_whole : (turns : ℕ) (input : SourceUse) (output : SinkUse) (bytes text : List ℕ) (whole : Bool) (answered : Result Printed Ended) (how : Ended)
    → HasRead turns input.before input.after input.failed text whole → whole ≡ true → bytes ≡ text
    → IfOk answered (λ p. IsCheckAnswer bytes (Prints p.text.items p.outcome)) → IfErr answered (λ ended. IfRefused ended (λ line. IsCheckAnswer bytes (Refusal line)))
    → EndsWith answered output.before output.after output.failed how → HasChecked turns input output how
ends_whole turns input output bytes text whole answered how read is same good bad ends =
    ended_so bytes how (subst (λ t. HasRead turns input.before input.after input.failed t true) (sym same) (subst (HasRead turns input.before input.after input.failed text) is read))
    (ends_as IsCheckAnswer bytes answered output.before output.after output.failed how good bad ends)

-- it wasn't, and nothing was written
pub ends_short : (turns : ℕ) (input : SourceUse) (output : SinkUse) (bytes text : List ℕ) (whole : Bool) (how : Ended)
    → HasRead turns input.before input.after input.failed text whole → whole ≡ false → bytes ≡ text → EndsEarlyAs greatest (trace_in bytes) how
    → Keeps output.before output.after → output.failed ≡ false → HasChecked turns input output how
ends_short turns input output bytes text whole how read is same early kept sound =
    cut_short bytes how (subst (λ t. HasRead turns input.before input.after input.failed t false) (sym same) (subst (HasRead turns input.before input.after input.failed text) is read)) early kept sound
