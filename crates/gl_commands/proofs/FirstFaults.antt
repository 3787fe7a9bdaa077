-- The first fault of a text, and the end that it makes.
use Rattle.std.proofs.Common.{◌≡◌, ◌∙◌, ℕ, List, Result, Ok, Err, sym, ap, subst}
use Rattle.std.specs.Prelude.{IfOk, IfErr}
use Rattle.gl_event.specs.Bounds.{Bounds, greatest}
use Rattle.gl_std.specs.Lines.{ended_lines}
use Rattle.gl_std.specs.Trace.{trace_of, IsTraceOver}
use Rattle.gl_std.specs.declared.faults.StdKind.{StdKind}
use Rattle.gl_std.specs.declared.faults.ReadFault.{ReadFault}
use Rattle.gl_std.specs.declared.faults.ReadFault.TheVariants.{Line}
use Rattle.gl_std.specs.declared.trace.Trace.{Trace}
use Rattle.gl_commands.specs.Ending.{EndsEarlyAs, IsFaultless}
use Rattle.gl_commands.specs.bodies.Stops.{IfRefused, IsFaultIn}
use Rattle.gl_commands.specs.declared.ended.Ended.{Ended}
use Rattle.gl_commands.specs.declared.ended.Ended.TheVariants as variant
use Rattle.gl_commands.proofs.Answering.{refused_then}

-- ---- of a text that was read under limits that are the greatest

pub told_whole : (limits : Bounds) (text : List ℕ) (read : Result Trace ReadFault) (answer : Result Trace Ended)
    → limits ≡ greatest → IfOk read (λ t. trace_of limits text ≡ Ok t) → IfOk answer (λ t. read ≡ Ok t) → IfOk answer (λ t. trace_of greatest text ≡ Ok t)
told_whole limits text read (Ok trace) is told same = ap (λ l. trace_of l text) (sym is) ∙ subst (λ r. IfOk r (λ t. trace_of limits text ≡ Ok t)) same told
told_whole limits text read (Err ended) is told same = tt

pub told_over : (limits : Bounds) (read : Result Trace ReadFault) (answer : Result Trace Ended)
    → limits ≡ greatest → IfOk read (IsTraceOver limits) → IfOk answer (λ t. read ≡ Ok t) → IfOk answer (IsTraceOver greatest)
told_over limits read (Ok trace) is over same = subst (λ (l : Bounds). IsTraceOver l trace) is (subst (λ r. IfOk r (IsTraceOver limits)) same over)
told_over limits read (Err ended) is over same = tt

pub told_fault : (limits : Bounds) (text : List ℕ) (read : Result Trace ReadFault) (answer : Result Trace Ended)
    → limits ≡ greatest → ((line : ℕ) (kind : StdKind) → read ≡ Err (Line line kind) → trace_of limits text ≡ Err (Line line kind))
    → IfErr answer (λ ended. IfRefused ended (IsFaultIn read)) → IfErr answer (λ ended. IfRefused ended (IsFaultIn (trace_of greatest text)))
told_fault limits text read (Ok trace) is fault bad = tt
told_fault limits text read (Err ended) is fault bad =
    refused_then ended (IsFaultIn read) (IsFaultIn (trace_of greatest text))
    (λ line says. record { number = says.number; kind = says.kind; first = ap (λ l. trace_of l text) (sym is) ∙ fault says.number says.kind says.first; said = says.said }) bad

-- ---- in the lines that LF had ended

-- none is at fault
pub no_fault_before : (limits : Bounds) (text : List ℕ) (told : Trace) → trace_of limits (ended_lines text) ≡ Ok told → IsFaultless limits text
no_fault_before limits text told is number kind bad =
    let clash : Ok told ≡ Err (Line number kind) = sym is ∙ bad in
    cc

-- one is, or memory was refused
pub ends_early : (limits : Bounds) (text : List ℕ) (read : Result Trace ReadFault) (ended : Ended) → trace_of limits (ended_lines text) ≡ read → IfRefused ended (IsFaultIn read) → EndsEarlyAs limits text ended
ends_early limits text read (variant.Refused line) is says = record { number = says.number; kind = says.kind; first = is ∙ says.first; said = says.said }
ends_early limits text read variant.Memory is says = tt
ends_early limits text read variant.Clean is says = absurd says
ends_early limits text read variant.Cycles is says = absurd says
ends_early limits text read variant.Done is says = absurd says
ends_early limits text read variant.ReadFailed is says = absurd says
ends_early limits text read (variant.WriteFailed count) is says = absurd says
ends_early limits text read variant.Unconfirmed is says = absurd says
