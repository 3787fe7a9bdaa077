-- A text has one answer.
use Rattle.std.proofs.Common.{◌≡◌, ℕ, Bool, List, [], Result, Ok, Err, sym, ap, subst, ◌∙◌}
use Rattle.gl_event.specs.Bounds.{greatest}
use Rattle.gl_event.specs.declared.events.Event.{Event}
use Rattle.gl_event.specs.declared.events.Segment.{Segment}
use Rattle.gl_std.specs.Trace.{trace_of}
use Rattle.gl_std.specs.declared.faults.ReadFault.{ReadFault}
use Rattle.gl_std.specs.declared.faults.ReadFault.TheVariants.{Line, Memory}
use Rattle.gl_std.specs.declared.trace.Trace.{Trace}
use Rattle.gl_segments.specs.Laws.{DecidesBefore}
use Rattle.gl_segments.specs.Segments.{Before}
use Rattle.gl_segments.proofs.LawLemmas.{agree}
use Rattle.gl_cycles.proofs.ReportsAreUnique.{same_segment}
use Rattle.gl_commands.specs.Answer.{Answer, IsLeastBeforeItself, AnswersAreUnique, PlainAnswersAreUnique}
use Rattle.gl_commands.specs.Answer.Answer.{Refusal}
use Rattle.gl_commands.specs.Answer.IsAnswerUnder.{bad_line, no_order, ordered}
use Rattle.gl_commands.specs.Answer.IsPlainAnswer.{bad_line as plain_fault, plain}
use Rattle.gl_commands.specs.RefusalLines.{fault_line, inconsistent_line}

abbrev trace_in : Trace → Result Trace ReadFault → Trace
trace_in other (Ok trace) = trace
trace_in other (Err fault) = other

abbrev said_of : Result Trace ReadFault → List ℕ
said_of (Ok trace) = []
said_of (Err (Line line kind)) = fault_line line kind
said_of (Err Memory) = []

same_trace : (r : Result Trace ReadFault) (s t : Trace) → r ≡ Ok s → r ≡ Ok t → s ≡ t
same_trace r s t p q = ap (trace_in s) (sym p ∙ q)

same_least : (lists : List (List Event)) (a b : Segment) → IsLeastBeforeItself lists a → IsLeastBeforeItself lists b → a ≡ b
same_least lists a b of_a of_b = same_segment a b (of_b.least a of_a.loops) (of_a.least b of_b.loops)

loops_agree : (s t : Trace) (a b : Segment) → s ≡ t → IsLeastBeforeItself s.lists a → IsLeastBeforeItself t.lists b → inconsistent_line s.names a ≡ inconsistent_line t.names b
loops_agree s t a b e of_a of_b =
    let same : a ≡ b = same_least s.lists a b of_a (subst (λ (u : Trace). IsLeastBeforeItself u.lists b) (sym e) of_b) in
    (λ i. inconsistent_line (e i).names (same i))

printed_agree : (printed : (Segment → Segment → Bool) → Trace → Answer) (s t : Trace) (p q : Segment → Segment → Bool) → s ≡ t → DecidesBefore s.lists p → DecidesBefore t.lists q
    → printed p s ≡ printed q t
printed_agree printed s t p q e of_p of_q =
    let here = subst (λ (u : Trace). DecidesBefore u.lists q) (sym e) of_q in
    (λ i. printed (λ a b. agree s.lists p q of_p here a b i) (e i))

pub unique : AnswersAreUnique
unique limits printed text _ _ (bad_line l k p) (bad_line m n q) = ap Refusal (ap said_of (sym p ∙ q))
unique limits printed text _ _ (bad_line l k p) (no_order t at q least) = cc
unique limits printed text _ _ (bad_line l k p) (ordered t before q fine decides) = cc
unique limits printed text _ _ (no_order s at p least) (bad_line m n q) = cc
unique limits printed text _ _ (no_order s at p least) (no_order t there q lowest) = ap Refusal (loops_agree s t at there (same_trace (trace_of limits text) s t p q) least lowest)
unique limits printed text _ _ (no_order s at p least) (ordered t before q fine decides) =
    absurd (fine.each at (subst (λ (u : Trace). Before u.lists at at) (same_trace (trace_of limits text) s t p q) least.loops))
unique limits printed text _ _ (ordered s before p fine decides) (bad_line m n q) = cc
unique limits printed text _ _ (ordered s before p fine decides) (no_order t at q least) =
    absurd (fine.each at (subst (λ (u : Trace). Before u.lists at at) (sym (same_trace (trace_of limits text) s t p q)) least.loops))
unique limits printed text _ _ (ordered s before p fine decides) (ordered t other q sound settles) =
    printed_agree printed s t before other (same_trace (trace_of limits text) s t p q) decides settles

pub plain_unique : PlainAnswersAreUnique
plain_unique printed text _ _ (plain_fault l k p) (plain_fault m n q) = ap Refusal (ap said_of (sym p ∙ q))
plain_unique printed text _ _ (plain_fault l k p) (plain t q) = cc
plain_unique printed text _ _ (plain s p) (plain_fault m n q) = cc
plain_unique printed text _ _ (plain s p) (plain t q) = ap printed (same_trace (trace_of greatest text) s t p q)
