-- What is answered to a text of which the trace, or the first fault, is known.
use Rattle.std.proofs.Common.{◌≡◌, ◌∙◌, ℕ, Bool, List, [], ◌∷◌, Option, Some, Result, Ok, Err, IfOk, IfErr, refl, sym, ap, subst, inl, inr}
use Rattle.std.specs.Prelude.{slice_get}
use Rattle.std.proofs.lemmas.Option.{same_Some}
use Rattle.gl_event.specs.Bounds.{Bounds, greatest}
use Rattle.gl_event.specs.declared.events.Event.{Event}
use Rattle.gl_event.specs.declared.events.Segment.{Segment}
use Rattle.gl_std.specs.Trace.{trace_of}
use Rattle.gl_std.specs.declared.faults.ReadFault.{ReadFault}
use Rattle.gl_std.specs.declared.trace.Trace.{Trace}
use Rattle.gl_segments.specs.Segments.{Before, IsLeastInRing, IsRing}
use Rattle.gl_filters.specs.Asked.{Asked}
use Rattle.gl_edges.specs.Edges.{edges}
use Rattle.gl_cycles.specs.declared.found.Report.{Report}
use Rattle.gl_findings.specs.Reports.{report_with, IsReportWith}
use Rattle.gl_findings.specs.declared.listing.Contents.{Contents}
use Rattle.gl_findings.specs.declared.listing.Listing.{Listing}
use Rattle.gl_findings.specs.declared.listing.Listing.TheVariants as lists
use Rattle.gl_options.specs.declared.form.Form.{Form}
use Rattle.gl_options.specs.declared.form.Form.TheVariants.{Text, Json}
use Rattle.gl_std.specs.Names.{NameLists}
use Rattle.gl_commands.specs.Answer.{Answer, IsAnswerUnder, IsLeastBeforeItself, IsPlainAnswer, outcome_of, prediction, printed_report}
use Rattle.gl_commands.specs.bodies.Needed.{contents_for}
use Rattle.gl_commands.specs.Answer.Answer.{Prints, Refusal}
use Rattle.gl_commands.specs.Answer.IsAnswerUnder.{bad_line, no_order, ordered}
use Rattle.gl_commands.specs.Answer.IsPlainAnswer.{bad_line as plain_fault}
use Rattle.gl_io.specs.Uses.{SinkUse, SourceUse}
use Rattle.gl_commands.specs.Ending.{EndsAs, HasEnded, HasEndedLive, HasEndedStreamed}
use Rattle.gl_commands.specs.bodies.Halves.{EndsWith, HasHeardAll}
use Rattle.gl_commands.specs.Ending.HasEndedUnder.{ended_so}
use Rattle.gl_commands.specs.Ending.HasEndedLive.{confirmed, unconfirmed}
use Rattle.gl_commands.specs.Ending.HasEndedStreamed.{confirmed as as_any}
use Rattle.gl_commands.specs.bodies.Stops.{EndsUnwritten, HasAnswer, IfRefused, IfStopped, IsAnswerToEach, IsAnsweredBy, IsAnsweredInSession, IsFaultIn, IsReportOf, SaysWhyNoReport}
use Rattle.gl_commands.specs.declared.answer.Printed.{Printed}
use Rattle.gl_commands.specs.declared.ended.Ended.{Ended}
use Rattle.gl_commands.specs.declared.ended.Ended.TheVariants as variant

-- what follows from what is said of the line
pub refused_then : (ended : Ended) (P Q : List ℕ → Type 0) → ((line : List ℕ) → P line → Q line) → IfRefused ended P → IfRefused ended Q
refused_then (variant.Refused line) P Q then said = then line.items said
refused_then variant.Memory P Q then said = tt
refused_then variant.Clean P Q then said = said
refused_then variant.Cycles P Q then said = said
refused_then variant.Done P Q then said = said
refused_then variant.ReadFailed P Q then said = said
refused_then (variant.WriteFailed count) P Q then said = said
refused_then variant.Unconfirmed P Q then said = said

pub stopped_then : (ended : Ended) (P Q : List ℕ → Type 0) → ((line : List ℕ) → P line → Q line) → IfStopped ended P → IfStopped ended Q
stopped_then (variant.Refused line) P Q then said = then line.items said
stopped_then variant.Memory P Q then said = tt
stopped_then variant.Clean P Q then said = said
stopped_then variant.Cycles P Q then said = said
stopped_then variant.Done P Q then said = said
stopped_then variant.ReadFailed P Q then said = said
stopped_then (variant.WriteFailed count) P Q then said = said
stopped_then variant.Unconfirmed P Q then said = tt

-- a line at fault, or want of memory, may come of a session too
pub stopped_by : (ended : Ended) (P : List ℕ → Type 0) → IfRefused ended P → IfStopped ended P
stopped_by (variant.Refused line) P said = said
stopped_by variant.Memory P said = tt
stopped_by variant.Clean P said = said
stopped_by variant.Cycles P said = said
stopped_by variant.Done P said = said
stopped_by variant.ReadFailed P said = said
stopped_by (variant.WriteFailed count) P said = said
stopped_by variant.Unconfirmed P said = tt

-- a line that says why there is no report
pub no_report : (limits : Bounds) (printed : (Segment → Segment → Bool) → Trace → Answer) (read : Result Trace ReadFault) (line : List ℕ) → SaysWhyNoReport read line
    → (text : List ℕ) → trace_of limits text ≡ read → IsAnswerUnder limits printed text (Refusal line)
no_report limits printed read line (inl fault) text is = subst (λ l. IsAnswerUnder limits printed text (Refusal l)) (sym fault.said) (bad_line fault.number fault.kind (is ∙ fault.first))
no_report limits printed read line (inr loop) text is = subst (λ l. IsAnswerUnder limits printed text (Refusal l)) (sym loop.2.said) (no_order loop.0 loop.2.at (is ∙ loop.1) loop.2.least)

-- a line that says a fault
pub no_trace : (printed : Trace → Answer) (read : Result Trace ReadFault) (line : List ℕ) → IsFaultIn read line
    → (text : List ℕ) → trace_of greatest text ≡ read → IsPlainAnswer printed text (Refusal line)
no_trace printed read line fault text is = subst (λ l. IsPlainAnswer printed text (Refusal l)) (sym fault.said) (plain_fault fault.number fault.kind (is ∙ fault.first))

-- what is printed of a report that lists cycles, or findings, in this form
abbrev pub print_of : Listing → Form → NameLists → Report → Answer
print_of listing form names report = Prints (printed_report listing form names report) (outcome_of report)

-- is what is printed of the one that has what that needs
pub needs_no_more : (listing : Listing) (form : Form) (asked : Asked) (before : Segment → Segment → Bool) (trace : Trace)
    → prediction listing asked form before trace ≡ print_of listing form trace.names (report_with (contents_for listing form) asked before (edges trace.lists))
needs_no_more lists.Cycles Text asked before trace = refl
needs_no_more lists.Cycles Json asked before trace = refl
needs_no_more lists.Findings Text asked before trace = refl
needs_no_more lists.Findings Json asked before trace = refl

-- what is printed of a trace and its report
pub with_report : (limits : Bounds) (printed : (Segment → Segment → Bool) → Trace → Answer) (from : Report → Answer) (contents : Contents) (asked : Asked) (read : Result Trace ReadFault) (trace : Trace) (report : Report)
    → IsReportOf contents asked read trace report → ((before : Segment → Segment → Bool) → printed before trace ≡ from (report_with contents asked before (edges trace.lists)))
    → (text : List ℕ) → trace_of limits text ≡ read → IsAnswerUnder limits printed text (from report)
with_report limits printed from contents asked read trace report of same text is =
    subst (IsAnswerUnder limits printed text) (same of.before ∙ ap from (sym of.is_report)) (ordered trace of.before (is ∙ of.is_read) of.consistent of.decides)

-- where a session gave the report
pub with_session : (limits : Bounds) (printed : (Segment → Segment → Bool) → Trace → Answer) (from : Report → Answer) (contents : Contents) (asked : Asked) (read : Result Trace ReadFault) (trace : Trace) (report : Report)
    → read ≡ Ok trace → IsReportWith contents asked (edges trace.lists) trace.lists report → ((before : Segment → Segment → Bool) → printed before trace ≡ from (report_with contents asked before (edges trace.lists)))
    → (text : List ℕ) → trace_of limits text ≡ read → IsAnswerUnder limits printed text (from report)
with_session limits printed from contents asked read trace report was of =
    with_report limits printed from contents asked read trace report
    (record { is_read = was; before = of.before; consistent = of.consistent; decides = of.decides; is_report = of.is })

-- a ring leads from its first segment back to it
before_itself : (lists : List (List Event)) (ring : List Segment) (at : Segment) → slice_get ring 0 ≡ Some at → IsRing lists ring → Before lists at at
before_itself lists [] at begins rings = absurd rings
before_itself lists (s ∷ via) at begins rings = subst (λ x. Before lists x x) (same_Some s at begins) (via, rings)

-- the least segment in a ring is before itself
pub least_of_ring : (lists : List (List Event)) (at : Segment) (ring : List Segment) → IsLeastInRing lists at ring → IsLeastBeforeItself lists at
least_of_ring lists at ring is = record { loops = before_itself lists ring at is.begins is.rings; least = is.least }

-- what is printed is an answer where that is one
pub printed_as : (answer : Result Printed Ended) (A : Answer → Type 0) (from : Answer) → IfOk answer (λ p. Prints p.text.items p.outcome ≡ from) → A from → IfOk answer (λ p. A (Prints p.text.items p.outcome))
printed_as (Ok p) A from is holds = subst A (sym is) holds
printed_as (Err ended) A from is holds = tt

-- where memory alone is wanting
pub memory_alone : (answer : Result Printed Ended) (E : Ended → Type 0) → IfErr answer (λ ended. ended ≡ variant.Memory) → E variant.Memory → IfErr answer E
memory_alone (Ok p) E is holds = tt
memory_alone (Err ended) E is holds = subst E (sym is) holds

-- what is printed is answered to each text, where memory alone may be wanting
pub answered_as : (IsAnswered : List ℕ → Answer → Type 0) (read : Result Trace ReadFault) (answer : Result Printed Ended) (from : Answer)
    → IfOk answer (λ p. Prints p.text.items p.outcome ≡ from) → IfErr answer (λ ended. ended ≡ variant.Memory) → IsAnswerToEach IsAnswered read from → IsAnsweredBy IsAnswered read answer
answered_as A read (Ok p) from is memory each = subst (IsAnswerToEach A read) (sym is) each
answered_as A read (Err ended) from is memory each = subst (λ how. IfRefused how (λ line. IsAnswerToEach A read (Refusal line))) (sym memory) tt

-- and in a session
pub answered_in : (IsAnswered : List ℕ → Answer → Type 0) (read : Result Trace ReadFault) (answer : Result Printed Ended)
    → IsAnsweredBy IsAnswered read answer → IsAnsweredInSession IsAnswered read answer
answered_in A read (Ok p) is = is
answered_in A read (Err ended) is = stopped_by ended (λ line. IsAnswerToEach A read (Refusal line)) is

-- an answer to a text, written or refused, ends a command that read the text whole
pub ends_as : (IsAnswered : List ℕ → Answer → Type 0) (text : List ℕ) (answered : Result Printed Ended) (old new : Option (List ℕ)) (failed : Bool) (ended : Ended)
    → IfOk answered (λ p. IsAnswered text (Prints p.text.items p.outcome)) → IfErr answered (λ how. IfRefused how (λ line. IsAnswered text (Refusal line)))
    → EndsWith answered old new failed ended → EndsAs IsAnswered text old new failed ended
ends_as A text (Ok p) old new failed variant.Clean good bad how = (record { printed = p.text.items; answer = subst (λ o. A text (Prints p.text.items o)) how.0 good; written = how.1 }, how.2)
ends_as A text (Ok p) old new failed variant.Cycles good bad how = (record { printed = p.text.items; answer = subst (λ o. A text (Prints p.text.items o)) how.0 good; written = how.1 }, how.2)
ends_as A text (Ok p) old new failed variant.Done good bad how = (record { printed = p.text.items; answer = subst (λ o. A text (Prints p.text.items o)) how.0 good; written = how.1 }, how.2)
ends_as A text (Ok p) old new failed (variant.WriteFailed count) good bad how =
    record { printed = p.text.items; outcome = p.outcome; answer = good; written = how.0; part = how.1; broke = how.2 }
ends_as A text (Ok p) old new failed (variant.Refused line) good bad how = absurd how
ends_as A text (Ok p) old new failed variant.Memory good bad how = absurd how
ends_as A text (Ok p) old new failed variant.ReadFailed good bad how = absurd how
ends_as A text (Ok p) old new failed variant.Unconfirmed good bad how = absurd how
ends_as A text (Err (variant.Refused line)) old new failed ended good bad how = subst (EndsAs A text old new failed) (sym how.0) (how.1, bad, how.2)
ends_as A text (Err variant.Memory) old new failed ended good bad how = subst (EndsAs A text old new failed) (sym how.0) (how.1, how.2)
ends_as A text (Err variant.Clean) old new failed ended good bad how = absurd bad
ends_as A text (Err variant.Cycles) old new failed ended good bad how = absurd bad
ends_as A text (Err variant.Done) old new failed ended good bad how = absurd bad
ends_as A text (Err variant.ReadFailed) old new failed ended good bad how = absurd bad
ends_as A text (Err (variant.WriteFailed count)) old new failed ended good bad how = absurd bad
ends_as A text (Err variant.Unconfirmed) old new failed ended good bad how = absurd bad

-- and one that is the answer to each text of the trace that was read
pub ends : (IsAnswered : List ℕ → Answer → Type 0) (turns : ℕ) (input : SourceUse) (read : Result Trace ReadFault) (answered : Result Printed Ended) (output : SinkUse) (ended : Ended)
    → HasHeardAll turns input read
    → IsAnsweredBy IsAnswered read answered
    → EndsWith answered output.before output.after output.failed ended → HasEnded IsAnswered turns input output ended
ends A turns input read (Ok p) output ended heard good how =
    ended_so heard.text ended heard.whole (ends_as A heard.text (Ok p) output.before output.after output.failed ended (good heard.text heard.trace) tt how)
ends A turns input read (Err why) output ended heard bad how =
    let said = refused_then why (λ line. IsAnswerToEach A read (Refusal line)) (λ line. A heard.text (Refusal line)) (λ line each. each heard.text heard.trace) bad in
    ended_so heard.text ended heard.whole (ends_as A heard.text (Err why) output.before output.after output.failed ended tt said how)

-- and so does that of a session, unless it isn't confirmed
pub ends_live : (IsAnswered : List ℕ → Answer → Type 0) (turns : ℕ) (input : SourceUse) (read : Result Trace ReadFault) (answered : Result Printed Ended) (output : SinkUse) (ended : Ended)
    → HasHeardAll turns input read
    → IsAnsweredInSession IsAnswered read answered
    → EndsWith answered output.before output.after output.failed ended → HasEndedLive IsAnswered turns input output ended
ends_live A turns input read (Ok p) output ended heard good how =
    confirmed ended (ends A turns input read (Ok p) output ended heard good how)
ends_live A turns input read (Err (variant.Refused line)) output ended heard bad how =
    confirmed ended (ends A turns input read (Err (variant.Refused line)) output ended heard bad how)
ends_live A turns input read (Err variant.Memory) output ended heard bad how =
    confirmed ended (ends A turns input read (Err variant.Memory) output ended heard tt how)
ends_live A turns input read (Err variant.Unconfirmed) output ended heard bad how =
    subst (HasEndedLive A turns input output) (sym how.0) (unconfirmed heard.text heard.whole how.1 how.2)
ends_live A turns input read (Err variant.Clean) output ended heard bad how = absurd bad
ends_live A turns input read (Err variant.Cycles) output ended heard bad how = absurd bad
ends_live A turns input read (Err variant.Done) output ended heard bad how = absurd bad
ends_live A turns input read (Err variant.ReadFailed) output ended heard bad how = absurd bad
ends_live A turns input read (Err (variant.WriteFailed count)) output ended heard bad how = absurd bad

-- what is answered to a text that a session recorded as it came ends a command
pub ends_streamed : (limits : Bounds) (IsAnswered : List ℕ → Answer → Type 0) (turns : ℕ) (input : SourceUse) (answered : Result Printed Ended) (output : SinkUse) (ended : Ended)
    → IfOk answered (λ p. HasAnswer IsAnswered turns input (Prints p.text.items p.outcome)) → IfErr answered (EndsUnwritten limits IsAnswered turns input)
    → EndsWith answered output.before output.after output.failed ended → HasEndedStreamed limits IsAnswered turns input output ended
ends_streamed limits A turns input (Ok p) output ended good bad how =
    as_any ended (ended_so good.text ended good.whole (ends_as A good.text (Ok p) output.before output.after output.failed ended good.is tt how))
ends_streamed limits A turns input (Err why) output ended good bad how =
    subst (HasEndedStreamed limits A turns input output) (sym how.0) (bad output how.1 how.2)
