-- What a session that records a text as it comes ends with.
use Rattle.std.proofs.Common.{◌≡◌, ◌∙◌, ◌⊎◌, ◌++◌, inl, inr, ℕ, Bool, true, List, Result, Ok, Err, IfOk, refl, sym, ap, subst}
use Rattle.gl_event.specs.Bounds.{Bounds}
use Rattle.gl_event.specs.declared.events.Segment.{Segment}
use Rattle.gl_io.specs.Reads.{HasRead}
use Rattle.gl_std.specs.LineReading.{HasGiven}
use Rattle.gl_segments.specs.Segments.{IsLeastInRing}
use Rattle.gl_std.specs.Lines.{ended_lines}
use Rattle.gl_std.specs.Names.{NameLists}
use Rattle.gl_std.specs.Pieces.{IsFaulty}
use Rattle.gl_std.specs.Streaming.{ArePartsOf, CanBeNamed, HasFault, HasTold, HasToldAt, IsDone, Stage, Stream}
use Rattle.gl_std.specs.Streaming.Stage.{Done, Faulty}
use Rattle.gl_std.specs.Trace.{trace_of}
use Rattle.gl_std.specs.declared.faults.LinesFault.{LinesFault}
use Rattle.gl_std.specs.declared.faults.LinesFault.TheVariants.{Line, Read, Memory as NoMemory}
use Rattle.gl_std.specs.declared.faults.ReadFault.TheVariants.{Line as BadLine}
use Rattle.gl_std.specs.declared.faults.StdKind.{StdKind}
use Rattle.gl_std.specs.declared.trace.Trace.{Trace}
use Rattle.gl_filters.specs.Asked.{Asked}
use Rattle.gl_cycles.specs.declared.found.Report.{Report}
use Rattle.gl_findings.specs.declared.listing.Listing.{Listing}
use Rattle.gl_live.specs.Streamed.{Becomes}
use Rattle.gl_commands.specs.Answer.{Answer, IsAnswerUnder, prediction}
use Rattle.gl_commands.specs.bodies.Needed.{contents_for}
use Rattle.gl_commands.specs.Answer.Answer.{Prints, Refusal}
use Rattle.gl_commands.specs.Answer.IsAnswerUnder.{bad_line, no_order}
use Rattle.gl_io.specs.Uses.{SourceUse}
use Rattle.gl_commands.specs.Ending.HasEndedEarly.{out_of_memory, cut_short}
use Rattle.gl_commands.specs.Ending.HasEndedUnder.{early, ended_so}
use Rattle.gl_commands.specs.Ending.HasEndedStreamed.{confirmed, met_fault, unconfirmed, unstarted}
use Rattle.gl_commands.specs.RefusalLines.{fault_line, inconsistent_line}
use Rattle.gl_commands.specs.bodies.Stops.{EndsUnwritten, HasAnswer, IfRefused, IsEndOfText}
use Rattle.gl_commands.specs.declared.ended.Ended.{Ended}
use Rattle.gl_commands.specs.declared.ended.Ended.TheVariants as variant
use Rattle.gl_options.specs.declared.form.Form.{Form}
use Rattle.gl_commands.specs.declared.answer.Printed.{Printed}
use Rattle.gl_commands.proofs.Answering.{least_of_ring, needs_no_more, print_of, printed_as, with_session}
use Rattle.gl_commands.proofs.FirstFaults.{no_fault_before}

-- ---- ends that need no text

pub ends_without_memory : (limits : Bounds) (A : List ℕ → Answer → Type 0) (turns : ℕ) (input : SourceUse) → EndsUnwritten limits A turns input variant.Memory
ends_without_memory limits A turns input output kept sound = confirmed variant.Memory (early variant.Memory out_of_memory kept sound)

-- ---- the text was told to its end

-- it was read whole, and this is its trace
record IsWhole (limits : Bounds) (turns : ℕ) (input : SourceUse) (items : Stream) (text : List ℕ) (told : Trace) : Type 0 where
  read : HasRead turns input.before input.after input.failed text true
  trace : trace_of limits text ≡ Ok told
  named : CanBeNamed items

whole_at_end : (limits : Bounds) (turns : ℕ) (input : SourceUse) (items : Stream) (text : List ℕ) (told : Trace)
    → HasTold limits turns input items text told → IsDone items → IsWhole limits turns input items text told
whole_at_end limits turns input items text told tells done =
    let at_end = subst (λ (stage : Stage). HasToldAt stage limits turns input items.reader text told) done tells in
    record {
      read = at_end.0;
      trace = at_end.1;
      named = λ fault is.
          let clash : Done ≡ Faulty fault = sym done ∙ is in
          cc;
    }

-- the session isn't confirmed: it wasn't begun, or all was told
pub ends_unconfirmed : (limits : Bounds) (A : List ℕ → Answer → Type 0) (turns : ℕ) (input : SourceUse) (items : Stream) (text : List ℕ) (told : Trace)
    → HasTold limits turns input items text told → (input.after ≡ input.before) ⊎ IsDone items → EndsUnwritten limits A turns input variant.Unconfirmed
ends_unconfirmed limits A turns input items text told tells (inl unread) = λ output kept sound. unstarted unread kept sound
ends_unconfirmed limits A turns input items text told tells (inr done) = λ output kept sound.
    unconfirmed text (whole_at_end limits turns input items text told tells done).read kept sound

-- the names that were taken of the items
abbrev pub AreNames : Stream → NameLists → Type 0
AreNames items names = (limits : Bounds) (turns : ℕ) (input : SourceUse) (text : List ℕ) (told : Trace) → CanBeNamed items → HasTold limits turns input items text told → names ≡ told.names

pub names_of_parts : (items : Stream) (names : NameLists) (skipped stray : ℕ) → ArePartsOf items names skipped stray → AreNames items names
names_of_parts items names skipped stray are limits turns input text told named tells = (are named limits turns input text told tells).names_are

-- the report is printed
pub printed_whole : (listing : Listing) (asked : Asked) (form : Form) (limits : Bounds) (turns : ℕ) (input : SourceUse) (items : Stream) (report : Report) (names : NameLists) (answer : Result Printed Ended)
    → AreNames items names → IfOk answer (λ p. Prints p.text.items p.outcome ≡ print_of listing form names report)
    → Becomes (contents_for listing form) asked limits turns input items (Ok report) → IfOk answer (λ p. HasAnswer (IsAnswerUnder limits (prediction listing asked form)) turns input (Prints p.text.items p.outcome))
printed_whole listing asked form limits turns input items report names answer named is became =
    let told = became.told in
    let whole = whole_at_end limits turns input items became.text told became.tells became.reports.0 in
    let names_are : names ≡ told.names = named limits turns input became.text told whole.named became.tells in
    printed_as answer (HasAnswer (IsAnswerUnder limits (prediction listing asked form)) turns input) (print_of listing form names report) is
    (record {
      text = became.text;
      whole = whole.read;
      is = subst (λ n. IsAnswerUnder limits (prediction listing asked form) became.text (print_of listing form n report)) (sym names_are)
          (with_session limits (prediction listing asked form) (print_of listing form told.names) (contents_for listing form) asked (Ok told) told report refl became.reports.1
          (λ before. needs_no_more listing form asked before told) became.text whole.trace);
    })

-- a segment is before itself
pub refused_whole : (printed : (Segment → Segment → Bool) → Trace → Answer) (limits : Bounds) (turns : ℕ) (input : SourceUse) (items : Stream) (text : List ℕ) (told : Trace) (at : Segment) (ring : List Segment) (names : NameLists) (ended : Ended)
    → AreNames items names → IfRefused ended (λ line. line ≡ inconsistent_line names at) → IsDone items → IsLeastInRing told.lists at ring
    → HasTold limits turns input items text told → EndsUnwritten limits (IsAnswerUnder limits printed) turns input ended
refused_whole printed limits turns input items text told at ring names (variant.Refused line) named said done least tells = λ output kept sound.
    let whole = whole_at_end limits turns input items text told tells done in
    let names_are : names ≡ told.names = named limits turns input text told whole.named tells in
    let line_is : line.items ≡ inconsistent_line told.names at = said ∙ ap (λ n. inconsistent_line n at) names_are in
    let answer = subst (λ l. IsAnswerUnder limits printed text (Refusal l)) (sym line_is) (no_order told at whole.trace (least_of_ring told.lists at ring least)) in
    confirmed (variant.Refused line) (ended_so text (variant.Refused line) whole.read (kept, answer, sound))
refused_whole printed limits turns input items text told at ring names variant.Memory named said done least tells = ends_without_memory limits (IsAnswerUnder limits printed) turns input
refused_whole printed limits turns input items text told at ring names variant.Clean named said done least tells = absurd said
refused_whole printed limits turns input items text told at ring names variant.Cycles named said done least tells = absurd said
refused_whole printed limits turns input items text told at ring names variant.Done named said done least tells = absurd said
refused_whole printed limits turns input items text told at ring names variant.ReadFailed named said done least tells = absurd said
refused_whole printed limits turns input items text told at ring names (variant.WriteFailed count) named said done least tells = absurd said
refused_whole printed limits turns input items text told at ring names variant.Unconfirmed named said done least tells = absurd said

-- ---- it wasn't

-- a line with a fault was met, or the last line has one
refused_at : (printed : (Segment → Segment → Bool) → Trace → Answer) (limits : Bounds) (turns : ℕ) (input : SourceUse) (left : ℕ) (text : List ℕ) (number : ℕ) (kind : StdKind) (ended : Ended)
    → IfRefused ended (λ line. line ≡ fault_line number kind)
    → (HasGiven turns input.before input.after left text × IsFaulty limits text number kind) ⊎ (HasRead turns input.before input.after input.failed text true × (trace_of limits text ≡ Err (BadLine number kind)))
    → EndsUnwritten limits (IsAnswerUnder limits printed) turns input ended
refused_at printed limits turns input left text number kind (variant.Refused line) said (inl met) = λ output kept sound.
    met_fault text left (variant.Refused line) met.0 (λ rest. subst (λ l. IsAnswerUnder limits printed (ended_lines text ++ rest) (Refusal l)) (sym said) (bad_line number kind (met.1 rest))) kept sound
refused_at printed limits turns input left text number kind (variant.Refused line) said (inr whole) = λ output kept sound.
    confirmed (variant.Refused line) (ended_so text (variant.Refused line) whole.0 (kept, subst (λ l. IsAnswerUnder limits printed text (Refusal l)) (sym said) (bad_line number kind whole.1), sound))
refused_at printed limits turns input left text number kind variant.Memory said was = ends_without_memory limits (IsAnswerUnder limits printed) turns input
refused_at printed limits turns input left text number kind variant.Clean said was = absurd said
refused_at printed limits turns input left text number kind variant.Cycles said was = absurd said
refused_at printed limits turns input left text number kind variant.Done said was = absurd said
refused_at printed limits turns input left text number kind variant.ReadFailed said was = absurd said
refused_at printed limits turns input left text number kind (variant.WriteFailed count) said was = absurd said
refused_at printed limits turns input left text number kind variant.Unconfirmed said was = absurd said

-- this fault of the text was met
pub ends_at_fault : (printed : (Segment → Segment → Bool) → Trace → Answer) (limits : Bounds) (turns : ℕ) (input : SourceUse) (items : Stream) (text : List ℕ) (told : Trace) (fault : LinesFault) (ended : Ended)
    → HasTold limits turns input items text told → HasFault items fault → IsEndOfText fault ended → EndsUnwritten limits (IsAnswerUnder limits printed) turns input ended
ends_at_fault printed limits turns input items text told fault ended tells has is = go fault (subst (λ (stage : Stage). HasToldAt stage limits turns input items.reader text told) has tells) is
  where
    go : (f : LinesFault) → HasToldAt (Faulty f) limits turns input items.reader text told → IsEndOfText f ended → EndsUnwritten limits (IsAnswerUnder limits printed) turns input ended
    go (Line number kind) was so = refused_at printed limits turns input items.reader.turns text number kind ended so was
    go Read was so = subst (EndsUnwritten limits (IsAnswerUnder limits printed) turns input) (sym so)
        (λ output kept sound. confirmed variant.ReadFailed (early variant.ReadFailed (cut_short text variant.ReadFailed was.0 (no_fault_before limits text told was.1)) kept sound))
    go NoMemory was so = subst (EndsUnwritten limits (IsAnswerUnder limits printed) turns input) (sym so) (ends_without_memory limits (IsAnswerUnder limits printed) turns input)
