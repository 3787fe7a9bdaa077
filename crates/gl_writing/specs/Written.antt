-- The text that tells a trace.
use Rattle.std.specs.Prelude.{◌≡◌, ◌≢◌, ◌↔◌, ◌≤◌, ℕ, List, [], ◌∷◌, ◌++◌, Contains, IsTrue, Ok, length, map, position, slice_get, unwrap_or, if◌then◌else◌, codes}
use Rattle.std.specs.List.{flat_map, zip}
use Rattle.std.specs.Str.{bytes_eq}
use Rattle.gl_event.specs.Bounds.{Bounds}
use Rattle.gl_event.specs.Events.{location}
use Rattle.gl_event.specs.declared.events.Event.{Event}
use Rattle.gl_event.specs.declared.events.Event.TheVariants.{Acquire, Release, TryAcquire, Fork, Join}
use Rattle.gl_event.specs.declared.events.LockMode.TheVariants.{Exclusive, Shared}
use Rattle.gl_std.specs.Line.{Operation, Shape, BAR, shape_of, is_on_thread}
use Rattle.gl_std.specs.Line.Shape.{Call}
use Rattle.gl_std.specs.Lines.{LF, CR, lines, without_cr}
use Rattle.gl_std.specs.Names.{NameLists}
use Rattle.gl_std.specs.Trace.{events_of, trace_of}
use Rattle.gl_std.specs.Line.Operation.{Acquire as AcquireOf, Release as ReleaseOf, TryAcquire as TryAcquireOf, Fork as ForkOf, Join as JoinOf}
use Rattle.gl_std.specs.declared.line.TheConstants.{MAX_LINE}
use Rattle.gl_std.specs.declared.trace.Trace.{Trace}

-- the name with this number
abbrev pub name_at : List (List ℕ) → ℕ → List ℕ
name_at names number = unwrap_or (slice_get names number) []

-- the word of the event's operation
abbrev pub word_of : Event → List ℕ
word_of (Acquire Exclusive lock loc) = codes "acq"
word_of (Acquire Shared lock loc) = codes "racq"
word_of (Release Exclusive lock loc) = codes "rel"
word_of (Release Shared lock loc) = codes "rrel"
word_of (TryAcquire Exclusive lock loc) = codes "tryacq"
word_of (TryAcquire Shared lock loc) = codes "tryracq"
word_of (Fork thread loc) = codes "fork"
word_of (Join thread loc) = codes "join"

-- the name of the lock or thread that the event is on
abbrev pub operand_name : NameLists → Event → List ℕ
operand_name names (Acquire mode lock loc) = name_at names.locks lock
operand_name names (Release mode lock loc) = name_at names.locks lock
operand_name names (TryAcquire mode lock loc) = name_at names.locks lock
operand_name names (Fork thread loc) = name_at names.threads thread
operand_name names (Join thread loc) = name_at names.threads thread

-- what ends a line at this location: a CR just before LF isn't read, so one that the location ends with needs another
abbrev pub line_end : List ℕ → List ℕ
line_end location_name =
    if bytes_eq (without_cr location_name) location_name then LF ∷ [] else CR ∷ LF ∷ []

-- the event as a line of its thread
abbrev pub event_line : NameLists → List ℕ → Event → List ℕ
event_line names thread event =
    thread ++ codes "|" ++ word_of event ++ codes "(" ++ operand_name names event ++ codes ")|"
    ++ name_at names.locs (location event)

-- the line with what ends it
abbrev pub written_event : NameLists → List ℕ → Event → List ℕ
written_event names thread event =
    event_line names thread event ++ line_end (name_at names.locs (location event))

-- the lines of a thread's events, in their order
abbrev pub written_list : NameLists → List ℕ → List Event → List ℕ
written_list names thread events = flat_map (written_event names thread) events

-- each thread's list, in the order of their numbers
abbrev pub written : NameLists → List (List Event) → List ℕ
written names lists = flat_map (λ own. written_list names own.0 own.1) (zip names.threads lists)

-- the operation of the event
abbrev pub operation_in : Event → Operation
operation_in (Acquire mode lock loc) = AcquireOf mode
operation_in (Release mode lock loc) = ReleaseOf mode
operation_in (TryAcquire mode lock loc) = TryAcquireOf mode
operation_in (Fork thread loc) = ForkOf
operation_in (Join thread loc) = JoinOf

-- what a line says that tells the event by these names
abbrev pub said : NameLists → List ℕ → Event → Shape
said names thread event =
    Call (operation_in event) thread (operand_name names event)
    (name_at names.locs (location event))

-- a line can tell the event by these names: they aren't empty and hold no bar and no LF, no thread is forked or joined by
-- itself, and the line isn't too long. The location may be any bytes but LF
pub record CanBeTold (names : NameLists) (thread : List ℕ) (event : Event) : Type 0 where
  pub some_thread : thread ≢ []
  pub some_operand : operand_name names event ≢ []
  pub no_bar : ¬ Contains thread BAR
  pub no_bar_in_operand : ¬ Contains (operand_name names event) BAR
  pub one_line : ¬ Contains (event_line names thread event) LF
  pub apart : IsTrue (is_on_thread (operation_in event)) → operand_name names event ≢ thread
  pub fits : length (event_line names thread event) ≤ MAX_LINE

-- what is written of such an event is one line, which says its operation with the same names
abbrev pub WrittenLinesSayEvents : Type 0
WrittenLinesSayEvents =
    (names : NameLists) (thread : List ℕ) (event : Event) (rest : List ℕ)
    → CanBeTold names thread event
    → (lines (written_event names thread event ++ rest) ≡ event_line names thread event
    ∷ lines rest)
    × (shape_of (event_line names thread event) ≡ said names thread event)

-- what is written of a trace that was read is lines that say, thread by thread, the events of its lists: the same operations,
-- in the same order, of the same threads, operands and locations
abbrev pub WrittenTextsSayTraces : Type 0
WrittenTextsSayTraces =
    (limits : Bounds) (text : List ℕ) (trace : Trace) → trace_of limits text ≡ Ok trace
    → map shape_of (lines (written trace.names trace.lists))
    ≡ flat_map (λ own. map (said trace.names own.0) own.1) (zip trace.names.threads trace.lists)

-- the same names stand in both lists, wherever they stand
abbrev pub HaveSameNames : List (List ℕ) → List (List ℕ) → Type 0
HaveSameNames names others = (name : List ℕ) → Contains names name ↔ Contains others name

-- what the thread's events say, by names
abbrev pub told_of : Trace → List ℕ → List Shape
told_of trace thread =
    map (said trace.names thread)
    (events_of trace.lists (position (bytes_eq thread) trace.names.threads))

-- read under these limits, the text tells what the trace tells: the same threads, locks and locations, and of each thread the
-- same operations, in the same order, on the same operands and at the same locations; no line is skipped, and no event is a
-- stray. Only numbers may differ: they go by first mention
pub record IsReadAgainAs (limits : Bounds) (text : List ℕ) (trace : Trace) : Type 0 where
  pub again : Trace
  pub accepted : trace_of limits text ≡ Ok again
  pub none_skipped : again.skipped ≡ 0
  pub none_stray : again.stray ≡ 0
  pub threads : HaveSameNames again.names.threads trace.names.threads
  pub locks : HaveSameNames again.names.locks trace.names.locks
  pub locs : HaveSameNames again.names.locs trace.names.locs
  pub lists : (thread : List ℕ) → told_of again thread ≡ told_of trace thread

-- what is written of a trace that was read is read again, under the same limits, and tells the same
abbrev pub WrittenTextsAreReadAgain : Type 0
WrittenTextsAreReadAgain =
    (limits : Bounds) (text : List ℕ) (trace : Trace) → trace_of limits text ≡ Ok trace
    → IsReadAgainAs limits (written trace.names trace.lists) trace
