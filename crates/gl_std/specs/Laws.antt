-- What holds of the traces of all texts.
use Rattle.std.specs.Prelude.{◌≡◌, ◌⊎◌, ℕ, ◌+◌, ◌<◌, ◌≤◌, List, [], ◌∷◌, ◌++◌, Option, Some, None, Result, Ok, Err, Bool, true, false, length, map, filter, fold, position, count_by, slice_get, All, ◌==◌, if◌then◌else◌}
use Rattle.std.specs.List.{flat_map}
use Rattle.std.specs.Str.{bytes_eq}
use Rattle.gl_event.specs.Events.{depth}
use Rattle.gl_event.specs.Lawful.{lock_refusal}
use Rattle.gl_event.specs.declared.events.Refusal.{Refusal}
use Rattle.gl_event.specs.declared.events.Refusal.TheVariants.{HeldFull as NoRoom, DepthFull as TooDeep, Upgrade as IsUpgrade}
use Rattle.gl_std.specs.Line.{Operation, Shape, shape_of, is_on_thread}
use Rattle.gl_std.specs.Line.Shape.{Blank, Bad, Other, Call}
use Rattle.gl_std.specs.declared.faults.ReadFault.{ReadFault}
use Rattle.gl_std.specs.declared.faults.ReadFault.TheVariants.{Line}
use Rattle.gl_std.specs.declared.faults.StdKind.{StdKind}
use Rattle.gl_std.specs.declared.faults.StdKind.TheVariants.{HeldFull, DepthFull, Upgrade, TooManyThreads, TooManyEvents, TooManyNames}
use Rattle.gl_event.specs.Bounds.{Bounds}
use Rattle.gl_event.specs.declared.events.Event.{Event}
use Rattle.gl_event.specs.declared.events.Event.TheVariants.{Acquire, Release, TryAcquire, Fork, Join}
use Rattle.gl_std.specs.Lines.{LF, lines}
use Rattle.gl_std.specs.Names.{NameLists, with_new}
use Rattle.gl_std.specs.Trace.{names_after, operands, events_of, event_of, event_told, after_line, and_then, read_from, nothing, trace_of, IsTraceOver}
use Rattle.gl_std.specs.declared.trace.Trace.{Trace}

-- a text's trace obeys the limits: its lists are lawful, and whatever they speak of has one name
abbrev pub TracesObeyLimits : Type 0
TracesObeyLimits =
    (limits : Bounds) (text : List ℕ) (trace : Trace) → trace_of limits text ≡ Ok trace
    → IsTraceOver limits trace

-- a text is read piece by piece: what follows an LF goes on from the trace of what stands before it
abbrev pub ReadingGoesOn : Type 0
ReadingGoesOn =
    (limits : Bounds) (front rest : List ℕ) → let before =
    front ++ LF ∷ [] in trace_of limits (front ++ LF ∷ rest)
    ≡ and_then (trace_of limits before)
    (λ told. read_from limits (1 + length (lines before)) told (lines rest))

-- xs begins with all of front
abbrev pub IsFront : {X : Type 0} → List X → List X → Type 0
IsFront {X} front xs = (rest : List X) × (xs ≡ front ++ rest)

-- what was told stays: a name keeps its number, and a thread's list goes on from where it was
pub record Grows (old new : Trace) : Type 0 where
  pub threads : IsFront old.names.threads new.names.threads
  pub locks : IsFront old.names.locks new.names.locks
  pub locs : IsFront old.names.locs new.names.locs
  pub lists : (thread : ℕ) (es : List Event) → slice_get old.lists thread ≡ Some es
      → (later : List Event) × (slice_get new.lists thread ≡ Some (es ++ later))

-- more text tells more, and changes nothing of what the text before it told
abbrev pub TracesGrow : Type 0
TracesGrow =
    (limits : Bounds) (front rest : List ℕ) (old new : Trace)
    → trace_of limits (front ++ LF ∷ []) ≡ Ok old → trace_of limits (front ++ LF ∷ rest) ≡ Ok new
    → Grows old new

-- a line that is kept as an event: what it says, and the event
pub record KeptLine : Type 0 where
  pub operation : Operation
  -- the acting thread
  pub thread : List ℕ
  -- the lock, or the thread that is forked or joined
  pub operand : List ℕ
  pub loc : List ℕ
  pub event : Event

-- the threads that the line names: the acting one, and then one that it forks or joins
abbrev pub threads_in : KeptLine → List (List ℕ)
threads_in line = line.thread ∷ (if is_on_thread line.operation then line.operand ∷ [] else [])

-- the lock that the line names, if it does
abbrev pub locks_in : KeptLine → List (List ℕ)
locks_in line = if is_on_thread line.operation then [] else line.operand ∷ []

-- the line's event is its operation, by the numbers at which its names stand
pub record IsNumbered (names : NameLists) (line : KeptLine) : Type 0 where
  pub operand_number : ℕ
  pub loc_number : ℕ
  pub operand_at : slice_get (operands line.operation names) operand_number ≡ Some line.operand
  pub loc_at : slice_get names.locs loc_number ≡ Some line.loc
  pub event_is : line.event ≡ event_of line.operation operand_number loc_number

-- the event releases a lock that its thread, with these events so far, doesn't hold
abbrev pub is_stray : List Event → Event → Bool
is_stray es (Acquire mode lock loc) = false
is_stray es (Release mode lock loc) = depth es lock == 0
is_stray es (TryAcquire mode lock loc) = false
is_stray es (Fork thread loc) = false
is_stray es (Join thread loc) = false

-- the line that says this, where it is kept as an event: where it tells one, and that isn't a stray
abbrev pub kept_in : Trace → Shape → List KeptLine
kept_in told Blank = []
kept_in told (Bad kind) = []
kept_in told Other = []
kept_in told (Call operation thread operand location) =
    let event = event_told told.names operation thread operand location in
    if is_stray (events_of told.lists (position (bytes_eq thread) told.names.threads)) event then []
    else record {
      operation = operation;
      thread = thread;
      operand = operand;
      loc = location;
      event = event;
    } ∷ []

-- the line tells of an operation that isn't watched
abbrev pub is_other : Shape → Bool
is_other Blank = false
is_other (Bad kind) = false
is_other Other = true
is_other (Call operation thread operand location) = false

-- the line tells an event, kept or stray
abbrev pub is_call : Shape → Bool
is_call Blank = false
is_call (Bad kind) = false
is_call Other = false
is_call (Call operation thread operand location) = true

-- what follows from a trace, or nothing after a fault
abbrev pub if_told : Result Trace ReadFault → (Trace → List KeptLine) → List KeptLine
if_told (Ok told) next = next told
if_told (Err fault) next = []

-- the lines that are kept as events, in their order
abbrev pub kept_from : Bounds → ℕ → Trace → List (List ℕ) → List KeptLine
kept_from limits number told [] = []
kept_from limits number told (line ∷ rest) =
    kept_in told (shape_of line)
    ++ if_told (after_line limits number told line)
    (λ more. kept_from limits (number + 1) more rest)

-- each of these names once, in order of first mention
abbrev pub first_mentions : List (List ℕ) → List (List ℕ)
first_mentions names = fold with_new [] names

-- the trace tells these lines, which say this, and of which these are kept: names have numbers by first mention, each event
-- has the numbers of its line's names, and each thread's events are those of its lines, in order; the lines with other
-- operations are counted, and so are the events that aren't kept
pub record TellsLines (shapes : List Shape) (kept : List KeptLine) (trace : Trace) : Type 0 where
  pub threads : trace.names.threads ≡ first_mentions (flat_map threads_in kept)
  pub locks : trace.names.locks ≡ first_mentions (flat_map locks_in kept)
  pub locs : trace.names.locs ≡ first_mentions (map (λ line. line.loc) kept)
  pub numbered : All (IsNumbered trace.names) kept
  pub lists : (thread : List ℕ)
      → events_of trace.lists (position (bytes_eq thread) trace.names.threads)
      ≡ map (λ line. line.event) (filter (λ line. bytes_eq thread line.thread) kept)
  pub skipped : trace.skipped ≡ count_by is_other shapes
  pub stray : length kept + trace.stray ≡ count_by is_call shapes

-- the trace of a text tells the lines that are kept as events
abbrev pub TracesTellLines : Type 0
TracesTellLines =
    (limits : Bounds) (text : List ℕ) (trace : Trace) → trace_of limits text ≡ Ok trace
    → TellsLines (map shape_of (lines text)) (kept_from limits 1 nothing (lines text)) trace

-- why the locks that are held after this trace don't allow the event of a call
abbrev pub refusal_of_call : Trace → Operation → List ℕ → List ℕ → List ℕ → Option Refusal
refusal_of_call told operation thread operand location =
    lock_refusal (events_of told.lists (position (bytes_eq thread) told.names.threads))
    (event_told told.names operation thread operand location)

-- what the line says is at fault after this trace: the first reason that fits is one of the line alone, then one of the locks,
-- then one of the limits, on threads, on events and on names in turn
pub data IsFaultAfter (limits : Bounds) (told : Trace) : Shape → StdKind → Type 0 where
  alone : (kind : StdKind) → IsFaultAfter limits told (Bad kind) kind
  held_full : (operation : Operation) (thread operand location : List ℕ)
      → refusal_of_call told operation thread operand location ≡ Some NoRoom
      → IsFaultAfter limits told (Call operation thread operand location) HeldFull
  too_deep : (operation : Operation) (thread operand location : List ℕ)
      → refusal_of_call told operation thread operand location ≡ Some TooDeep
      → IsFaultAfter limits told (Call operation thread operand location) DepthFull
  upgrade : (operation : Operation) (thread operand location : List ℕ)
      → refusal_of_call told operation thread operand location ≡ Some IsUpgrade
      → IsFaultAfter limits told (Call operation thread operand location) Upgrade
  many_threads : (operation : Operation) (thread operand location : List ℕ)
      → refusal_of_call told operation thread operand location ≡ None
      → limits.threads < length (names_after told.names operation thread operand location).threads
      → IsFaultAfter limits told (Call operation thread operand location) TooManyThreads
  many_events : (operation : Operation) (thread operand location : List ℕ)
      → refusal_of_call told operation thread operand location ≡ None
      → length (names_after told.names operation thread operand location).threads ≤ limits.threads
      → limits.events ≤ length
      (events_of told.lists (position (bytes_eq thread) told.names.threads))
      → IsFaultAfter limits told (Call operation thread operand location) TooManyEvents
  many_names : (operation : Operation) (thread operand location : List ℕ)
      → refusal_of_call told operation thread operand location ≡ None
      → length (names_after told.names operation thread operand location).threads ≤ limits.threads
      → length (events_of told.lists (position (bytes_eq thread) told.names.threads))
      < limits.events
      → (limits.names < length (names_after told.names operation thread operand location).locks)
      ⊎ (limits.names < length (names_after told.names operation thread operand location).locs)
      → IsFaultAfter limits told (Call operation thread operand location) TooManyNames

-- the text's first line at fault is this one: the lines before it have a trace, after which it is at fault
pub record IsFirstFault (limits : Bounds) (text : List ℕ) (number : ℕ)
    (kind : StdKind) : Type 0 where
  pub front : List (List ℕ)
  pub line : List ℕ
  pub rest : List (List ℕ)
  pub parts : lines text ≡ front ++ line ∷ rest
  pub counted : number ≡ length front + 1
  pub told : Trace
  pub before : read_from limits 1 nothing front ≡ Ok told
  pub because : IsFaultAfter limits told (shape_of line) kind

-- a text that has a fault in place of a trace has it in the first line at fault
abbrev pub FaultsComeFirst : Type 0
FaultsComeFirst =
    (limits : Bounds) (text : List ℕ) (number : ℕ) (kind : StdKind)
    → trace_of limits text ≡ Err (Line number kind) → IsFirstFault limits text number kind
