-- What a text says, line by line and as a whole.
use Rattle.std.specs.Prelude.{◌≡◌, ◌≢◌, ℕ, ◌+◌, ◌<◌, ◌≤◌, List, [], ◌∷◌, ◌++◌, Option, Some, None, Result, Ok, Err, length, position, slice_get, slice_set, slice_index_or, nat_le, nat_lt, if◌then◌else◌, All, AllPairs}
use Rattle.std.specs.Option.{option_map_or}
use Rattle.std.specs.Str.{bytes_eq}
use Rattle.gl_event.specs.Bounds.{Bounds}
use Rattle.gl_event.specs.Lawful.{lock_refusal, EachIsLawful}
use Rattle.gl_event.specs.declared.events.Event.{Event}
use Rattle.gl_event.specs.declared.events.Event.TheVariants.{Acquire, Release, TryAcquire, Fork, Join}
use Rattle.gl_event.specs.declared.events.Refusal.{Refusal}
use Rattle.gl_event.specs.declared.events.Refusal.TheVariants.{HeldFull as NoRoom, DepthFull as TooDeep, Upgrade as IsUpgrade}
use Rattle.gl_std.specs.Line.{Operation, Shape, shape_of, is_on_thread}
use Rattle.gl_std.specs.Line.Operation.{Acquire as AcquireOf, Release as ReleaseOf, TryAcquire as TryAcquireOf, Fork as ForkOf, Join as JoinOf}
use Rattle.gl_std.specs.Line.Shape.{Blank, Bad, Other, Call}
use Rattle.gl_std.specs.Lines.{lines}
use Rattle.gl_std.specs.Names.{NameLists, number_of, with_new}
use Rattle.gl_std.specs.declared.faults.StdKind.{StdKind}
use Rattle.gl_std.specs.declared.faults.StdKind.TheVariants.{HeldFull, DepthFull, Upgrade, TooManyThreads, TooManyEvents, TooManyNames}
use Rattle.gl_std.specs.declared.faults.ReadFault.{ReadFault}
use Rattle.gl_std.specs.declared.faults.ReadFault.TheVariants.{Line}
use Rattle.gl_std.specs.declared.trace.Trace.{Trace}

-- the names after a line has mentioned its own: the acting thread first, then the thread or lock that it is on, then the
-- location
abbrev pub names_after : NameLists → Operation → List ℕ → List ℕ → List ℕ → NameLists
names_after names operation thread operand location =
    let threads = with_new names.threads thread in
    record {
      threads = if is_on_thread operation then with_new threads operand else threads;
      locks = if is_on_thread operation then names.locks else with_new names.locks operand;
      locs = with_new names.locs location;
    }

-- the names of threads or of locks, whichever the operation is on
abbrev pub operands : Operation → NameLists → List (List ℕ)
operands operation names = if is_on_thread operation then names.threads else names.locks

-- the event of an operation on this lock or thread
abbrev pub event_of : Operation → ℕ → ℕ → Event
event_of (AcquireOf mode) lock loc = Acquire mode lock loc
event_of (ReleaseOf mode) lock loc = Release mode lock loc
event_of (TryAcquireOf mode) lock loc = TryAcquire mode lock loc
event_of ForkOf other loc = Fork other loc
event_of JoinOf other loc = Join other loc

-- the event that a line tells, by the numbers that its names have once it has mentioned them
abbrev pub event_told : NameLists → Operation → List ℕ → List ℕ → List ℕ → Event
event_told names operation thread operand location =
    let after = names_after names operation thread operand location in
    event_of operation (number_of (operands operation after) operand)
    (number_of after.locs location)

-- the events of the thread, or none of a new one
abbrev pub events_of : List (List Event) → Option ℕ → List Event
events_of lists number = option_map_or (λ i. slice_index_or lists i []) number []

-- the lists, with the event at the end of the thread's list, or in a list of its own for a new thread
abbrev pub with_event : List (List Event) → Option ℕ → Event → List (List Event)
with_event lists number event =
    option_map_or (λ i. slice_set lists i (slice_index_or lists i [] ++ event ∷ [])) number
    (lists ++ (event ∷ []) ∷ [])

-- the lists, with one of no events at the end for a thread that has no number
abbrev pub with_list : List (List Event) → Option ℕ → List (List Event)
with_list lists number = option_map_or (λ _. lists) number (lists ++ [] ∷ [])

-- the lists after an event of the thread: it is the last one of the thread's, and a new thread that is forked or joined has a
-- list, too
abbrev pub lists_after : NameLists → List (List Event) → Operation → List ℕ → List ℕ → Event
    → List (List Event)
lists_after names lists operation thread operand event =
    let told = with_event lists (position (bytes_eq thread) names.threads) event in
    if is_on_thread operation
    then with_list told (position (bytes_eq operand) (with_new names.threads thread)) else told

-- the trace with the event of a line
abbrev pub with_call : Trace → Operation → List ℕ → List ℕ → List ℕ → Trace
with_call told operation thread operand location =
    record told {
      names = names_after told.names operation thread operand location;
      lists =
          lists_after told.names told.lists operation thread operand
          (event_told told.names operation thread operand location);
    }

-- the first limit that doesn't allow an event, where there are these names with its own, and its thread has so many events
-- before it
abbrev pub limit_reached : Bounds → NameLists → ℕ → Option StdKind
limit_reached limits names events =
    if nat_lt limits.threads (length names.threads) then Some TooManyThreads
    else (if nat_le limits.events events then Some TooManyEvents
    else (if nat_lt limits.names (length names.locks) then Some TooManyNames
    else (if nat_lt limits.names (length names.locs) then Some TooManyNames
    else None)))

-- the trace after an event that the locks or a limit may not allow: the locks' reasons come before the limits', and where the
-- reason is that a lock that is released isn't held, the event is a stray, which is counted and not kept
abbrev pub after_event : ℕ → Trace → Trace → Option Refusal → Option StdKind
    → Result Trace ReadFault
after_event line told kept None None = Ok kept
after_event line told kept None (Some kind) = Err (Line line kind)
after_event line told kept (Some NoRoom) limit = Err (Line line HeldFull)
after_event line told kept (Some TooDeep) limit = Err (Line line DepthFull)
after_event line told kept (Some IsUpgrade) limit = Err (Line line Upgrade)
after_event line told kept (Some other) limit = Ok (record told { stray = told.stray + 1 })

-- the trace after a line that tells an event
abbrev pub after_call : Bounds → ℕ → Trace → Operation → List ℕ → List ℕ → List ℕ
    → Result Trace ReadFault
after_call limits line told operation thread operand location =
    let before = events_of told.lists (position (bytes_eq thread) told.names.threads) in
    after_event line told (with_call told operation thread operand location)
    (lock_refusal before (event_told told.names operation thread operand location))
    (limit_reached limits (names_after told.names operation thread operand location)
    (length before))

-- the trace after a line that says this
abbrev pub after_shape : Bounds → ℕ → Trace → Shape → Result Trace ReadFault
after_shape limits line told Blank = Ok told
after_shape limits line told (Bad kind) = Err (Line line kind)
after_shape limits line told Other = Ok (record told { skipped = told.skipped + 1 })
after_shape limits line told (Call operation thread operand location) =
    after_call limits line told operation thread operand location

-- the trace after the line with this number, or what is wrong with the line
abbrev pub after_line : Bounds → ℕ → Trace → List ℕ → Result Trace ReadFault
after_line limits number told line = after_shape limits number told (shape_of line)

-- what is done with a trace, or the fault that is there in its place
abbrev pub and_then : Result Trace ReadFault → (Trace → Result Trace ReadFault)
    → Result Trace ReadFault
and_then (Ok told) next = next told
and_then (Err fault) next = Err fault

-- the trace after these lines, of which the first has this number
abbrev pub read_from : Bounds → ℕ → Trace → List (List ℕ) → Result Trace ReadFault
read_from limits number told [] = Ok told
read_from limits number told (line ∷ rest) =
    and_then (after_line limits number told line) (λ more. read_from limits (number + 1) more rest)

-- no names and no events
abbrev pub nothing : Trace
nothing =
    record {
      names = record { threads = []; locks = []; locs = [] };
      lists = [];
      skipped = 0;
      stray = 0;
    }

-- the trace of a text, or its first fault
unfoldable pub trace_of : Bounds → List ℕ → Result Trace ReadFault
trace_of limits text = read_from limits 1 nothing (lines text)

-- whatever the event speaks of has a name
abbrev pub IsNamed : NameLists → Event → Type 0
IsNamed names (Acquire mode lock loc) = (lock < length names.locks) × (loc < length names.locs)
IsNamed names (Release mode lock loc) = (lock < length names.locks) × (loc < length names.locs)
IsNamed names (TryAcquire mode lock loc) = (lock < length names.locks) × (loc < length names.locs)
IsNamed names (Fork thread loc) = (thread < length names.threads) × (loc < length names.locs)
IsNamed names (Join thread loc) = (thread < length names.threads) × (loc < length names.locs)

-- what holds of each trace that is read under these limits
pub record IsTraceOver (limits : Bounds) (trace : Trace) : Type 0 where
  -- each thread that has a name has a list
  pub one_list_each : length trace.lists ≡ length trace.names.threads
  -- there are no more names than the limits allow
  pub threads_fit : length trace.names.threads ≤ limits.threads
  pub locks_fit : length trace.names.locks ≤ limits.names
  pub locs_fit : length trace.names.locs ≤ limits.names
  -- no name has two numbers
  pub threads_differ : AllPairs (λ a b. a ≢ b) trace.names.threads
  pub locks_differ : AllPairs (λ a b. a ≢ b) trace.names.locks
  pub locs_differ : AllPairs (λ a b. a ≢ b) trace.names.locs
  -- no thread has more events than the limits allow
  pub events_fit : (thread : ℕ) (es : List Event) → slice_get trace.lists thread ≡ Some es
      → length es ≤ limits.events
  pub lawful : EachIsLawful limits trace.lists
  -- each number in a list has a name
  pub named : (thread : ℕ) (es : List Event) → slice_get trace.lists thread ≡ Some es
      → All (IsNamed trace.names) es
