-- What is found out of a line that tells an event, by looking its names up before any of them is added.
use Rattle.std.specs.Prelude.{◌≡◌, ℕ, ◌+◌, List, [], ◌∷◌, ◌++◌, Option, Some, None, Result, Ok, Err, length, position, is_none, unwrap_or, nat_le, nat_lt, if◌then◌else◌}
use Rattle.std.specs.Option.{option_map_or}
use Rattle.std.specs.Str.{bytes_eq}
use Rattle.gl_event.specs.Bounds.{Bounds}
use Rattle.gl_event.specs.Lawful.{lock_refusal}
use Rattle.gl_event.specs.declared.events.Event.{Event}
use Rattle.gl_event.specs.declared.events.Refusal.{Refusal}
use Rattle.gl_event.specs.declared.events.Refusal.TheVariants.{HeldFull as NoRoom, DepthFull as TooDeep, Upgrade as IsUpgrade}
use Rattle.gl_std.specs.Line.{Operation, is_on_thread}
use Rattle.gl_std.specs.Names.{NameLists}
use Rattle.gl_std.specs.Trace.{event_of, events_of, with_event, with_list}
use Rattle.gl_std.specs.declared.faults.StdKind.{StdKind}
use Rattle.gl_std.specs.declared.faults.StdKind.TheVariants.{HeldFull, DepthFull, Upgrade, TooManyThreads, TooManyEvents, TooManyNames}
use Rattle.gl_std.specs.declared.faults.ReadFault.{ReadFault}
use Rattle.gl_std.specs.declared.faults.ReadFault.TheVariants.{Line}
use Rattle.gl_std.specs.declared.names.Found.{Found}
use Rattle.gl_std.specs.declared.ruling.Ruling.{Ruling}
use Rattle.gl_std.specs.declared.ruling.Ruling.TheVariants.{Kept, Stray, Fault}
use Rattle.gl_std.specs.declared.trace.Trace.{Trace}

-- the names, with this one at the end if it has no number
abbrev pub with_name : List (List ℕ) → Option ℕ → List ℕ → List (List ℕ)
with_name names number name = option_map_or (λ _. names) number (names ++ name ∷ [])

-- the numbers of the thread, of the operand and of the location that a line names, where they have one: their places;
-- an operand that is a thread comes after the acting thread
abbrev pub found_in : NameLists → Operation → List ℕ → List ℕ → List ℕ → Found
found_in names operation thread operand location =
    let number = position (bytes_eq thread) names.threads in
    record {
      thread = number;
      operand =
          position (bytes_eq operand)
          (if is_on_thread operation then with_name names.threads number thread else names.locks);
      loc = position (bytes_eq location) names.locs;
    }

-- these are their numbers, where each has one
abbrev pub AreFoundAt : NameLists → Operation → List ℕ → List ℕ → List ℕ → ℕ → ℕ → ℕ → Type 0
AreFoundAt names operation thread operand location own number loc =
    record { thread = Some own; operand = Some number; loc = Some loc }
    ≡ found_in names operation thread operand location

-- one, if the name has no number
abbrev pub if_new : Option ℕ → ℕ
if_new number = if is_none number then 1 else 0

-- how many threads there are after the line
abbrev pub threads_after : NameLists → Operation → Found → ℕ
threads_after names operation found =
    length names.threads + if_new found.thread
    + (if is_on_thread operation then if_new found.operand else 0)

-- how many locks there are after the line
abbrev pub locks_after : NameLists → Operation → Found → ℕ
locks_after names operation found =
    length names.locks + (if is_on_thread operation then 0 else if_new found.operand)

-- the lists, with one for a new thread that is forked or joined
abbrev pub with_partner : List (List Event) → Operation → Found → List (List Event)
with_partner lists operation found =
    if is_on_thread operation then with_list lists found.operand else lists

-- the lists, with the event at the end of the thread's, and with a list for a new thread that it forks or joins
abbrev pub with_lists : List (List Event) → Operation → Found → Event → List (List Event)
with_lists lists operation found event =
    with_partner (with_event lists found.thread event) operation found

-- the operand's number: a new name gets the next one, and a new thread's comes after the acting thread's
abbrev pub operand_number : NameLists → Operation → Found → ℕ
operand_number names operation found =
    unwrap_or found.operand
    (if is_on_thread operation then length names.threads + if_new found.thread
    else length names.locks)

-- the event that a line tells: a new name gets the next number
abbrev pub event_found : NameLists → Operation → Found → Event
event_found names operation found =
    event_of operation (operand_number names operation found)
    (unwrap_or found.loc (length names.locs))

-- the first limit that doesn't allow an event, where there are these names and the thread has so many events
abbrev pub limit_found : Bounds → NameLists → ℕ → Operation → Found → Option StdKind
limit_found limits names events operation found =
    if nat_lt limits.threads (threads_after names operation found) then Some TooManyThreads
    else (if nat_le limits.events events then Some TooManyEvents
    else (if nat_lt limits.names (locks_after names operation found) then Some TooManyNames
    else (if nat_lt limits.names (length names.locs + if_new found.loc) then Some TooManyNames
    else None)))

-- the first limit that doesn't allow the event
abbrev pub limit_fault : Bounds → Trace → Operation → Found → Option StdKind
limit_fault limits told operation found =
    limit_found limits told.names (length (events_of told.lists found.thread)) operation found

-- what becomes of an event: the locks' reasons come before the limits', and the last one is that a lock that is
-- released isn't held
abbrev pub ruling_of : Option Refusal → Option StdKind → Ruling
ruling_of None None = Kept
ruling_of None (Some kind) = Fault kind
ruling_of (Some NoRoom) limit = Fault HeldFull
ruling_of (Some TooDeep) limit = Fault DepthFull
ruling_of (Some IsUpgrade) limit = Fault Upgrade
ruling_of (Some other) limit = Stray

-- the names, with those of the three that are new
abbrev pub with_names : NameLists → Operation → Found → List ℕ → List ℕ → List ℕ → NameLists
with_names names operation found thread operand location =
    let threads = with_name names.threads found.thread thread in
    record {
      threads = if is_on_thread operation then with_name threads found.operand operand else threads;
      locks =
          if is_on_thread operation then names.locks
          else with_name names.locks found.operand operand;
      locs = with_name names.locs found.loc location;
    }

-- the trace after a line with this ruling
abbrev pub after_ruling : ℕ → Trace → Trace → Ruling → Result Trace ReadFault
after_ruling line told kept Kept = Ok kept
after_ruling line told kept Stray = Ok (record told { stray = told.stray + 1 })
after_ruling line told kept (Fault kind) = Err (Line line kind)

-- the trace after an event, by what is found
abbrev pub after_found : Bounds → ℕ → Trace → Operation → List ℕ → List ℕ → List ℕ
    → Result Trace ReadFault
after_found limits line told operation thread operand location =
    let found = found_in told.names operation thread operand location in
    let event = event_found told.names operation found in
    after_ruling line told
    (record told {
      names = with_names told.names operation found thread operand location;
      lists = with_lists told.lists operation found event;
    })
    (ruling_of (lock_refusal (events_of told.lists found.thread) event)
    (limit_fault limits told operation found))
