-- A trace that is read item by item.
use Rattle.std.specs.Prelude.{◌≡◌, ◌⊎◌, ℕ, ◌+◌, ◌<◌, Bool, true, false, List, ◌++◌, Option, Some, None, Result, Ok, Err, length}
use Rattle.gl_event.specs.Bounds.{Bounds}
use Rattle.gl_event.specs.declared.events.Event.{Event as EventOf}
use Rattle.gl_io.specs.Positions.{Position}
use Rattle.gl_io.specs.Reads.{HasRead}
use Rattle.gl_io.specs.Uses.{SourceUse, used}
use Rattle.gl_std.specs.LineReading.{LineReader, HasGiven, IsFit, ReadsOn}
use Rattle.gl_std.specs.Judging.{HasJudged}
use Rattle.gl_std.specs.Lines.{ended_lines}
use Rattle.gl_std.specs.Listed.{listed}
use Rattle.gl_std.specs.Names.{NameLists}
use Rattle.gl_std.specs.Pieces.{IsFaulty}
use Rattle.gl_std.specs.Trace.{trace_of}
use Rattle.gl_std.specs.declared.faults.LinesFault.{LinesFault}
use Rattle.gl_std.specs.declared.faults.LinesFault.TheVariants.{Line, Read, Memory}
use Rattle.gl_std.specs.declared.faults.ReadFault.TheVariants.{Line as LineFault}
use Rattle.gl_std.specs.declared.stream.Item.{Item}
use Rattle.gl_std.specs.declared.stream.Item.TheVariants.{Event, Skipped, Stray, End}
use Rattle.gl_std.specs.declared.trace.Trace.{Trace}

-- what the next item comes from: from reading on; it is the end, once that or the item before it was answered; or it is the
-- fault that was answered
pub data Stage : Type 0 where
  Reading : Stage
  Done : Stage
  Faulty : LinesFault → Stage

-- the items of a text: what the next one comes from, and what is known of the text
pub record Stream : Type 0 where
  pub stage : Stage
  pub reader : LineReader

-- the names so far
abbrev pub names_of : Stream → NameLists
names_of i = i.reader.judge.names

-- the end was answered, or the item before it
abbrev pub IsDone : Stream → Type 0
IsDone i = i.stage ≡ Done

-- this fault was answered
abbrev pub HasFault : Stream → LinesFault → Type 0
HasFault i fault = i.stage ≡ Faulty fault

-- no fault was answered
abbrev pub HasNoFault : Stream → Type 0
HasNoFault i = (fault : LinesFault) → ¬ HasFault i fault

-- while reading goes on the source hasn't failed, and nothing is counted beyond what numbers hold
abbrev pub CanReadOn : Stage → Bool → LineReader → Type 0
CanReadOn Reading failed f = (failed ≡ false) × IsFit f
CanReadOn Done failed f = Unit {0}
CanReadOn (Faulty fault) failed f = Unit {0}

-- the next item can be asked for
abbrev pub CanBeAsked : Stream → Bool → Type 0
CanBeAsked i failed = CanReadOn i.stage failed i.reader

-- what the text told where the items so far are these of the trace: while reading goes on, its lines so far; at the end, all of
-- it; at a fault, that its first line at fault is that one, or the trace of the lines that LF has ended where a read failed
abbrev pub HasToldAt : Stage → Bounds → ℕ → SourceUse → LineReader → List ℕ → Trace → Type 0
HasToldAt Reading limits turns input f text told =
    ReadsOn limits turns input.before input.after f text told
HasToldAt Done limits turns input f text told =
    HasRead turns input.before input.after input.failed text true × (trace_of limits text ≡ Ok told)
    × HasJudged f.judge told
HasToldAt (Faulty (Line number kind)) limits turns input f text told =
    (HasGiven turns input.before input.after f.turns text × IsFaulty limits text number kind)
    ⊎ (HasRead turns input.before input.after input.failed text true
    × (trace_of limits text ≡ Err (LineFault number kind)))
HasToldAt (Faulty Read) limits turns input f text told =
    HasRead turns input.before input.after input.failed text false
    × (trace_of limits (ended_lines text) ≡ Ok told) × HasJudged f.judge told
HasToldAt (Faulty Memory) limits turns input f text told = Unit {0}

-- the reads so far gave this text, and the items so far told this trace of it
abbrev pub HasTold : Bounds → ℕ → SourceUse → Stream → List ℕ → Trace → Type 0
HasTold limits turns input i text told = HasToldAt i.stage limits turns input i.reader text told

-- no line at fault was answered, nor was memory refused
abbrev pub CanBeNamed : Stream → Type 0
CanBeNamed i = (fault : LinesFault) → HasFault i fault → fault ≡ Read

-- the thread and the event that an item tells, if it tells one
abbrev pub event_in : Item → Option (ℕ × EventOf)
event_in (Event thread event) = Some (thread, event)
event_in Skipped = None
event_in Stray = None
event_in End = None

-- the trace with what an item tells, after which the names are these
abbrev pub with_item : Item → NameLists → Trace → Trace
with_item (Event thread event) names told =
    record told { names = names; lists = listed (length names.threads) told.lists thread event }
with_item Skipped names told = record told { skipped = told.skipped + 1 }
with_item Stray names told = record told { stray = told.stray + 1 }
with_item End names told = told

-- the trace with the item that was answered, after which the names are these
abbrev pub with_answer : Result Item LinesFault → NameLists → Trace → Trace
with_answer (Ok item) names told = with_item item names told
with_answer (Err fault) names told = told

-- the answer goes on from a text and its trace: a piece more may have been read
pub record GoesOn (limits : Bounds) (turns : ℕ) (input : SourceUse) (i : Stream) (text : List ℕ)
    (told : Trace) (result : Result Item LinesFault) : Type 0 where
  pub piece : List ℕ
  pub tells : HasTold limits turns input i (text ++ piece) (with_answer result (names_of i) told)

-- ---- the next item

-- where the answer is an event, its thread has a name
abbrev pub IsOfNamed : NameLists → Result Item LinesFault → Type 0
IsOfNamed names (Ok (Event thread event)) = thread < length names.threads
IsOfNamed names (Ok Skipped) = Unit {0}
IsOfNamed names (Ok Stray) = Unit {0}
IsOfNamed names (Ok End) = Unit {0}
IsOfNamed names (Err fault) = Unit {0}

-- at the end the answer is the end, and after a fault it is that fault
abbrev pub IsAnswerAt : Stage → Result Item LinesFault → Type 0
IsAnswerAt Reading result = Unit {0}
IsAnswerAt Done result = result ≡ Ok End
IsAnswerAt (Faulty fault) result = result ≡ Err fault

-- the answer leaves this: the end leaves the end and a fault that fault, and no other item leaves a fault
abbrev pub Leaves : Result Item LinesFault → Stream → Type 0
Leaves (Ok (Event thread event)) i = HasNoFault i
Leaves (Ok Skipped) i = HasNoFault i
Leaves (Ok Stray) i = HasNoFault i
Leaves (Ok End) i = IsDone i
Leaves (Err fault) i = HasFault i fault

-- this is the answer where the next item is asked for, with the source at one position before it and at the other after it:
-- the next item of the text, or the fault that is there in its place
pub record IsNextAnswer (now : Position) (failed : Bool) (items : Stream) (later : Position)
    (failed_later : Bool) (items_later : Stream) (result : Result Item LinesFault) : Type 0 where
  -- it goes on from whatever text the reads gave, and whatever trace the items told of it
  pub tells : (limits : Bounds) (turns : ℕ) (start : Position) (text : List ℕ) (told : Trace)
      → HasTold limits turns (used start now failed) items text told
      → GoesOn limits turns (used start later failed_later) items_later text told result
  pub known : IsOfNamed (names_of items_later) result
  -- no item comes after the end, and none after a fault
  pub again : IsAnswerAt items.stage result
  pub leaves : Leaves result items_later

-- ---- what is left at last

-- these names, so many lines that were skipped and so many strays are those of a trace
pub record IsSummary (names : NameLists) (skipped stray : ℕ) (told : Trace) : Type 0 where
  pub names_are : names ≡ told.names
  pub skipped_are : skipped ≡ told.skipped
  pub strays_are : stray ≡ told.stray

-- these are those of whatever trace the items have told, unless a line at fault was answered or memory was refused
abbrev pub ArePartsOf : Stream → NameLists → ℕ → ℕ → Type 0
ArePartsOf i names skipped stray =
    CanBeNamed i → (limits : Bounds) (turns : ℕ) (input : SourceUse) (text : List ℕ) (told : Trace)
    → HasTold limits turns input i text told → IsSummary names skipped stray told
