-- A session that records a text as it is read.
use Rattle.std.specs.Prelude.{◌≡◌, ℕ, ◌+◌, ◌<◌, Bool, List, [], Some, None, Result, Ok, Err, IfOk, OnOk, length, map, slice_get, slice_index_or}
use Rattle.std.specs.List.{All}
use Rattle.gl_event.specs.Bounds.{Bounds}
use Rattle.gl_event.specs.Lawful.{refusal}
use Rattle.gl_event.specs.declared.events.Event.{Event}
use Rattle.gl_event.specs.declared.limits.TheConstants.{MAX_EVENTS}
use Rattle.gl_io.specs.Positions.{Position}
use Rattle.gl_io.specs.Uses.{SourceUse, used}
use Rattle.gl_shards.specs.Feeds.{Sending}
use Rattle.gl_std.specs.Streaming.{event_in, CanBeAsked, HasFault, HasTold, IsDone, Stream}
use Rattle.gl_std.specs.Trace.{nothing}
use Rattle.gl_std.specs.declared.faults.LinesFault.{LinesFault}
use Rattle.gl_std.specs.declared.stream.Item.{Item}
use Rattle.gl_std.specs.declared.trace.Trace.{Trace}
use Rattle.gl_engine.specs.Collecting.{Collecting, lanes_of}
use Rattle.gl_engine.specs.Gathering.{Gathering}
use Rattle.gl_engine.specs.Recording.{Recording, recorded, identity_of}
use Rattle.gl_live.specs.Streamed.{FailsInTime, IsStreamFault, IsUnread}
use Rattle.gl_live.specs.bodies.Padded.{padded}
use Rattle.gl_live.specs.bodies.Ready.{IsReady}
use Rattle.gl_live.specs.bodies.Rosters.{Roster, gathered_from, roster_of, AreReceipts, IsOnRoster, IsReceiptOf}
use Rattle.gl_live.specs.bodies.Runs.{HasRun}
use Rattle.gl_live.specs.declared.faults.StreamFault.{StreamFault}
use Rattle.gl_live.specs.declared.run.Ran.{Ran}
use Rattle.gl_live.specs.declared.session.Session.{Session}

-- the recorders are those of the session, in the order of thread numbers, and each has recorded its thread's events of these lists
pub record AreRecorded (s : Roster) (lists : List (List Event))
    (recorders : List Recording) : Type 0 where
  pub identities : (thread : ℕ) (r : Recording) → slice_get recorders thread ≡ Some r
      → IsOnRoster s (identity_of r)
  pub threads : (thread : ℕ) (r : Recording) → slice_get recorders thread ≡ Some r
      → r.thread ≡ thread
  pub events : (thread : ℕ) (r : Recording) → slice_get recorders thread ≡ Some r
      → recorded r ≡ slice_index_or lists thread []

-- an event is of one of so many threads
abbrev pub IsOfThreads : ℕ → Item → Type 0
IsOfThreads threads item =
    (thread : ℕ) (event : Event) → event_in item ≡ Some (thread, event) → thread < threads

-- the recorder is one of the session, and has recorded the whole of its thread's list
pub record HasTaken (s : Roster) (lists : List (List Event)) (r : Recording) : Type 0 where
  pub identity : IsOnRoster s (identity_of r)
  pub whole : slice_get lists r.thread ≡ Some (recorded r)

-- what a collector's thread leaves that was lent these outlets
pub record HasGathered (c : Collecting) (outlets : List Sending) (g : Gathering) : Type 0 where
  pub session : g.session ≡ c.session
  pub limits : g.limits ≡ c.limits
  pub lanes : g.lanes ≡ lanes_of c
  pub feeds : g.fault ≡ None → map (λ s. s.feed) g.sent ≡ map (λ o. o.feed) outlets

-- the reads gave a text, and the recorders have recorded what the items told of it
pub record HaveKeptUp (s : Roster) (limits : Bounds) (turns : ℕ) (input : SourceUse)
    (items : Stream)
    (recorders : List Recording) : Type 0 where
  pub text : List ℕ
  pub told : Trace
  pub tells : HasTold limits turns input items text told
  pub recorded : AreRecorded s told.lists recorders

-- whatever the recorders followed with this left to read, they follow on with that left
abbrev pub KeepUp : Position → Bool → Stream → List Recording
    → Position → Bool → Stream → List Recording → Type 0
KeepUp now failed items recorders later failed_later items_later recorders_later =
    (s : Roster) (limits : Bounds) (turns : ℕ) (start : Position)
    → HaveKeptUp s limits turns (used start now failed) items recorders
    → HaveKeptUp s limits turns (used start later failed_later) items_later recorders_later

-- recorders have recorded what the items told of a text, under a limit of as many threads as there are recorders; each takes as many events
-- as there may be
pub record IsRecording (now : Position) (failed : Bool) (items : Stream)
    (recorders : List Recording) : Type 0 where
  pub s : Roster
  pub limits : Bounds
  pub turns : ℕ
  pub start : Position
  pub as_many : limits.threads ≡ length recorders
  pub threads_are : s.limits.threads ≡ limits.threads
  pub events_are : s.limits.events ≡ MAX_EVENTS
  pub follows : HaveKeptUp s limits turns (used start now failed) items recorders

-- the thread's recorder may take the event next
pub record MayTake (recorders : List Recording) (thread : ℕ) (event : Event) : Type 0 where
  pub recorder : Recording
  pub here : slice_get recorders thread ≡ Some recorder
  pub lawful : refusal recorder.limits recorder.thread (recorded recorder) event ≡ None

-- an event is one that its thread's recorder may take next
abbrev pub CanBeTaken : List Recording → Item → Type 0
CanBeTaken recorders item =
    (thread : ℕ) (event : Event) → event_in item ≡ Some (thread, event)
    → MayTake recorders thread event

-- the reads gave a text, of which the items told no more than this trace, for this fault
pub record Stops (limits : Bounds) (turns : ℕ) (input : SourceUse) (items : Stream)
    (fault : LinesFault) : Type 0 where
  pub text : List ℕ
  pub told : Trace
  pub tells : HasTold limits turns input items text told
  pub why : HasFault items fault

-- whatever the recorders followed with this left to read, the items stop with that left, for this fault
abbrev pub StopsAfter : Position → Bool → Stream → List Recording → Position → Bool → Stream
    → LinesFault → Type 0
StopsAfter now failed items recorders later failed_later items_later fault =
    (s : Roster) (limits : Bounds) (turns : ℕ) (start : Position)
    → HaveKeptUp s limits turns (used start now failed) items recorders
    → Stops limits turns (used start later failed_later) items_later fault

-- what a session of so many threads leaves where the items told this trace: receipts for the trace's lists, and for an empty one of each
-- thread that the trace doesn't have; or why there is no report
abbrev pub LeavesAll : ℕ → Stream → Trace → Result Ran StreamFault → Type 0
LeavesAll threads items told (Ok ran) =
    IsDone items × ((more : ℕ) → threads ≡ length told.lists + more
    → All (IsReceiptOf (gathered_from ran.gathered) (padded more told.lists)) ran.receipts.items)
LeavesAll threads items told (Err fault) = IsStreamFault items told fault

-- the reads gave a text, the items told a trace of it, and a session of so many threads has recorded it
pub record HasStreamed (limits : Bounds) (turns : ℕ) (input : SourceUse) (threads : ℕ)
    (items : Stream) (ran : Result Ran StreamFault) : Type 0 where
  pub text : List ℕ
  pub told : Trace
  pub tells : HasTold limits turns input items text told
  pub leaves : LeavesAll threads items told ran

-- where nothing was told yet with this left to read, a session of so many threads has recorded what was told with that left
abbrev pub StreamsOn : Position → Bool → Stream → Position → Bool → ℕ → Stream
    → Result Ran StreamFault → Type 0
StreamsOn now failed items later failed_later threads items_later ran =
    (limits : Bounds) (turns : ℕ) (start : Position)
    → HasTold limits turns (used start now failed) items [] nothing
    → HasStreamed limits turns (used start later failed_later) threads items_later ran

-- the session is ready, its recorders have recorded nothing, and none of the text's items was asked for yet
pub record IsAtStart
    (session : Session) (recorders : List Recording) (now : Position) (failed : Bool)
    (items : Stream)
    : Type 0 where
  pub ready : IsReady (length recorders) session
  pub unused : AreRecorded (roster_of session.collector) [] recorders
  pub usable : CanBeAsked items failed
  pub unread : IsUnread (length recorders) now failed items

-- what such a session leaves, which has so many lanes, once it has recorded what the items told; or why it leaves nothing
pub record HasRecordedText
    (session : Session) (lanes : ℕ) (now : Position) (failed : Bool) (items : Stream)
    (later : Position) (failed_later : Bool) (items_later : Stream) (ran : Result Ran StreamFault)
    : Type 0 where
  pub ours : IfOk ran (λ r. AreReceipts (gathered_from r.gathered) r.receipts.items)
  pub run : IfOk ran (λ r. HasRun (length session.outlets.items) r.gathered r.served.items)
  pub threads : IfOk ran (λ r. r.gathered.limits.threads ≡ lanes)
  pub streamed : StreamsOn now failed items later failed_later lanes items_later ran
  pub done : OnOk ran (IsDone items_later)
  pub in_time : FailsInTime now later items_later ran
