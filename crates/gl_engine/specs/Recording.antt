-- A thread's recorder, and what it leaves behind.
use Rattle.std.specs.Prelude.{◌≡◌, ℕ, ◌+◌, ◌≤◌, List, [], ◌∷◌, ◌++◌, length, Option, None}
use Rattle.gl_event.specs.Bounds.{Bounds}
use Rattle.gl_event.specs.Lawful.{refusal}
use Rattle.gl_event.specs.declared.events.Event.{Event}
use Rattle.gl_event.specs.declared.events.Refusal.{Refusal}
use Rattle.gl_event.specs.declared.notes.Note.{Note}
use Rattle.gl_intake.specs.Stream.{events_of}
use Rattle.gl_lane.specs.OwnLanes.{OwnLaneId}
use Rattle.gl_recorder.specs.Taking.{event_note, end_note}

-- the recorder of a thread: its session, thread and limits, its lane, the notes pushed into it, and for how many more there is certainly room
pub record Recording : Type 0 where
  pub session : ℕ
  pub thread : ℕ
  pub limits : Bounds
  pub lane : OwnLaneId
  pub pushed : List Note
  pub room : ℕ

-- what a recorder leaves behind that has closed its lane: its session, thread and limits, the lane, and all notes that were pushed into it
pub record Closed : Type 0 where
  pub session : ℕ
  pub thread : ℕ
  pub limits : Bounds
  pub lane : OwnLaneId
  pub pushed : List Note

-- who records: the session, the thread, the limits, and the lane
pub record Identity : Type 0 where
  pub session : ℕ
  pub thread : ℕ
  pub limits : Bounds
  pub lane : OwnLaneId

-- who the recorder is
abbrev pub identity_of : Recording → Identity
identity_of r = record { session = r.session; thread = r.thread; limits = r.limits; lane = r.lane }

-- whose the receipt is
abbrev pub left_by : Closed → Identity
left_by r = record { session = r.session; thread = r.thread; limits = r.limits; lane = r.lane }

-- the events that the recorder took
abbrev pub recorded : Recording → List Event
recorded r = events_of r.thread r.pushed

-- the events that the recorder took before it closed
abbrev pub recorded_whole : Closed → List Event
recorded_whole c = events_of c.thread c.pushed

-- the recorder with this note pushed, which leaves certain room for so many more
abbrev pub with_pushed : Recording → Note → ℕ → Recording
with_pushed r note room = record r { pushed = r.pushed ++ note ∷ []; room = room }

-- the recorder with its lane seen full
abbrev pub seen_full : Recording → Recording
seen_full r = record r { room = 0 }

-- the note of an event that the recorder takes next
abbrev pub next_note : Recording → Event → Note
next_note r event = event_note r.thread (recorded r) event

-- why the event may not come next, if it may not
abbrev pub refusal_of : Recording → Event → Option Refusal
refusal_of r event = refusal r.limits r.thread (recorded r) event

-- the recorder took this event: it may come next, this is its place, its note was pushed, and that took one of the certain room at most
pub record HasTaken (old : Recording) (event : Event) (place : ℕ) (new : Recording) : Type 0 where
  pub lawful : refusal_of old event ≡ None
  pub in_place : place ≡ length (recorded old)
  pub pushed : new ≡ with_pushed old (next_note old event) new.room
  pub room : old.room ≤ new.room + 1

-- the recorder's end mark
abbrev pub last_note : Recording → Note
last_note r = end_note r.thread (length (recorded r))

-- what is left of a recorder that closes
abbrev pub closed_of : Recording → Closed
closed_of r =
    record {
      session = r.session;
      thread = r.thread;
      limits = r.limits;
      lane = r.lane;
      pushed = r.pushed ++ last_note r ∷ [];
    }

-- a recorder of this session and thread that has taken nothing yet, with its ring free
abbrev pub IsFresh : ℕ → Bounds → ℕ → Recording → Type 0
IsFresh session limits thread r =
    r ≡ record {
      session = session;
      thread = thread;
      limits = limits;
      lane = r.lane;
      pushed = [];
      room = limits.ring;
    }
