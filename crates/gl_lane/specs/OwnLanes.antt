-- Lanes of one thread: what contracts see of the two ends, and of what the recorder leaves behind.
use Rattle.std.specs.Prelude.{◌≡◌, ℕ, List, length}
use denote.RawPtr.{Ptr}
use Rattle.rtrb.specs.Shared.{Names}
use Rattle.rtrb.specs.declared.end.End.{End}
use Rattle.gl_event.specs.declared.notes.Note.{Note}
use Rattle.gl_lane.specs.Rule.{IsPlaced}

-- The name of a lane, by which its ends are known to belong together, and the thread whose own it is. The name is only compared
pub record OwnLaneId : Type 0 where
  pub words : Ptr
  pub slots : Ptr
  pub names : Names
  pub thread : ℕ

-- the thread's lane whose ring this is an end of
abbrev pub own_lane_of : {T A P : Type 0} → ℕ → End T A P → OwnLaneId
own_lane_of thread end =
    record { words = end.words; slots = end.slots; names = end.names; thread = thread }

-- the recorder's end
pub record OwnPushing : Type 0 where
  pub lane : OwnLaneId
  -- the notes that were pushed, oldest first
  pub pushed : List Note
  -- for so many more notes there is certainly room; the collector may have made more
  pub room : ℕ

-- the collector's end
pub record OwnPopping : Type 0 where
  pub lane : OwnLaneId
  -- the notes that were popped, oldest first
  pub popped : List Note
  -- the notes that were seen in the lane and not popped yet, oldest first; the recorder may have pushed more
  pub left : List Note

-- a lane whose recorder has finished
pub record AllOwnPushed : Type 0 where
  pub lane : OwnLaneId
  -- all notes that were ever pushed, oldest first
  pub pushed : List Note

-- the note is the one that comes after these in the lane: its thread's, placed behind them, as an end mark's count tells too
pub record ComesAfter (lane : OwnLaneId) (before : List Note) (note : Note) : Type 0 where
  pub own : note.thread ≡ lane.thread
  pub in_place : note.place ≡ length before
  pub placed : IsPlaced note
