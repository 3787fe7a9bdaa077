-- What contracts see of a lane's two ends, and of what its recorder leaves behind.
use Rattle.std.specs.Prelude.{ℕ, List}
use denote.RawPtr.{Ptr}
use Rattle.rtrb.specs.Shared.{Names}
use Rattle.rtrb.specs.declared.end.End.{End}
use Rattle.gl_event.specs.declared.notes.Note.{Note}

-- The name of a lane, by which its ends are known to belong together. It is only compared
pub record LaneId : Type 0 where
  pub words : Ptr
  pub slots : Ptr
  pub names : Names

-- the lane whose ring this is an end of
abbrev pub lane_of : {T A P : Type 0} → End T A P → LaneId
lane_of end = record { words = end.words; slots = end.slots; names = end.names }

-- the recorder's end
pub record Pushing : Type 0 where
  pub lane : LaneId
  -- the notes that were pushed, oldest first
  pub pushed : List Note
  -- for so many more notes there is certainly room; the collector may have made more
  pub room : ℕ

-- the collector's end
pub record Popping : Type 0 where
  pub lane : LaneId
  -- the notes that were popped, oldest first
  pub popped : List Note
  -- the notes that were seen in the lane and not popped yet, oldest first; the recorder may have pushed more
  pub left : List Note

-- a lane whose recorder has finished
pub record AllPushed : Type 0 where
  pub lane : LaneId
  -- all notes that were ever pushed, oldest first
  pub pushed : List Note
