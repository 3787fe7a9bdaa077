-- The front note of a lane.
use Rattle.std.specs.Prelude.{◌≡◌, [], ◌∷◌}
use mathlib.Core.List.{IsPrefix}
use Rattle.gl_event.specs.declared.notes.Note.{Note}
use Rattle.gl_lane.specs.OwnLanes.{OwnPopping}
use Rattle.gl_engine.specs.Collecting.{as_of}

-- the lane's front note, read as one of its thread, is this one
pub record IsFront (lane : OwnPopping) (note : Note) : Type 0 where
  pub front : Note
  pub seen : IsPrefix (front ∷ []) lane.left
  pub is : as_of note.thread front ≡ note
