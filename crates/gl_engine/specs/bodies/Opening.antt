-- The recorders and inputs of a session that is being opened, thread by thread.
use Rattle.std.specs.Prelude.{◌≡◌, ℕ, List, [], length, map, None, Some, slice_get}
use Rattle.gl_event.specs.Bounds.{Bounds}
use Rattle.gl_engine.specs.Recording.{Recording, IsFresh}
use Rattle.gl_engine.specs.Collecting.{fresh_input}
use Rattle.gl_engine.specs.Keeping.{pulling_of}
use Rattle.gl_engine.specs.declared.lane_input.LaneInput.{LaneInput}

-- a recorder and an input for each of the first threads, in the order of their numbers: the two ends of a lane in which nothing was pushed
pub record AreFresh (session : ℕ) (limits : Bounds) (threads : ℕ) (recorders : List Recording)
    (inputs : List LaneInput) : Type 0 where
  pub count : length recorders ≡ threads
  pub inputs_count : length inputs ≡ threads
  pub fresh : (thread : ℕ) (r : Recording) → slice_get recorders thread ≡ Some r
      → IsFresh session limits thread r
  pub ends : map pulling_of inputs ≡ map fresh_input (map (λ r. r.lane) recorders)
  pub unused : (thread : ℕ) (input : LaneInput) → slice_get inputs thread ≡ Some input
      → (input.lane.popped ≡ []) × (input.broken ≡ None)
