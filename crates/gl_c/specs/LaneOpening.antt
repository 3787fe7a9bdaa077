-- What giving out a lane does.
use Rattle.std.specs.Prelude.{◌≡◌, ℕ, ◌==◌, List, [], ◌∷◌, ◌++◌, Option, Some, None, length, if◌then◌else◌}
use Rattle.gl_engine.specs.Recording.{Recording}
use Rattle.gl_c.specs.Calls.{IsCodeFor}
use Rattle.gl_c.specs.declared.codes.TheConstants.{OK, MISUSE, NO_LANE}
use Rattle.gl_c.specs.declared.lane_state.LaneState.{LaneState}
use Rattle.gl_c.specs.declared.lane_state.LaneState.TheVariants as lane
use Rattle.gl_c.specs.declared.session_state.SessionState.{SessionState}

-- the session with these recorders, and all else as it was
abbrev pub HasRecorders : SessionState → List Recording → SessionState → Type 0
HasRecorders old recorders new =
    (new ≡ record old { recorders = new.recorders }) × (new.recorders.items ≡ recorders)

-- the lane has the recorder that is the next one not given out yet, which the session has no more
abbrev pub IsGivenOut : SessionState → LaneState → ℕ → SessionState → Type 0
IsGivenOut old (lane.Recording recorder) told new =
    (old.recorders.items ≡ new.recorders.items ++ recorder ∷ []) × (told ≡ recorder.thread)
    × (new ≡ record old { recorders = new.recorders })
IsGivenOut old (lane.Closed receipt) told new = ⊥
IsGivenOut old lane.Lost told new = ⊥

-- the handle is of a lane that was given out so
abbrev pub IsGivenLane : SessionState → Option LaneState → ℕ → SessionState → Type 0
IsGivenLane old (Some state) told new = IsGivenOut old state told new
IsGivenLane old None told new = ⊥

-- what is answered where a lane is asked of these recorders: there is one, or none is left
abbrev pub next_lane_code : List Recording → ℕ
next_lane_code recorders = if length recorders == 0 then NO_LANE else OK

-- what stands against giving out a lane: the handle is of one, or none is left
abbrev pub lane_open_refusal : SessionState → Option LaneState → Option ℕ
lane_open_refusal old (Some state) = Some MISUSE
lane_open_refusal old None = if length old.recorders.items == 0 then Some NO_LANE else None

-- a lane is given out to a handle that was of nothing; or nothing changes
pub record IsLaneOpen (old : SessionState) (was : Option LaneState) (thread answer told : ℕ)
    (new : SessionState) (now : Option LaneState) : Type 0 where
  pub answers : IsCodeFor (lane_open_refusal old was) answer
  pub done : answer ≡ OK → (was ≡ None) × IsGivenLane old now told new
  pub same : (answer ≡ OK → ⊥) → HasRecorders old old.recorders.items new × (now ≡ was)
      × (told ≡ thread)
