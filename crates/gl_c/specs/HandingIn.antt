-- What handing in a lane does.
use Rattle.std.specs.Prelude.{◌≡◌, ℕ, ◌==◌, ◌&&◌, Bool, true, false, not, List, [], ◌∷◌, ◌++◌, Option, Some, None, if◌then◌else◌}
use Rattle.gl_engine.specs.Receipts.{has_receipt}
use Rattle.gl_engine.specs.Recording.{Closed}
use Rattle.gl_c.specs.Calls.{IsCodeFor}
use Rattle.gl_c.specs.declared.codes.TheConstants.{OK, MISUSE, STRANGE}
use Rattle.gl_c.specs.declared.lane_state.LaneState.{LaneState}
use Rattle.gl_c.specs.declared.lane_state.LaneState.TheVariants as lane
use Rattle.gl_c.specs.declared.session_state.SessionState.{SessionState}
use Rattle.gl_c.specs.declared.session_state.Stage.{Stage}
use Rattle.gl_c.specs.declared.session_state.Stage.TheVariants.{Running as Runs, Settled as HasSettled, Gone}

-- the session runs
abbrev pub runs : Stage → Bool
runs (Runs r) = true
runs (HasSettled lists) = false
runs Gone = false

-- the session with these receipts, and all else as it was
abbrev pub HasReceipts : SessionState → List Closed → SessionState → Type 0
HasReceipts old receipts new =
    (new ≡ record old { receipts = new.receipts }) × (new.receipts.items ≡ receipts)

-- the receipt is of the session, and the first of its thread
abbrev pub is_wanted : SessionState → Closed → Bool
is_wanted old receipt =
    (receipt.session == old.number) && not (has_receipt old.receipts.items receipt.thread)

-- what stands against taking back what a lane is of: it isn't closed, or its receipt isn't one that the session waits for
abbrev pub state_refusal : SessionState → LaneState → Option ℕ
state_refusal old (lane.Recording recorder) = Some MISUSE
state_refusal old (lane.Closed receipt) = if is_wanted old receipt then None else Some STRANGE
state_refusal old lane.Lost = Some MISUSE

-- what stands against taking back a lane: the handle is of none, or what it is of
abbrev pub lane_refusal : SessionState → Option LaneState → Option ℕ
lane_refusal old None = Some MISUSE
lane_refusal old (Some state) = state_refusal old state

-- what stands against handing in a lane: the session doesn't run, or the lane
abbrev pub hand_in_refusal : SessionState → Option LaneState → Option ℕ
hand_in_refusal old was = if runs old.stage then lane_refusal old was else Some MISUSE

-- the lane was closed, its receipt is the first of its thread, and the session has it after the others
abbrev pub IsTaken : SessionState → LaneState → SessionState → Type 0
IsTaken old (lane.Closed receipt) new =
    (receipt.session ≡ old.number) × (has_receipt old.receipts.items receipt.thread ≡ false)
    × HasReceipts old (old.receipts.items ++ receipt ∷ []) new
IsTaken old (lane.Recording recorder) new = ⊥
IsTaken old lane.Lost new = ⊥

-- the same of what a handle is of
abbrev pub IsTakenLane : SessionState → Option LaneState → SessionState → Type 0
IsTakenLane old (Some state) new = IsTaken old state new
IsTakenLane old None new = ⊥

-- the lane is taken back, and its handle is of nothing; or nothing changes
pub record IsHandIn (old : SessionState) (was : Option LaneState) (answer : ℕ) (new : SessionState)
    (now : Option LaneState) : Type 0 where
  pub answers : IsCodeFor (hand_in_refusal old was) answer
  pub done : answer ≡ OK → (now ≡ None) × IsTakenLane old was new
  pub same : (answer ≡ OK → ⊥) → HasReceipts old old.receipts.items new × (now ≡ was)
