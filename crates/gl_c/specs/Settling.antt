-- What settling a session does.
use Rattle.std.specs.Prelude.{◌≡◌, ℕ, List, Option, Some, None}
use Rattle.gl_engine.specs.Collecting.{Collecting, lanes_of}
use Rattle.gl_engine.specs.Receipts.{AreOfRecorders}
use Rattle.gl_engine.specs.Recording.{Closed}
use Rattle.gl_engine.specs.Settling.{IsSettledAlone, IsUnsettledFault}
use Rattle.gl_engine.specs.declared.faults.UnsettledFault.{UnsettledFault}
use Rattle.gl_engine.specs.declared.faults.UnsettledFault.TheVariants as unsettled
use Rattle.gl_c.specs.declared.codes.TheConstants.{OK, MISUSE, MISSING, STRANGE}
use Rattle.gl_c.specs.declared.session_state.Running.{Running}
use Rattle.gl_c.specs.declared.session_state.SessionState.{SessionState}
use Rattle.gl_c.specs.declared.session_state.Stage.{Stage}
use Rattle.gl_c.specs.declared.session_state.Stage.TheVariants.{Running as Runs, Settled as HasSettled, Gone}

-- each receipt of a running session's number is of one of its lanes
abbrev pub AreOfItsLanes : Stage → List Closed → Type 0
AreOfItsLanes (Runs r) receipts =
    AreOfRecorders r.collector.session r.collector.limits (lanes_of r.collector) receipts
AreOfItsLanes (HasSettled lists) receipts = Unit {0}
AreOfItsLanes Gone receipts = Unit {0}

-- the thread whose lane or end mark is missing, if that stands against settling
abbrev pub missing_thread : UnsettledFault → Option ℕ
missing_thread (unsettled.Strange at collector) = None
missing_thread (unsettled.Missing thread collector) = Some thread
missing_thread (unsettled.Unended thread collector) = Some thread

-- the collector that wasn't settled
abbrev pub collector_of : UnsettledFault → Collecting
collector_of (unsettled.Strange at collector) = collector
collector_of (unsettled.Missing thread collector) = collector
collector_of (unsettled.Unended thread collector) = collector

-- a missing thread is told, and else a lane is strange
abbrev pub IsToldMissing : Option ℕ → ℕ → ℕ → ℕ → Type 0
IsToldMissing (Some missing) was answer told = (answer ≡ MISSING) × (told ≡ missing)
IsToldMissing None was answer told = (answer ≡ STRANGE) × (told ≡ was)

-- this stands against settling what was collected with these receipts, and is told
pub record IsUnsettled (collected : Collecting) (receipts : List Closed)
    (was answer told : ℕ) : Type 0 where
  pub fault : UnsettledFault
  pub is : IsUnsettledFault collected receipts fault
  pub tells : IsToldMissing (missing_thread fault) was answer told

-- a running session is settled into the lists of its receipts, which are all that was pulled; or it is as it was, and what stands against it is
-- told
abbrev pub IsSettling : Running → List Closed → ℕ → ℕ → ℕ → Stage → Type 0
IsSettling old receipts was answer told (HasSettled lists) =
    (answer ≡ OK) × (told ≡ was) × IsSettledAlone old.collector receipts lists
IsSettling old receipts was answer told (Runs new) =
    (new.collector ≡ old.collector) × (new.limits ≡ old.limits)
    × IsUnsettled old.collector receipts was answer told
IsSettling old receipts was answer told Gone = ⊥

-- a session that runs is settled, and another one is as it was
abbrev pub IsSettled : Stage → List Closed → ℕ → ℕ → ℕ → Stage → Type 0
IsSettled (Runs old) receipts was answer told new = IsSettling old receipts was answer told new
IsSettled (HasSettled lists) receipts was answer told new =
    (answer ≡ MISUSE) × (told ≡ was) × (new ≡ HasSettled lists)
IsSettled Gone receipts was answer told new = (answer ≡ MISUSE) × (told ≡ was) × (new ≡ Gone)

-- the session is settled so with the receipts that were handed in, and all else is as it was
pub record IsSettle (old : SessionState) (was answer told : ℕ) (new : SessionState) : Type 0 where
  pub stage : IsSettled old.stage old.receipts.items was answer told new.stage
  pub receipts : new.receipts.items ≡ old.receipts.items
  pub rest : new ≡ record old { stage = new.stage; receipts = new.receipts }
