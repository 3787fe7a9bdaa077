-- Recorders and receipts of a session over given lists.
use Rattle.std.specs.Prelude.{◌≡◌, ℕ, List, [], Some, slice_get}
use Rattle.std.specs.List.{All}
use Rattle.gl_event.specs.Bounds.{Bounds}
use Rattle.gl_event.specs.declared.events.Event.{Event}
use Rattle.gl_lane.specs.OwnLanes.{OwnLaneId}
use Rattle.gl_engine.specs.Collecting.{Collecting, lanes_of}
use Rattle.gl_engine.specs.Gathering.{Gathering}
use Rattle.gl_engine.specs.Recording.{Recording, Closed, Identity, identity_of, left_by, recorded, recorded_whole}

-- who may record in a session: its number and limits, and the lanes, in the order of thread numbers
pub record Roster : Type 0 where
  pub session : ℕ
  pub limits : Bounds
  pub lanes : List OwnLaneId

-- the session of a collector
abbrev pub roster_of : Collecting → Roster
roster_of c = record { session = c.session; limits = c.limits; lanes = lanes_of c }

-- the session of what was gathered
abbrev pub gathered_from : Gathering → Roster
gathered_from g = record { session = g.session; limits = g.limits; lanes = g.lanes }

-- the identity is one of the session: its lane is its thread's
pub record IsOnRoster (s : Roster) (identity : Identity) : Type 0 where
  pub session : identity.session ≡ s.session
  pub limits : identity.limits ≡ s.limits
  pub lane : slice_get s.lanes identity.thread ≡ Some identity.lane

-- the recorder is one of the session, and has recorded nothing
pub record IsRecorderOf (s : Roster) (r : Recording) : Type 0 where
  pub identity : IsOnRoster s (identity_of r)
  pub unused : recorded r ≡ []

-- the receipt is one of the session, and its thread recorded the whole of its list
pub record IsReceiptOf (s : Roster) (lists : List (List Event)) (r : Closed) : Type 0 where
  pub identity : IsOnRoster s (left_by r)
  pub whole : slice_get lists r.thread ≡ Some (recorded_whole r)

-- the receipts are of the session, each for its thread's list in some lists
pub record AreReceipts (s : Roster) (receipts : List Closed) : Type 0 where
  pub lists : List (List Event)
  pub each : All (IsReceiptOf s lists) receipts
