-- The recorders of one thread, with room for their receipts.
use Rattle.std.specs.Prelude.{◌≡◌, ◌==◌, ◌+◌, ◌%◌, ◌<◌, ◌≤◌, ℕ, List, [], length, filter, slice_index_or}
use Rattle.std.specs.List.{All}
use Rattle.std.specs.Vec.{vec_len, vec_capacity}
use Rattle.gl_engine.specs.Recording.{Recording}
use Rattle.gl_live.specs.bodies.Rosters.{Roster, IsRecorderOf}
use Rattle.gl_live.specs.declared.recording.Workload.{Workload}

-- the workload has room for a receipt of each of its recorders
abbrev pub HasRoom : Workload → Type 0
HasRoom workload =
    vec_len workload.receipts + length workload.recorders.items ≤ vec_capacity workload.receipts

-- the recorders are of the session, and there is room for a receipt of each
pub record IsWorkloadOf (s : Roster) (workload : Workload) : Type 0 where
  pub ours : All (IsRecorderOf s) workload.recorders.items
  pub unused : workload.receipts.items ≡ []
  pub room : HasRoom workload

-- the recorders in so many groups: in each, in order, those whose thread's number modulo that of the groups is its own
pub record AreDealt (count : ℕ) (recorders : List Recording)
    (groups : List (List Recording)) : Type 0 where
  pub as_many : length groups ≡ count
  pub each : (group : ℕ) → group < count
      → slice_index_or groups group [] ≡ filter (λ r. (r.thread % count) == group) recorders
