-- Locks that are held around all edges that share a lock.
use Rattle.std.specs.Prelude.{◌≡◌, ◌≢◌, ℕ, Bool, false, List, [], All, Contains, Some, slice_get, nat_eq}
use Rattle.std.specs.HashMap.{get}
use Rattle.std.specs.Option.{option_map_or}
use Rattle.gl_event.specs.declared.events.LockMode.{LockMode}
use Rattle.gl_event.specs.declared.events.LockMode.TheVariants.{Exclusive}
use Rattle.gl_edges.specs.declared.edge.Edge.{Edge}
use Rattle.gl_index.specs.Sides.{lock_towards}
use Rattle.gl_index.specs.declared.sides.Side.{Side}
use Rattle.gl_exclusions.specs.declared.gates.Gates.{Gates}

-- the edge is made while the lock is held, alone or shared
pub record IsMadeUnder (e : Edge) (lock : ℕ) : Type 0 where
  pub mode : LockMode
  pub held : Contains e.guards (record { lock = lock; mode = mode })

-- the edge is made while the lock is held alone
abbrev pub HoldsAlone : Edge → ℕ → Type 0
HoldsAlone e lock = Contains e.guards (record { lock = lock; mode = Exclusive })

-- it is so for one of these locks
pub record IsBarredBy (e : Edge) (gates : List ℕ) : Type 0 where
  pub gate : ℕ
  pub among : Contains gates gate
  pub alone : HoldsAlone e gate

-- the gates of a lock
abbrev pub gates_of : Gates → ℕ → List ℕ
gates_of gates lock = option_map_or (λ locks. locks.items) (get nat_eq gates.of lock) []

-- each edge that isn't left out is made under all gates of its lock on this side
abbrev pub AreGated : Side → List Edge → List Bool → Gates → Type 0
AreGated side edges kept gates =
    (i : ℕ) (e : Edge) → slice_get edges i ≡ Some e → slice_get kept i ≢ Some false
    → All (IsMadeUnder e) (gates_of gates (lock_towards side e))
