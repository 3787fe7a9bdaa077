-- Which threads use each lock: those of the edges that have it on one side.
use Rattle.std.specs.Prelude.{◌≡◌, ◌≢◌, ℕ, ◌<◌, ◌⊎◌, ◌==◌, false, List, Bool, slice_get, Option, Some, None, if◌then◌else◌}
use Rattle.gl_edges.specs.declared.edge.Edge.{Edge}
use Rattle.gl_index.specs.ByLock.{value_at}
use Rattle.gl_index.specs.Sides.{lock_towards}
use Rattle.gl_index.specs.declared.sides.Side.{Side}
use Rattle.gl_index.specs.declared.users.Users.{Users}

-- what is known of a lock: one thread, or that there are several
abbrev pub known_of : Users → ℕ → Option (Option ℕ)
known_of users lock = value_at users.by_lock lock

-- nothing is known of any lock
abbrev pub NoneUse : Users → Type 0
NoneUse users = (lock : ℕ) → known_of users lock ≡ None

-- this thread is among the users of the lock, as far as is known
abbrev pub MayUse : Users → ℕ → ℕ → Type 0
MayUse users lock thread =
    (known_of users lock ≡ Some None) ⊎ (known_of users lock ≡ Some (Some thread))

-- what is known of a lock that this thread uses, too
abbrev pub and_user : Option (Option ℕ) → ℕ → Option (Option ℕ)
and_user None thread = Some (Some thread)
and_user (Some None) thread = Some None
and_user (Some (Some one)) thread = if one == thread then Some (Some one) else Some None

-- this thread uses the lock, too, and of other locks is known what was known
abbrev pub AddsUser : Users → ℕ → ℕ → Users → Type 0
AddsUser old lock thread new =
    (l : ℕ) → known_of new l
    ≡ (if lock == l then and_user (known_of old lock) thread else known_of old l)

-- of the first n edges each that isn't left out has its thread among the users of its lock on this side
abbrev pub AreUsers : Side → List Edge → List Bool → ℕ → Users → Type 0
AreUsers side edges kept n users =
    (i : ℕ) (e : Edge) → i < n → slice_get edges i ≡ Some e → ¬ (slice_get kept i ≡ Some false)
    → MayUse users (lock_towards side e) e.thread

-- one of the first n edges that isn't left out has the lock on this side and is of the thread
pub record Uses (side : Side) (edges : List Edge) (kept : List Bool) (n lock thread : ℕ)
    : Type 0 where
  pub place : ℕ
  pub edge : Edge
  pub below : place < n
  pub is : slice_get edges place ≡ Some edge
  pub stays : ¬ (slice_get kept place ≡ Some false)
  pub has : lock_towards side edge ≡ lock
  pub of_thread : edge.thread ≡ thread

-- no more is told than there is: where one thread is known it uses the lock, and where several are, two do
pub record UseAsKnown (side : Side) (edges : List Edge) (kept : List Bool) (n : ℕ) (users : Users)
    : Type 0 where
  pub one : (lock thread : ℕ) → known_of users lock ≡ Some (Some thread)
      → Uses side edges kept n lock thread
  pub several : (lock : ℕ) → known_of users lock ≡ Some None → (a b : ℕ)
      × Uses side edges kept n lock a × Uses side edges kept n lock b × (a ≢ b)
