-- When a list of held entries is what a thread holds after a list of events.
use Rattle.std.specs.Prelude.{◌≡◌, ◌↔◌, ℕ, ◌+◌, ◌-◌, ◌<◌, Bool, IsTrue, List, [], ◌∷◌, ◌++◌, length, Some, None, Result, Err, IsOk, IfOk, OnOk, All, AllPairs, Contains}
use Rattle.gl_event.specs.Events.{acquired_lock, lock_mode, location, depth, segment, entry_of}
use Rattle.gl_event.specs.Lawful.{HasLawfulLocks, acquire_refusal}
use Rattle.gl_event.specs.declared.events.Event.TheVariants.{Release}
use Rattle.gl_event.specs.declared.events.LockMode.{LockMode}
use Rattle.gl_event.specs.declared.events.Refusal.{Refusal}
use Rattle.gl_event.specs.declared.events.Refusal.TheVariants.{HeldFull as NoRoom, DepthFull as TooDeep, Upgrade as IsUpgrade}
use Rattle.gl_event.specs.declared.held.HeldFault.{HeldFault}
use Rattle.gl_event.specs.declared.held.HeldFault.TheVariants.{HeldFull, DepthFull, Upgrade}
use Rattle.gl_event.specs.declared.held.NotHeld.{NotHeld}
use Rattle.gl_event.specs.declared.events.Event.{Event}
use Rattle.gl_event.specs.declared.held.HeldEntry.{HeldEntry}

-- the entry, one deeper
abbrev pub deeper : HeldEntry → HeldEntry
deeper h = record h { depth = h.depth + 1 }

-- the entry, one less deep
abbrev pub shallower : HeldEntry → HeldEntry
shallower h = record h { depth = h.depth - 1 }

-- the entries are those of the locks that are held after these events, in the order in which the locks were opened
pub record StandsFor (es : List Event) (entries : List HeldEntry) : Type 0 where
  -- the events acquire and release as the locks allow
  pub lawful : HasLawfulLocks es
  -- each entry says of its lock what the events say
  pub each : All (λ h. h ≡ entry_of es h.lock) entries
  -- each lock that has an entry is held
  pub positive : All (λ h. 0 < depth es h.lock) entries
  -- each lock that is held has its entry
  pub whole : (lock : ℕ) → 0 < depth es lock → Contains entries (entry_of es lock)
  -- an entry stands before those that were opened later
  pub in_order : AllPairs (λ a b. a.place < b.place) entries

-- the event acquires this lock in this mode, whether or not it could have waited for it
pub record IsAcquireOf (lock : ℕ) (mode : LockMode) (e : Event) : Type 0 where
  pub same_lock : acquired_lock e ≡ Some lock
  pub same_mode : lock_mode e ≡ mode

-- the place, the segment and the location are those of the event that comes after these
pub record IsAt (es : List Event) (e : Event) (place seg loc : ℕ) : Type 0 where
  pub here : place ≡ length es
  pub within : seg ≡ segment es
  pub stands_at : loc ≡ location e

-- why an event is refused whose lock can't be acquired
abbrev pub as_refusal : HeldFault → Refusal
as_refusal HeldFull = NoRoom
as_refusal DepthFull = TooDeep
as_refusal Upgrade = IsUpgrade

-- what an acquire answers a thread whose events were these, and what it holds then
pub record AnswersAcquire (es : List Event) (lock : ℕ) (mode : LockMode) (loc place seg : ℕ)
    (new : List HeldEntry) (answer : Result Bool HeldFault) : Type 0 where
  -- it is accepted exactly where it is lawful next
  pub accepted : IsOk answer ↔ (acquire_refusal es lock mode ≡ None)
  -- one lock too many
  pub full : (answer ≡ Err HeldFull) ↔ (acquire_refusal es lock mode ≡ Some NoRoom)
  -- too deep
  pub deep : (answer ≡ Err DepthFull) ↔ (acquire_refusal es lock mode ≡ Some TooDeep)
  -- a shared lock, asked for exclusively
  pub upgrade : (answer ≡ Err Upgrade) ↔ (acquire_refusal es lock mode ≡ Some IsUpgrade)
  -- `true` says that the lock wasn't held
  pub outermost : IfOk answer (λ b. IsTrue b ↔ (depth es lock ≡ 0))
  -- what is held after the acquire; where the lock wasn't held, the place, the segment and the location given have to be its own
  pub stands : OnOk answer ((e : Event) → IsAcquireOf lock mode e
      → (depth es lock ≡ 0 → IsAt es e place seg loc) → StandsFor (es ++ e ∷ []) new)

-- what a release answers a thread whose events were these, and what it holds then
pub record AnswersRelease (es : List Event) (lock : ℕ) (new : List HeldEntry)
    (answer : Result Bool NotHeld) : Type 0 where
  -- it is accepted exactly where the lock is held
  pub accepted : IsOk answer ↔ (0 < depth es lock)
  -- `true` says that the lock is no longer held
  pub outermost : IfOk answer (λ b. IsTrue b ↔ (depth es lock ≡ 1))
  -- what is held after the release, wherever it stands
  pub stands : OnOk answer
      ((mode : LockMode) (loc : ℕ) → StandsFor (es ++ Release mode lock loc ∷ []) new)
