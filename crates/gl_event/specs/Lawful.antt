-- Which event may come next in a thread's list, and which lists are lawful.
use Rattle.std.specs.Global.{Vec}
use Rattle.std.specs.Prelude.{◌≡◌, ◌≤◌, ℕ, Bool, true, false, List, Option, Some, None, length, map, take, slice_get, ◌==◌, nat_le, if◌then◌else◌}
use Rattle.std.specs.Option.{option_map_or}
use Rattle.gl_event.specs.Bounds.{Bounds}
use Rattle.gl_event.specs.Events.{depth, held, held_mode, partner}
use Rattle.gl_event.specs.declared.events.Event.{Event}
use Rattle.gl_event.specs.declared.events.Event.TheVariants.{Acquire, Release, TryAcquire, Fork, Join}
use Rattle.gl_event.specs.declared.events.LockMode.{LockMode}
use Rattle.gl_event.specs.declared.events.LockMode.TheVariants.{Exclusive, Shared}
use Rattle.gl_event.specs.declared.events.Refusal.{Refusal}
use Rattle.gl_event.specs.declared.events.Refusal.TheVariants.{PlaceFull, NoSuchThread, OnItself, NotHeld, HeldFull, DepthFull, Upgrade}
use Rattle.gl_event.specs.declared.held.TheConstants.{MAX_HELD, MAX_DEPTH}

-- a lock that is held in the first mode is asked for in the second, and would have to become exclusive
abbrev pub is_upgrade : LockMode → LockMode → Bool
is_upgrade Exclusive asked = false
is_upgrade Shared Exclusive = true
is_upgrade Shared Shared = false

-- why a thread with these events may not acquire the lock in this mode
unfoldable pub acquire_refusal : List Event → ℕ → LockMode → Option Refusal
acquire_refusal es lock mode =
    if depth es lock == 0 then (if nat_le MAX_HELD (length (held es)) then Some HeldFull else None)
    else (if nat_le MAX_DEPTH (depth es lock) then Some DepthFull
    else (if is_upgrade (held_mode es lock) mode then Some Upgrade else None))

-- why these locks don't let the event come next
unfoldable pub lock_refusal : List Event → Event → Option Refusal
lock_refusal es (Acquire mode lock loc) = acquire_refusal es lock mode
lock_refusal es (TryAcquire mode lock loc) = acquire_refusal es lock mode
lock_refusal es (Release mode lock loc) = if depth es lock == 0 then Some NotHeld else None
lock_refusal es (Fork thread loc) = None
lock_refusal es (Join thread loc) = None

-- why the event may not come next in this thread's list: the first reason that fits
unfoldable pub refusal : Bounds → ℕ → List Event → Event → Option Refusal
refusal limits thread es e =
    if nat_le limits.events (length es) then Some PlaceFull
    else (if option_map_or (nat_le limits.threads) (partner e) false then Some NoSuchThread
    else (if option_map_or (λ other. other == thread) (partner e) false then Some OnItself
    else lock_refusal es e))

-- each event of the list may come next after those before it
pub record IsLawful (limits : Bounds) (thread : ℕ) (es : List Event) : Type 0 where
  pub each : (place : ℕ) (e : Event) → slice_get es place ≡ Some e
      → refusal limits thread (take place es) e ≡ None

-- each event of the list is one that the locks allow after those before it
pub record HasLawfulLocks (es : List Event) : Type 0 where
  pub each : (place : ℕ) (e : Event) → slice_get es place ≡ Some e
      → lock_refusal (take place es) e ≡ None

-- the lists that the vectors hold
abbrev pub lists_of : List (Vec Event) → List (List Event)
lists_of vecs = map (λ v. v.items) vecs

-- each list is lawful for the thread whose number is its position
abbrev pub EachIsLawful : Bounds → List (List Event) → Type 0
EachIsLawful limits lists =
    (thread : ℕ) (es : List Event) → slice_get lists thread ≡ Some es → IsLawful limits thread es

-- there are no more lists than there may be threads, and each is lawful for the thread whose number is its position
pub record AreLawful (limits : Bounds) (lists : List (List Event)) : Type 0 where
  pub few : length lists ≤ limits.threads
  pub each : EachIsLawful limits lists
