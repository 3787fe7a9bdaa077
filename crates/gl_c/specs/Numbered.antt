-- Events and their refusals by the numbers that C has for them.
use Rattle.std.specs.Prelude.{ℕ, Option, Some, None, ◌==◌, if◌then◌else◌}
use Rattle.gl_event.specs.declared.events.Event.{Event}
use Rattle.gl_event.specs.declared.events.Event.TheVariants.{Acquire, Release, TryAcquire, Fork, Join}
use Rattle.gl_event.specs.declared.events.LockMode.TheVariants.{Exclusive, Shared}
use Rattle.gl_event.specs.declared.events.Refusal.{Refusal}
use Rattle.gl_event.specs.declared.events.Refusal.TheVariants.{PlaceFull, NoSuchThread, OnItself, NotHeld, HeldFull, DepthFull, Upgrade}
use Rattle.gl_c.specs.declared.codes.TheConstants.{ACQUIRE, ACQUIRE_SHARED, RELEASE, RELEASE_SHARED, TRY_ACQUIRE, TRY_ACQUIRE_SHARED, FORK, JOIN, EVENTS_FULL, NO_SUCH_THREAD, ON_ITSELF, NOT_HELD, HELD_FULL, DEPTH_FULL, UPGRADE}

-- the event of this kind, on this lock or thread, at this place
abbrev pub event_of_kind : ℕ → ℕ → ℕ → Option Event
event_of_kind kind operand place =
    if kind == ACQUIRE then Some (Acquire Exclusive operand place)
    else (if kind == ACQUIRE_SHARED then Some (Acquire Shared operand place)
    else (if kind == RELEASE then Some (Release Exclusive operand place)
    else (if kind == RELEASE_SHARED then Some (Release Shared operand place)
    else (if kind == TRY_ACQUIRE then Some (TryAcquire Exclusive operand place)
    else (if kind == TRY_ACQUIRE_SHARED then Some (TryAcquire Shared operand place)
    else (if kind == FORK then Some (Fork operand place)
    else (if kind == JOIN then Some (Join operand place)
    else None)))))))

-- the number of the reason why an event may not come next
abbrev pub refusal_code : Refusal → ℕ
refusal_code PlaceFull = EVENTS_FULL
refusal_code NoSuchThread = NO_SUCH_THREAD
refusal_code OnItself = ON_ITSELF
refusal_code NotHeld = NOT_HELD
refusal_code HeldFull = HELD_FULL
refusal_code DepthFull = DEPTH_FULL
refusal_code Upgrade = UPGRADE
