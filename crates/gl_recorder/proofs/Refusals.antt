-- The refusal of an event, case by case.
use Rattle.std.proofs.Common.{◌≡◌, ℕ, ◌<◌, ◌≤◌, true, List, length, Some, None, refl}
use Rattle.std.proofs.lemmas.Bool.{false≢true, le-leb, lt-leb}
use Rattle.gl_event.specs.Bounds.{Bounds}
use Rattle.gl_event.specs.Events.{acquired_lock, closes, partner}
use Rattle.gl_event.specs.Lawful.{lock_refusal, refusal}
use Rattle.gl_event.specs.declared.events.Event.{Event}
use Rattle.gl_event.specs.declared.events.Event.TheVariants.{Acquire, Release, TryAcquire, Fork, Join}
use Rattle.gl_event.specs.declared.events.Refusal.TheVariants.{PlaceFull}
use Rattle.gl_recorder.specs.Taking.{partner_refusal}

-- an event that acquires a lock is on no thread
pub alone_of : (e : Event) (lock : ℕ) → acquired_lock e ≡ Some lock → partner e ≡ None
alone_of (Acquire mode l loc) lock is = refl
alone_of (Release mode l loc) lock is = absurd (cc)
alone_of (TryAcquire mode l loc) lock is = refl
alone_of (Fork t loc) lock is = absurd (cc)
alone_of (Join t loc) lock is = absurd (cc)

-- where there is room for it, an event of a lock is refused as the locks say, and a fork or join as its partner says
module _ (limits : Bounds) (thread : ℕ) (es : List Event) (room : length es < limits.events) where
  pub by_lock : (e : Event) → partner e ≡ None → refusal limits thread es e ≡ lock_refusal es e
  unfolding refusal
  by_lock e alone = rw (lt-leb limits.events (length es) room, alone)

  pub by_partner : (e : Event) (other : ℕ) → closes e ≡ true → partner e ≡ Some other → refusal limits thread es e ≡ partner_refusal limits thread other
  unfolding refusal lock_refusal
  by_partner (Acquire mode l loc) other closing is = absurd (false≢true closing)
  by_partner (Release mode l loc) other closing is = absurd (false≢true closing)
  by_partner (TryAcquire mode l loc) other closing is = absurd (false≢true closing)
  by_partner (Fork t loc) other closing is = let same : t ≡ other = cc in rw (lt-leb limits.events (length es) room, same)
  by_partner (Join t loc) other closing is = let same : t ≡ other = cc in rw (lt-leb limits.events (length es) room, same)

-- a list that is as long as it may be takes no event
pub list_full : (limits : Bounds) (thread : ℕ) (es : List Event) (e : Event) → limits.events ≤ length es → refusal limits thread es e ≡ Some PlaceFull
unfolding refusal
list_full limits thread es e full = rw (le-leb limits.events (length es) full)
