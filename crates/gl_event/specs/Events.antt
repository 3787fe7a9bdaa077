-- A thread's list of events, as a whole: how deep each lock is held, which locks are held, in which
-- mode and where each of them was opened, and how many segments the events closed.
-- The state after the first p events of a list is the state of the list `take p es`.
use Rattle.std.specs.Prelude.{ℕ, zero, suc, ◌-◌, Bool, true, false, ◌&&◌, List, Option, Some, None, length, map, take, filter, count_by, slice_get, ◌==◌, nat_lt, if◌then◌else◌}
use Rattle.std.specs.List.{filter_map}
use Rattle.std.specs.Option.{option_map_or}
use Rattle.std.specs.Ordering.{nat_cmp}
use Rattle.std.specs.FinMap.{from_entries, keys}
use Rattle.gl_event.specs.declared.events.Event.{Event}
use Rattle.gl_event.specs.declared.events.Event.TheVariants.{Acquire, Release, TryAcquire, Fork, Join}
use Rattle.gl_event.specs.declared.events.LockMode.{LockMode}
use Rattle.gl_event.specs.declared.events.LockMode.TheVariants.{Exclusive}
use Rattle.gl_event.specs.declared.held.HeldEntry.{HeldEntry}

-- the lock that the event acquires, whether or not it could have waited for it
abbrev pub acquired_lock : Event → Option ℕ
acquired_lock (Acquire mode l loc) = Some l
acquired_lock (Release mode l loc) = None
acquired_lock (TryAcquire mode l loc) = Some l
acquired_lock (Fork t loc) = None
acquired_lock (Join t loc) = None

-- the lock that the event wants: the one that it waits for as long as another thread keeps it
abbrev pub wanted_lock : Event → Option ℕ
wanted_lock (Acquire mode l loc) = Some l
wanted_lock (Release mode l loc) = None
wanted_lock (TryAcquire mode l loc) = None
wanted_lock (Fork t loc) = None
wanted_lock (Join t loc) = None

-- the mode in which the event acquires or releases
abbrev pub lock_mode : Event → LockMode
lock_mode (Acquire mode l loc) = mode
lock_mode (Release mode l loc) = mode
lock_mode (TryAcquire mode l loc) = mode
lock_mode (Fork t loc) = Exclusive
lock_mode (Join t loc) = Exclusive

-- the event acquires this lock
abbrev pub acquires : ℕ → Event → Bool
acquires lock e = option_map_or (λ l. l == lock) (acquired_lock e) false

-- the event releases this lock
abbrev pub releases : ℕ → Event → Bool
releases lock (Acquire mode l loc) = false
releases lock (Release mode l loc) = l == lock
releases lock (TryAcquire mode l loc) = false
releases lock (Fork t loc) = false
releases lock (Join t loc) = false

-- the event closes a segment: it is a fork or a join
abbrev pub closes : Event → Bool
closes (Acquire mode l loc) = false
closes (Release mode l loc) = false
closes (TryAcquire mode l loc) = false
closes (Fork t loc) = true
closes (Join t loc) = true

-- where in the source the event stands
abbrev pub location : Event → ℕ
location (Acquire mode l loc) = loc
location (Release mode l loc) = loc
location (TryAcquire mode l loc) = loc
location (Fork t loc) = loc
location (Join t loc) = loc

-- the thread that the event forks or joins
abbrev pub partner : Event → Option ℕ
partner (Acquire mode l loc) = None
partner (Release mode l loc) = None
partner (TryAcquire mode l loc) = None
partner (Fork t loc) = Some t
partner (Join t loc) = Some t

-- how deep the lock is held after these events: acquires less releases
unfoldable pub depth : List Event → ℕ → ℕ
depth es lock = count_by (acquires lock) es - count_by (releases lock) es

-- in which segment a next event lies: one for each fork and join so far
unfoldable pub segment : List Event → ℕ
segment es = count_by closes es

-- these numbers, each once, ascending
abbrev pub ascending : List ℕ → List ℕ
ascending ns = keys (from_entries {R = nat_cmp} (map (λ n. (n, tt {0})) ns))

-- the locks that are held after these events, ascending
unfoldable pub held : List Event → List ℕ
held es = ascending (filter (λ lock. nat_lt 0 (depth es lock)) (filter_map acquired_lock es))

-- the event at this place acquires the lock where its thread doesn't hold it
abbrev pub opens : List Event → ℕ → ℕ → Bool
opens es lock place =
    option_map_or (acquires lock) (slice_get es place) false && (depth (take place es) lock == 0)

-- the greatest number below n that passes, or 0
abbrev pub greatest_below : (ℕ → Bool) → ℕ → ℕ
greatest_below passes zero = 0
greatest_below passes (suc n) = if passes n then n else greatest_below passes n

-- the place at which the lock was last acquired by a thread that didn't hold it
unfoldable pub opened : List Event → ℕ → ℕ
opened es lock = greatest_below (opens es lock) (length es)

-- the mode in which a lock is held: that of the acquire that opened it
unfoldable pub held_mode : List Event → ℕ → LockMode
held_mode es lock = option_map_or lock_mode (slice_get es (opened es lock)) Exclusive

-- what is known of a held lock: its depth, and the mode, the place, the location and the segment of the acquire that opened it
unfoldable pub entry_of : List Event → ℕ → HeldEntry
entry_of es lock =
    record {
      lock = lock;
      mode = held_mode es lock;
      depth = depth es lock;
      place = opened es lock;
      loc = option_map_or location (slice_get es (opened es lock)) 0;
      seg = segment (take (opened es lock) es);
    }
