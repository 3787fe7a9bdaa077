-- What lists of events tell, whatever numbers their locks and locations have; and the lists that tell the same with locks and
-- locations numbered by first mention: thread 0's list first, event by event, then thread 1's, and so on.
use Rattle.std.specs.Prelude.{◌≡◌, ◌≢◌, ◌⊎◌, ℕ, Bool, ◌&&◌, List, [], Option, Some, None, length, map, nat_lt}
use Rattle.std.specs.List.{filter_map, flat_map, fold, list_all}
use Rattle.gl_event.specs.Bounds.{Bounds}
use Rattle.gl_event.specs.Lawful.{EachIsLawful}
use Rattle.gl_event.specs.declared.events.Event.{Event}
use Rattle.gl_event.specs.declared.events.Event.TheVariants.{Acquire, Release, TryAcquire, Fork, Join}
use Rattle.gl_event.specs.declared.events.LockMode.{LockMode}
use Rattle.gl_std.specs.Names.{NameLists, number_of, with_new}
use Rattle.gl_writing.specs.Written.{name_at}

-- what an event tells: its operation, on the lock with this name, at the location with this name. Threads are told by number
pub data Tale : Type 0 where
  Acquires : (lock : List ℕ) (mode : LockMode) (location : List ℕ) → Tale
  Releases : (lock : List ℕ) (mode : LockMode) (location : List ℕ) → Tale
  TryAcquires : (lock : List ℕ) (mode : LockMode) (location : List ℕ) → Tale
  Forks : (thread : ℕ) (location : List ℕ) → Tale
  Joins : (thread : ℕ) (location : List ℕ) → Tale

-- the tale of an event: each number of a lock or of a location gives way to its name
abbrev pub told : NameLists → Event → Tale
told names (Acquire mode lock loc) =
    Acquires (name_at names.locks lock) mode (name_at names.locs loc)
told names (Release mode lock loc) =
    Releases (name_at names.locks lock) mode (name_at names.locs loc)
told names (TryAcquire mode lock loc) =
    TryAcquires (name_at names.locks lock) mode (name_at names.locs loc)
told names (Fork thread loc) = Forks thread (name_at names.locs loc)
told names (Join thread loc) = Joins thread (name_at names.locs loc)

-- the event of a tale: each name of a lock or of a location gives way to its number
abbrev pub event_by : NameLists → Tale → Event
event_by names (Acquires lock mode location) =
    Acquire mode (number_of names.locks lock) (number_of names.locs location)
event_by names (Releases lock mode location) =
    Release mode (number_of names.locks lock) (number_of names.locs location)
event_by names (TryAcquires lock mode location) =
    TryAcquire mode (number_of names.locks lock) (number_of names.locs location)
event_by names (Forks thread location) = Fork thread (number_of names.locs location)
event_by names (Joins thread location) = Join thread (number_of names.locs location)

-- the lock that a tale mentions, if it does
abbrev pub lock_in : Tale → Option (List ℕ)
lock_in (Acquires lock mode location) = Some lock
lock_in (Releases lock mode location) = Some lock
lock_in (TryAcquires lock mode location) = Some lock
lock_in (Forks thread location) = None
lock_in (Joins thread location) = None

-- the location that a tale mentions
abbrev pub location_in : Tale → List ℕ
location_in (Acquires lock mode location) = location
location_in (Releases lock mode location) = location
location_in (TryAcquires lock mode location) = location
location_in (Forks thread location) = location
location_in (Joins thread location) = location

-- what the threads' lists tell
abbrev pub tales : NameLists → List (List Event) → List (List Tale)
tales names lists = map (map (told names)) lists

-- the names, and those that the tales mention, in the order of their first mention
abbrev pub mentioned : NameLists → List Tale → NameLists
mentioned names list =
    record names {
      locks = fold with_new names.locks (filter_map lock_in list);
      locs = fold with_new names.locs (map location_in list);
    }

-- the names of the same threads, and of locks and locations by first mention, one thread's list after the other
abbrev pub names_by_mention : NameLists → List (List Event) → NameLists
names_by_mention names lists =
    mentioned (record names { locks = []; locs = [] }) (flat_map (λ list. list) (tales names lists))

-- the lists that tell the same by these names
abbrev pub lists_by_mention : NameLists → List (List Event) → List (List Event)
lists_by_mention names lists =
    map (map (event_by (names_by_mention names lists))) (tales names lists)

-- this is the number of a name
abbrev pub is_named : List (List ℕ) → ℕ → Bool
is_named names number = nat_lt number (length names)

-- the lock and the location of the event have names
abbrev pub has_names : NameLists → Event → Bool
has_names names (Acquire mode lock loc) = is_named names.locks lock && is_named names.locs loc
has_names names (Release mode lock loc) = is_named names.locks lock && is_named names.locs loc
has_names names (TryAcquire mode lock loc) = is_named names.locks lock && is_named names.locs loc
has_names names (Fork thread loc) = is_named names.locs loc
has_names names (Join thread loc) = is_named names.locs loc

-- the locks and locations of all events have names
abbrev pub have_names : NameLists → List (List Event) → Bool
have_names names lists = list_all (list_all (has_names names)) lists

-- no names, of anything
abbrev pub no_names : NameLists
no_names = record { threads = []; locks = []; locs = [] }

-- there is a name or a list
abbrev pub IsThereToNumber : NameLists → List (List Event) → Type 0
IsThereToNumber names lists = (names ≢ no_names) ⊎ (lists ≢ [])

-- where the old lists are lawful, under whichever limits, so are the new ones
abbrev pub StayLawful : List (List Event) → List (List Event) → Type 0
StayLawful old new = (limits : Bounds) → EachIsLawful limits old → EachIsLawful limits new

-- two lots of lists tell the same, of the same threads
abbrev pub TellTheSame : NameLists → List (List Event) → NameLists → List (List Event) → Type 0
TellTheSame names lists others other_lists =
    (names.threads ≡ others.threads) × (tales names lists ≡ tales others other_lists)

-- lists that tell the same are the same by mention, and so are their names
abbrev pub SameTalesSameLists : Type 0
SameTalesSameLists =
    (names others : NameLists) (lists other_lists : List (List Event))
    → TellTheSame names lists others other_lists
    → (names_by_mention names lists ≡ names_by_mention others other_lists)
    × (lists_by_mention names lists ≡ lists_by_mention others other_lists)

-- the lists by mention tell what the lists tell
abbrev pub ListsByMentionTellTheSame : Type 0
ListsByMentionTellTheSame =
    (names : NameLists) (lists : List (List Event))
    → TellTheSame (names_by_mention names lists) (lists_by_mention names lists) names lists
