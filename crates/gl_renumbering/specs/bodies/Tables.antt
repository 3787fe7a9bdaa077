-- The numbers that names got by their first mention, while events are numbered one by one.
use Rattle.std.specs.Prelude.{◌≡◌, ◌≢◌, ℕ, ◌^◌, ◌<◌, List, ◌++◌, Option, Some, None, length, map, position, slice_get, All, AllPairs, Contains}
use Rattle.std.specs.Str.{bytes_eq}
use Rattle.gl_event.specs.declared.events.Event.{Event}
use Rattle.gl_std.specs.Names.{NameLists}
use Rattle.gl_renumbering.specs.Tales.{Tale, event_by}

-- the table has, by the old numbers of names, the new numbers of those that were mentioned
pub record IsTable (old new : List (List ℕ)) (table : List (Option ℕ)) : Type 0 where
  -- there is a place for each old number
  pub size : length table ≡ length old
  pub few : length old < 2 ^ 32
  -- the number in it is the new one of the same name
  pub each : (n number : ℕ) (name : List ℕ) → slice_get table n ≡ Some (Some number)
      → slice_get old n ≡ Some name → position (bytes_eq name) new ≡ Some number
  -- the new names are different ones of the old
  pub differ : AllPairs (λ a b. a ≢ b) new
  pub among : All (Contains old) new

-- the table has no number yet
pub record IsBlank (count : ℕ) (table : List (Option ℕ)) : Type 0 where
  pub size : length table ≡ count
  pub none : All (λ number. number ≡ None) table

-- both tables have the numbers in these names
pub record StandsFor (old new : NameLists) (lock_table loc_table : List (Option ℕ)) : Type 0 where
  pub locks : IsTable old.locks new.locks lock_table
  pub locations : IsTable old.locs new.locs loc_table

-- the names, and more of them
abbrev pub with_more : NameLists → NameLists → NameLists
with_more names more =
    record names { locks = names.locks ++ more.locks; locs = names.locs ++ more.locs }

-- the event tells this tale by these names, and so it does once more of them are mentioned
abbrev pub StaysToldBy : NameLists → Tale → Event → Type 0
StaysToldBy names tale event = (more : NameLists) → event ≡ event_by (with_more names more) tale

-- so do all of a list
abbrev pub StayToldBy : NameLists → List Tale → List Event → Type 0
StayToldBy names list events =
    (more : NameLists) → events ≡ map (event_by (with_more names more)) list

-- and all of several
abbrev pub AllStayToldBy : NameLists → List (List Tale) → List (List Event) → Type 0
AllStayToldBy names lists all =
    (more : NameLists) → all ≡ map (map (event_by (with_more names more))) lists
