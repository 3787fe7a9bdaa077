-- Which classes lead on to which.
use Rattle.std.specs.Prelude.{◌≡◌, ℕ, ◌<◌, Bool, true, not, ◌||◌, List, length, slice_get, unwrap_or, Option, Some, IfSome}
use Rattle.std.specs.HashSet.{contains}
use Rattle.gl_edges.specs.declared.edge.Edge.{Edge}
use Rattle.gl_filters.specs.Test.{leads_to}
use Rattle.gl_grounds.specs.Classes.{are_places}
use Rattle.gl_grounds.specs.declared.passages.Passages.{Passages}

-- an edge of the one class may lead on to one of the other, as far as the passages tell
abbrev pub may_pass : Passages → ℕ → ℕ → Bool
may_pass passages one other =
    not passages.are_all || contains are_places passages.pairs (one, other)

-- what might pass still may
abbrev pub stay : Passages → Passages → Type 0
stay old new = (one other : ℕ) → may_pass old one other ≡ true → may_pass new one other ≡ true

module _ (edges : List Edge) (classes : List ℕ) (flags : List Bool) where
  -- the edge at a position leads on to one of those below m that are flagged only where their classes may
  abbrev pub LeadsOnlyBelow : ℕ → Passages → ℕ → Type 0
  LeadsOnlyBelow m passages i =
      (j one other : ℕ) (e f : Edge) → j < m → slice_get flags j ≡ Some true
      → slice_get edges i ≡ Some e → slice_get edges j ≡ Some f
      → slice_get classes i ≡ Some one → slice_get classes j ≡ Some other
      → leads_to e f ≡ true → may_pass passages one other ≡ true

  -- and so to any that is flagged
  abbrev pub LeadsOnlyBy : Passages → ℕ → Type 0
  LeadsOnlyBy passages i = LeadsOnlyBelow (length edges) passages i

  -- so does each one before n that is flagged
  abbrev pub ArePassagesBefore : ℕ → Passages → Type 0
  ArePassagesBefore n passages =
      (i : ℕ) → i < n → slice_get flags i ≡ Some true → LeadsOnlyBy passages i

  -- and each
  pub record ArePassages (passages : Passages) : Type 0 where
    pub each : (i : ℕ) → slice_get flags i ≡ Some true → LeadsOnlyBy passages i

  -- the edge at the first position, which is flagged and stands before the other one, is of its class and leads on to the same edges
  pub record LeadLikewise (first i : ℕ) : Type 0 where
    pub before : first < i
    pub flagged : slice_get flags first ≡ Some true
    pub same_class : slice_get classes first ≡ slice_get classes i
    pub likewise : (d e f : Edge) → slice_get edges first ≡ Some d → slice_get edges i ≡ Some e
        → leads_to d f ≡ leads_to e f

  -- those before the next one that shares the lock are passed
  pub record IsNextLed (passages : Passages) (i : ℕ) (next : Option ℕ) : Type 0 where
    pub passed : LeadsOnlyBelow (unwrap_or next (length edges)) passages i
    pub shares : IfSome next
        (λ j. (j < length edges)
        × ((e f : Edge) → slice_get edges i ≡ Some e → slice_get edges j ≡ Some f
        → f.held ≡ e.wanted))
