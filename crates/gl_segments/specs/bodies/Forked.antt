-- The forks, by the thread that they start.
use Rattle.std.specs.Prelude.{◌≡◌, ◌↔◌, ◌⊎◌, ℕ, List, Some, Contains, slice_get}
use Rattle.gl_event.specs.declared.events.Event.{Event}
use Rattle.gl_event.specs.declared.events.Event.TheVariants.{Fork}
use Rattle.gl_segments.specs.declared.forked.Spawn.{Spawn}
use Rattle.gl_segments.specs.bodies.Tables.{Forks}

-- exactly the forks of these lists of forks and joins
abbrev pub AreAllForks : List (List Event) → List Spawn → Type 0
AreAllForks cuts forks = (s : Spawn) → Contains forks s ↔ Forks cuts s.thread s.from

-- what stood there stays, and what was added is the forks of one thread
pub record AddsForks (old new : List Spawn) (from : ℕ) (es : List Event) : Type 0 where
  -- what stood there stays
  pub kept : (s : Spawn) → Contains old s → Contains new s
  -- each fork was added
  pub added : (i thread loc : ℕ) → slice_get es i ≡ Some (Fork thread loc)
      → Contains new (record { thread = thread; from = record { thread = from; index = i } })
  -- nothing else was added
  pub only : (s : Spawn) → Contains new s → Contains old s
      ⊎ ((s.from.thread ≡ from)
      × ((loc : ℕ) × (slice_get es s.from.index ≡ Some (Fork s.thread loc))))
