-- Edges that are made under a lock.
use Rattle.std.specs.Prelude.{◌≡◌, ℕ, true, Contains}
use Rattle.gl_event.specs.declared.events.LockMode.TheVariants.{Exclusive}
use Rattle.gl_edges.specs.declared.edge.Edge.{Edge}
use Rattle.gl_filters.specs.Cycle.{asks_guards}
use Rattle.gl_filters.specs.declared.query.Mode.{Mode}

-- the edge is made under this lock, which is held exclusively, where the mode asks for guards
abbrev pub IsUnder : Mode → ℕ → Edge → Type 0
IsUnder mode lock e =
    (asks_guards mode ≡ true) × Contains e.guards (record { lock = lock; mode = Exclusive })
