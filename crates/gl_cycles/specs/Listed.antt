-- What is listed of cycles: the first ones, and whether there are more.
use Rattle.std.specs.Prelude.{ℕ, Bool, List, length, take, nat_lt}
use Rattle.gl_event.specs.declared.events.Segment.{Segment}
use Rattle.gl_edges.specs.declared.edge.Edge.{Edge}
use Rattle.gl_edges.specs.declared.edge.Sample.{Sample}
use Rattle.gl_filters.specs.Asked.{Asked}
use Rattle.gl_filters.specs.Picked.{edges_of_table}
use Rattle.gl_cycles.specs.AllCycles.{all_cycles}
use Rattle.gl_cycles.specs.declared.found.Found.{Found}

-- of all these so many at most
abbrev pub listed : ℕ → List (List ℕ) → Found
listed max all = record { cycles = take max all; more = nat_lt max (length all) }

-- of the cycles that are asked for, by a test of which segment is before which
abbrev pub listed_cycles : Asked → (Segment → Segment → Bool) → List (Edge × Sample) → Found
listed_cycles asked before pairs =
    listed asked.max (all_cycles before asked.mode asked.len (edges_of_table pairs))
