-- All cycles over a list of edges. A cycle is a list of positions in it.
use Rattle.std.specs.Prelude.{ℕ, zero, suc, Bool, List, [], ◌∷◌, length, map, filter}
use Rattle.std.specs.List.{flat_map, range_with_len}
use Rattle.gl_event.specs.declared.events.Segment.{Segment}
use Rattle.gl_edges.specs.declared.edge.Edge.{Edge}
use Rattle.gl_filters.specs.declared.query.Mode.{Mode}
use Rattle.gl_filters.specs.Picked.{picked}
use Rattle.gl_filters.specs.Test.{is_cycle}

-- the lists of at most n numbers below size, in lexicographic order
abbrev pub lists_below : ℕ → ℕ → List (List ℕ)
lists_below size zero = [] ∷ []
lists_below size (suc n) =
    [] ∷ flat_map (λ i. map (λ rest. i ∷ rest) (lists_below size n)) (range_with_len 0 size)

-- the cycles of this mode of at most len edges, in the order of their edges
unfoldable pub all_cycles : (Segment → Segment → Bool) → Mode → ℕ → List Edge → List (List ℕ)
all_cycles before mode len edges =
    filter (λ positions. is_cycle before mode (picked edges positions))
    (lists_below (length edges) len)
