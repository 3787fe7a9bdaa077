-- The cycles that begin with a front: what a search of paths finds below it.
use Rattle.std.specs.Prelude.{ℕ, Bool, List, [], ◌∷◌, ◌++◌, length, map, filter}
use Rattle.std.specs.List.{flat_map, range_with_len}
use Rattle.gl_event.specs.declared.events.Segment.{Segment}
use Rattle.gl_edges.specs.declared.edge.Edge.{Edge}
use Rattle.gl_filters.specs.declared.query.Mode.{Mode}
use Rattle.gl_filters.specs.Test.{is_cycle}
use Rattle.gl_filters.specs.Picked.{picked}
use Rattle.gl_cycles.specs.AllCycles.{lists_below}

-- the cycles that begin with this front and have at most n more edges
unfoldable pub block : (Segment → Segment → Bool) → Mode → List Edge → ℕ → List ℕ → List (List ℕ)
block before mode edges n front =
    filter (λ positions. is_cycle before mode (picked edges positions))
    (map (λ rest. front ++ rest) (lists_below (length edges) n))

-- what a function gives at the numbers below n, one after the other
abbrev pub upto : (ℕ → List (List ℕ)) → ℕ → List (List ℕ)
upto f n = flat_map f (range_with_len 0 n)

-- the cycles that begin with this front, go on with a position below k, and have at most n edges after that
abbrev pub blocks_below : (Segment → Segment → Bool) → Mode → List Edge → ℕ → List ℕ → ℕ
    → List (List ℕ)
blocks_below before mode edges n front k = upto (λ i. block before mode edges n (front ++ i ∷ [])) k
