-- The lists of threads, dealt out: each share has lists that follow one another, or places of one list that do.
use Rattle.std.specs.Prelude.{◌≡◌, ℕ, ◌-◌, ◌≤◌, List, [], ◌∷◌, take, drop}
use Rattle.gl_event.specs.declared.events.Event.{Event}
use Rattle.std.specs.List.{flat_map, range_with_len}
use Rattle.gl_edges.specs.Edges.{edges_at, edges_made_from, once}
use Rattle.gl_edges.specs.declared.edge.Edge.{Edge}
use Rattle.gl_edges.specs.declared.edge.Sample.{Sample}
use Rattle.gl_edges.specs.declared.parallel.Share.{Share}

-- the lists of a share
abbrev pub lists_of_share : List (List Event) → Share → List (List Event)
lists_of_share lists share = take (share.to - share.from) (drop share.from lists)

-- the edges of a share's lists: each once, ascending, with its least sample
abbrev pub edges_of_share : List (List Event) → Share → List (Edge × Sample)
edges_of_share lists share = once (edges_made_from share.from (lists_of_share lists share))

-- the edges that a thread's events make from one place up to another, in their order
abbrev pub edges_between : ℕ → List Event → ℕ → ℕ → List (Edge × Sample)
edges_between thread es from to =
    flat_map (edges_at thread es) (range_with_len from (to - from))

-- those of the places of a share: each once, ascending, with its least sample
abbrev pub edges_of_places : ℕ → List Event → Share → List (Edge × Sample)
edges_of_places thread es share = once (edges_between thread es share.from share.to)

-- the shares follow one another, from one position to another
abbrev pub FollowOn : ℕ → List Share → ℕ → Type 0
FollowOn from [] to = from ≡ to
FollowOn from (share ∷ rest) to =
    (share.from ≡ from) × (share.from ≤ share.to) × FollowOn share.to rest to
