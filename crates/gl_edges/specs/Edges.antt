-- The edges that the events of threads make: where a thread wants and acquires a lock that it doesn't
-- hold, one edge for each lock that it holds.
use Rattle.std.specs.Prelude.{ℕ, List, [], ◌∷◌, map, length, take, slice_get, ◌==◌, if◌then◌else◌}
use Rattle.std.specs.FinMap as table
use Rattle.std.specs.FinMap.{FinMap}
use Rattle.std.specs.List.{flat_map, range_with_len, enumerate_from}
use Rattle.std.specs.Option.{option_map_or}
use Rattle.std.specs.Ordering.{is_lt}
use Rattle.gl_event.specs.Events as events
use Rattle.gl_event.specs.declared.events.Event.{Event}
use Rattle.gl_event.specs.declared.events.LockMode.{LockMode}
use Rattle.gl_edges.specs.Guards.{guard_of}
use Rattle.gl_edges.specs.Order.{edge_cmp, sample_cmp}
use Rattle.gl_edges.specs.declared.edge.Edge.{Edge}
use Rattle.gl_edges.specs.declared.edge.Sample.{Sample}
use Rattle.gl_edges.specs.declared.guards.Guard.{Guard}

-- the locks that are held after these events, ascending, each in the mode in which it is held
unfoldable pub guards : List Event → List Guard
guards es = map (λ lock. guard_of (events.entry_of es lock)) (events.held es)

-- the edge of a thread that, after these events, acquires the wanted lock in this mode while it holds the other lock
abbrev pub edge_of : ℕ → List Event → ℕ → LockMode → ℕ → Edge
edge_of thread es wanted mode lock =
    record {
      thread = thread;
      held = lock;
      held_mode = (events.entry_of es lock).mode;
      wanted = wanted;
      wanted_mode = mode;
      first = (events.entry_of es lock).seg;
      second = events.segment es;
      guards = guards es;
    }

-- where that edge is seen, if the acquire of the wanted lock stands at this location
abbrev pub sample_of : List Event → ℕ → ℕ → Sample
sample_of es loc lock =
    record { place = length es; held_loc = (events.entry_of es lock).loc; wanted_loc = loc }

-- both
abbrev pub pair_at : ℕ → List Event → ℕ → LockMode → ℕ → ℕ → Edge × Sample
pair_at thread es wanted mode loc lock = (edge_of thread es wanted mode lock, sample_of es loc lock)

-- the edges of an acquire after these events: one for each held lock, and none if the lock is held already
unfoldable pub edges_wanting : ℕ → List Event → ℕ → LockMode → ℕ → List (Edge × Sample)
edges_wanting thread es wanted mode loc =
    if events.depth es wanted == 0
    then map (pair_at thread es wanted mode loc) (events.held es)
    else []

-- the edges that an event makes after these events: only one that wants a lock makes edges
abbrev pub edges_after : ℕ → List Event → Event → List (Edge × Sample)
edges_after thread es e =
    option_map_or (λ wanted. edges_wanting thread es wanted (events.lock_mode e)
    (events.location e)) (events.wanted_lock e) []

-- the edges that the event at this place of a thread's list makes
unfoldable pub edges_at : ℕ → List Event → ℕ → List (Edge × Sample)
edges_at thread es place =
    option_map_or (edges_after thread (take place es)) (slice_get es place) []

-- the edges of a thread's events at the first n places, in their order
abbrev pub edges_below : ℕ → List Event → ℕ → List (Edge × Sample)
edges_below thread es n = flat_map (edges_at thread es) (range_with_len 0 n)

-- the edges of a thread's list
abbrev pub edges_of_list : ℕ → List Event → List (Edge × Sample)
edges_of_list thread es = edges_below thread es (length es)

-- the edges of lists whose threads are numbered from the first one on, one after the other
abbrev pub edges_made_from : ℕ → List (List Event) → List (Edge × Sample)
edges_made_from first lists =
    flat_map (λ numbered. edges_of_list numbered.0 numbered.1) (enumerate_from first lists)

-- the edges of all lists, one after the other; a thread's number is the position of its list
abbrev pub edges_made : List (List Event) → List (Edge × Sample)
edges_made lists = edges_made_from 0 lists

-- the lesser of two samples
abbrev pub lesser : Sample → Sample → Sample
lesser new old = if is_lt (sample_cmp new old) then new else old

-- the table with one more pair: an edge that is there already keeps the lesser sample
abbrev pub keep : FinMap edge_cmp Sample → Edge × Sample → FinMap edge_cmp Sample
keep known pair =
    table.insert known pair.0 (option_map_or (lesser pair.1) (table.get known pair.0) pair.1)

-- the table of these pairs: at each edge its least sample
abbrev pub least_samples : List (Edge × Sample) → FinMap edge_cmp Sample
least_samples [] = table.empty
least_samples (pair ∷ pairs) = keep (least_samples pairs) pair

-- each edge of these pairs once, ascending, with its least sample
unfoldable pub once : List (Edge × Sample) → List (Edge × Sample)
once pairs = table.entries (least_samples pairs)

-- the edges of these lists: each once, ascending, with its least sample
abbrev pub edges : List (List Event) → List (Edge × Sample)
edges lists = once (edges_made lists)
