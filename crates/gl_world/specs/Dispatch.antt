-- What becomes of the edges: those made wait in their order, each is shipped to its shard, and the shard's worker puts it into a table.
use Rattle.std.specs.Prelude.{◌≡◌, ℕ, ◌+◌, ◌-◌, Bool, List, [], ◌∷◌, ◌++◌, length, take, replicate, Some, slice_get, slice_set, nat_lt, if◌then◌else◌}
use Rattle.std.specs.List.{flat_map}
use Rattle.std.specs.Option.{option_map_or}
use Rattle.gl_event.specs.Bounds.{Bounds}
use Rattle.gl_edges.specs.Edges.{once}
use Rattle.gl_edges.specs.declared.edge.Edge.{Edge}
use Rattle.gl_edges.specs.declared.edge.Sample.{Sample}
use Rattle.gl_shards.specs.Shards.{shard_of}
use Rattle.gl_world.specs.declared.steps.Did.{Did}
use Rattle.gl_world.specs.declared.steps.Did.TheVariants.{Nothing, Shipped, Worked}

-- a shard: the edges shipped to it, with their samples, and how many of them were worked
pub record Shard : Type 0 where
  pub shipped : List (Edge × Sample)
  pub worked : ℕ

-- the edges made so far, with their samples, how many of them were shipped, and the shards in the order of their numbers
pub record Dispatch : Type 0 where
  pub made : List (Edge × Sample)
  pub sent : ℕ
  pub shards : List Shard

-- a shard to which nothing was shipped
abbrev pub fresh_shard : Shard
fresh_shard = record { shipped = []; worked = 0 }

-- no edges, and this many shards
abbrev pub fresh_dispatch : ℕ → Dispatch
fresh_dispatch shards = record { made = []; sent = 0; shards = replicate shards fresh_shard }

-- the edges of the shard that were worked
abbrev pub worked_edges : Shard → List (Edge × Sample)
worked_edges shard = take shard.worked shard.shipped

-- the shard's table: its worked edges, each once, ascending, with its least sample
abbrev pub table_of : Shard → List (Edge × Sample)
table_of shard = once (worked_edges shard)

-- the worked edges of all shards, one shard after the other
abbrev pub all_worked : List Shard → List (Edge × Sample)
all_worked shards = flat_map worked_edges shards

-- fewer edges than the feed holds are shipped to the shard and not worked
abbrev pub has_place : Bounds → Shard → Bool
has_place limits shard = nat_lt (length shard.shipped - shard.worked) limits.ring

-- an edge of the shard isn't worked
abbrev pub has_work : Shard → Bool
has_work shard = nat_lt shard.worked (length shard.shipped)

-- the shard with one edge more shipped to it
abbrev pub ship_edge : Shard → Edge × Sample → Shard
ship_edge shard pair = record shard { shipped = shard.shipped ++ pair ∷ [] }

-- the shard with one edge more worked
abbrev pub work_edge : Shard → Shard
work_edge shard = record shard { worked = shard.worked + 1 }

-- the dispatch after a step of it, and the answer
pub record Handled : Type 0 where
  pub dispatch : Dispatch
  pub did : Did

-- a step that isn't enabled
abbrev pub wait : Dispatch → Handled
wait d = record { dispatch = d; did = Nothing }

-- the pair is shipped to this shard, whose number is k, if its feed has a place
abbrev pub ship_to : Bounds → Dispatch → Edge × Sample → ℕ → Shard → Handled
ship_to limits d pair k shard =
    if has_place limits shard
    then record {
      dispatch = record d
          { sent = d.sent + 1; shards = slice_set d.shards k (ship_edge shard pair) };
      did =
          Shipped k;
    }
    else wait d

-- the pair is shipped to the shard of its edge
abbrev pub ship_pair : Bounds → Dispatch → Edge × Sample → Handled
ship_pair limits d pair =
    let k = shard_of pair.0 (length d.shards) in
    option_map_or (ship_to limits d pair k) (slice_get d.shards k) (wait d)

-- the oldest edge that isn't shipped is shipped, if there is one
unfoldable pub ship_turn : Bounds → Dispatch → Handled
ship_turn limits d = option_map_or (ship_pair limits d) (slice_get d.made d.sent) (wait d)

-- the next edge of this shard, whose number is k, is worked, if there is one
abbrev pub work_on : Dispatch → ℕ → Shard → Handled
work_on d k shard =
    if has_work shard
    then record {
      dispatch = record d { shards = slice_set d.shards k (work_edge shard) };
      did = Worked;
    }
    else wait d

-- the next edge of the shard is worked, if the shard is known
unfoldable pub work_turn : Dispatch → ℕ → Handled
work_turn d k = option_map_or (work_on d k) (slice_get d.shards k) (wait d)

-- every edge made is shipped, and every edge shipped is worked
pub record IsDone (d : Dispatch) : Type 0 where
  pub all_sent : d.sent ≡ length d.made
  pub all_worked : (k : ℕ) (shard : Shard) → slice_get d.shards k ≡ Some shard
      → shard.worked ≡ length shard.shipped
