-- What contracts see of a feed's two ends, of what its sender leaves behind, and of its worker when it is done.
use Rattle.std.specs.Prelude.{ℕ, Bool, List}
use Rattle.atomic_table.specs.Seated.{TableId}
use Rattle.atomic_table.specs.declared.badge.Badge.{Badge}
use Rattle.crossbeam_channel.specs.Claims.{Pass, view}
use Rattle.crossbeam_channel.specs.declared.flavors.array.Key.{Key}
use Rattle.gl_edges.specs.declared.edge.Edge.{Edge}
use Rattle.gl_edges.specs.declared.edge.Sample.{Sample}
use Rattle.gl_shards.specs.Rule.{pairs_in}
use Rattle.gl_shards.specs.declared.rule.Message.{Message}
use Rattle.gl_shards.specs.declared.rule.Traffic.{Traffic}

-- The name of a feed, by which its ends are known to belong together. It is only compared
pub record FeedId : Type 0 where
  pub turns : TableId
  pub places : Badge (Key Message)

-- the feed in whose channel this is a pass
abbrev pub feed_of : Pass Message Traffic → FeedId
feed_of pass = record { turns = pass.table_id; places = pass.me.0.of }

-- the edges that the holder of this pass has sent, with their samples, oldest first
abbrev pub sent_by : Pass Message Traffic → List (Edge × Sample)
sent_by pass = pairs_in (view pass).sent

-- the edges that the holder of this pass has received, with their samples, oldest first
abbrev pub received_by : Pass Message Traffic → List (Edge × Sample)
received_by pass = pairs_in (view pass).received

-- the end that sends
pub record Sending : Type 0 where
  pub feed : FeedId
  -- how many messages the feed has room for
  pub capacity : ℕ
  -- the edges that were sent, with their samples, oldest first
  pub sent : List (Edge × Sample)

-- a feed whose sender has sent the end mark
pub record AllSent : Type 0 where
  pub feed : FeedId
  -- all edges that were ever sent, with their samples, oldest first
  pub sent : List (Edge × Sample)

-- the end that receives
pub record Receiving : Type 0 where
  pub feed : FeedId

-- a worker that is done
pub record Worked : Type 0 where
  pub feed : FeedId
  -- the edges that it received, with their samples, oldest first
  pub received : List (Edge × Sample)
  -- receiving ended before the end mark came
  pub cut : Bool
  -- there was no memory for an edge
  pub short : Bool
