-- Which shard keeps an edge.
use Rattle.std.specs.Prelude.{ℕ, ◌%◌}
use Rattle.gl_edges.specs.declared.edge.Edge.{Edge}

-- the shard of an edge: its held lock's number modulo the number of shards
abbrev pub shard_of : Edge → ℕ → ℕ
shard_of edge shards = edge.held % shards
