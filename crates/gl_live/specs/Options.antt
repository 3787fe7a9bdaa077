-- What a session can be run with.
use Rattle.std.specs.Prelude.{◌≤◌, ℕ}
use Rattle.gl_event.specs.declared.limits.TheConstants.{MAX_THREADS, MAX_RING}
use Rattle.gl_shards.specs.declared.shard.TheConstants.{MAX_SHARDS}
use Rattle.gl_live.specs.declared.session.SessionOptions.{SessionOptions}
use Rattle.gl_live.specs.declared.streaming.StreamOptions.{StreamOptions}

-- there is a worker, and no more of them than there may be; and room in each ring, and no more than there may be
abbrev pub AreSizes : ℕ → ℕ → Type 0
AreSizes shards ring = (1 ≤ shards) × (shards ≤ MAX_SHARDS) × (1 ≤ ring) × (ring ≤ MAX_RING)

-- a session over lists: there is a thread that records, and the sizes are in range
abbrev pub CanRunOverLists : SessionOptions → Type 0
CanRunOverLists options = (1 ≤ options.recorders) × AreSizes options.shards options.ring

-- a session over a text: there is a lane, and no more of them than there may be, and the sizes are in range
abbrev pub CanRunOverText : StreamOptions → Type 0
CanRunOverText options =
    (1 ≤ options.threads) × (options.threads ≤ MAX_THREADS) × AreSizes options.shards options.ring
