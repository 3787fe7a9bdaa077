-- What a session is run with.
use Rattle.std.specs.Prelude.{⊤, ◌≡◌, ◌≤◌, ℕ, true}
use Rattle.gl_event.specs.Bounds.{Bounds, greatest}
use Rattle.gl_event.specs.declared.limits.TheConstants.{MAX_THREADS, MAX_RING}
use Rattle.gl_shards.specs.declared.shard.TheConstants.{MAX_SHARDS}
use Rattle.gl_options.specs.declared.live_options.LiveOptions.{LiveOptions}
use Rattle.gl_options.specs.declared.options.Command.{Command}
use Rattle.gl_options.specs.declared.options.Command.TheVariants.{Live}

-- the numbers are those of a session: there is a thread that records, a worker of each shard, and room in each ring; and a lane, where the
-- options ask for lanes before it is known how many threads there are
pub record AreOfSession (options : LiveOptions) : Type 0 where
  pub some_recorder : 1 ≤ options.recorders
  pub some_shard : 1 ≤ options.shards
  pub shards_fit : options.shards ≤ MAX_SHARDS
  pub some_ring : 1 ≤ options.ring
  pub ring_fits : options.ring ≤ MAX_RING
  pub some_thread : options.stream ≡ true → 1 ≤ options.threads
  pub threads_fit : options.stream ≡ true → options.threads ≤ MAX_THREADS

-- the numbers of the command, where it runs a session
abbrev pub CanRun : Command → Type 0
CanRun (Live options) = AreOfSession options
CanRun other = ⊤

-- the greatest limits, but for the threads
abbrev pub with_threads : ℕ → Bounds
with_threads threads = record greatest { threads = threads }
