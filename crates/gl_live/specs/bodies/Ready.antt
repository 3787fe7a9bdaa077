-- A session that is ready to run.
use Rattle.std.specs.Prelude.{◌≡◌, ℕ, ◌+◌, ◌≤◌, [], length, map}
use Rattle.std.specs.List.{All}
use Rattle.std.specs.Vec.{vec_len, vec_capacity}
use Rattle.gl_event.specs.Bounds.{of_session}
use Rattle.gl_event.specs.declared.limits.TheConstants.{MAX_EVENTS}
use Rattle.gl_engine.specs.Gathering.{AreUnused}
use Rattle.gl_live.specs.declared.session.Session.{Session}

-- there are so many threads, each with as many events as there may be; a feed for each shard, 1 to 16, through which nothing was sent; and
-- room for what recorders and workers leave
pub record IsReady (threads : ℕ) (s : Session) : Type 0 where
  pub threads_are : s.collector.limits.threads ≡ threads
  pub events_are : s.collector.limits.events ≡ MAX_EVENTS
  pub outlets : AreUnused s.outlets.items
  pub feeds : map (λ i. i.feed) s.inlets.items ≡ map (λ o. o.feed) s.outlets.items
  pub no_receipt : s.receipts.items ≡ []
  pub room : vec_len s.receipts + threads ≤ vec_capacity s.receipts
  pub none_served : s.served.items ≡ []
  pub served_room : vec_len s.served + length s.inlets.items ≤ vec_capacity s.served

-- there are lanes of so many threads, and feeds of so many workers, each with this capacity
pub record HasSizes (threads workers capacity : ℕ) (s : Session) : Type 0 where
  pub lanes : s.collector.limits ≡ of_session threads capacity
  pub shards : length s.outlets.items ≡ workers
  pub feeds : All (λ o. o.capacity ≡ capacity) s.outlets.items
