-- A session that has run.
use Rattle.std.specs.Prelude.{◌≡◌, ℕ, List, None, Result, IfErr, IfOk, length, map}
use Rattle.std.specs.List.{All}
use Rattle.gl_event.specs.declared.events.Event.{Event}
use Rattle.gl_shards.specs.Feeds.{Worked}
use Rattle.gl_engine.specs.Gathering.{Gathering}
use Rattle.gl_live.specs.Faults.{IsLiveFault}
use Rattle.gl_live.specs.bodies.Rosters.{gathered_from, IsReceiptOf}
use Rattle.gl_live.specs.declared.faults.LiveFault.{LiveFault}
use Rattle.gl_live.specs.declared.run.Ran.{Ran}
use Rattle.gl_live.specs.declared.session.Session.{Session}

-- there were so many shards; and where nothing went wrong, the workers that are done are those of the feeds that were ended, shard by shard
pub record HasRun (shards : ℕ) (g : Gathering) (served : List Worked) : Type 0 where
  pub shards_are : length served ≡ shards
  pub feeds : g.fault ≡ None → map (λ s. s.feed) served ≡ map (λ s. s.feed) g.sent

-- what a session leaves, which has so many lanes, once it has recorded these lists; or why it leaves nothing
pub record HasRecordedLists
    (session : Session) (lanes : ℕ) (lists : List (List Event)) (ran : Result Ran LiveFault)
    : Type 0 where
  pub run : IfOk ran (λ r. HasRun (length session.outlets.items) r.gathered r.served.items)
  pub threads : IfOk ran (λ r. r.gathered.limits.threads ≡ lanes)
  pub receipts : IfOk ran (λ r. All (IsReceiptOf (gathered_from r.gathered) lists) r.receipts.items)
  pub fault : (all : List (List Event)) → IfErr ran (IsLiveFault all)
