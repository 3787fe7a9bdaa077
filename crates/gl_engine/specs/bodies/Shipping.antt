-- What is shipped through outlets, and what a run begins with.
use Rattle.std.specs.Prelude.{◌≡◌, ℕ, List, [], ◌++◌, length, map, Result, OnOk}
use Rattle.gl_edges.specs.declared.edge.Edge.{Edge}
use Rattle.gl_edges.specs.declared.edge.Sample.{Sample}
use Rattle.gl_intake.specs.Stream.{Collected}
use Rattle.gl_shards.specs.Feeds.{Sending}
use Rattle.gl_engine.specs.Dealing.{dealt, made_by}
use Rattle.gl_engine.specs.Gathering.{ReachShards}
use Rattle.gl_engine.specs.Keeping.{IsCollector}
use Rattle.gl_engine.specs.bodies.Sparing.{IsMadeOf}
use Rattle.gl_engine.specs.declared.making.Making.{Making}
use Rattle.gl_engine.specs.declared.lane_input.LaneInput.{LaneInput}

-- through each outlet those of these edges were sent that are its shard's, and no others
abbrev pub HaveShipped : List Sending → List (Edge × Sample) → Type 0
HaveShipped outlets pairs = map (λ o. o.sent) outlets ≡ dealt (length outlets) pairs

-- the feeds stay, and where all went well, these edges were shipped after those before
pub record Ships {A E : Type 0} (pairs : List (Edge × Sample)) (outlets later : List Sending)
    (result : Result A E) : Type 0 where
  pub feeds : map (λ o. o.feed) later ≡ map (λ o. o.feed) outlets
  pub shipped : (before : List (Edge × Sample)) → HaveShipped outlets before
      → OnOk result (HaveShipped later (before ++ pairs))

-- a run of so many threads can begin: these edges were made by what was collected, and nothing was shipped
pub record CanBegin (threads : ℕ) (collected : Collected) (inputs : List LaneInput)
    (making : Making) (outlets : List Sending) : Type 0 where
  pub all : threads ≡ collected.limits.threads
  pub collector : IsCollector collected.limits inputs collected.stream (made_by collected.stream)
      collected.limits
  pub making_is : IsMadeOf collected.stream making
  pub shards : ReachShards outlets
  pub unsent : HaveShipped outlets []
