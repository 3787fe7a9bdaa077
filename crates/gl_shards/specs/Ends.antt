-- What is known of the passes that a feed's ends hold.
use Rattle.std.specs.Prelude.{◌≡◌, Bool, true, false, List, [], Option, IfSome}
use Rattle.crossbeam_channel.specs.Claims.{Pass, view, IsSeatAt}
use Rattle.crossbeam_channel.specs.Ends.{sends_on, receives_on}
use Rattle.crossbeam_channel.specs.declared.flavors.array.Doing.{Doing}
use Rattle.crossbeam_channel.specs.declared.flavors.array.Key.{Key}
use Rattle.crossbeam_channel.specs.declared.flavors.array.Rows.{Rows}
use Rattle.crossbeam_channel.specs.declared.flavors.array.ruled.Sending.{Sending}
use Rattle.crossbeam_channel.specs.declared.flavors.array.ruled.Receiving.{Receiving}
use Rattle.atomic_table.specs.declared.badge.Badge.{Badge}
use Rattle.gl_edges.specs.Edges.{once}
use Rattle.gl_edges.specs.declared.edge.Edge.{Edge}
use Rattle.gl_edges.specs.declared.edge.Sample.{Sample}
use Rattle.gl_shards.specs.declared.rule.Message.{Message}
use Rattle.gl_shards.specs.declared.rule.Traffic.{Traffic}
use Rattle.gl_shards.specs.Feeds.{received_by}
use Rattle.gl_shards.specs.Rule.{traffic, HasEndMark}

-- the channel of a feed
abbrev pub Channel : Type 0 → Type 0 → Type 0 → Type 0 → Type 0
Channel Q M L A = Rows (Badge (Key Message)) (Doing Message Traffic) Q M (Key Message) L A

module _ {Q M L A B : Type 0} where
  -- a pass of this sender's channel, which sends
  pub record IsSender (sender : Sending (Channel Q M L A) B)
      (pass : Pass Message Traffic) : Type 0 where
    pub seat : IsSeatAt (sends_on sender) pass
    pub sends : (view pass).sends ≡ true

  -- the same, and the end mark was sent
  pub record HasSent (sender : Sending (Channel Q M L A) B)
      (pass : Pass Message Traffic) : Type 0 where
    pub is_sender : IsSender sender pass
    pub ended : HasEndMark (view pass).sent

  -- the same, and the end mark wasn't sent yet
  pub record IsOpen (sender : Sending (Channel Q M L A) B)
      (pass : Pass Message Traffic) : Type 0 where
    pub is_sender : IsSender sender pass
    pub not_ended : ¬ HasEndMark (view pass).sent

  -- a pass of this receiver's channel, which receives, and has received nothing yet
  pub record IsFresh (receiver : Receiving (Channel Q M L A) B)
      (pass : Pass Message Traffic) : Type 0 where
    pub seat : IsSeatAt (receives_on receiver) pass
    pub knows : view pass ≡ traffic false true [] []

  -- the same, and the table, if there was memory for it, has what was received, of which none is the end mark
  pub record IsServing (receiver : Receiving (Channel Q M L A) B) (pass : Pass Message Traffic)
      (table : Option (List (Edge × Sample))) : Type 0 where
    pub seat : IsSeatAt (receives_on receiver) pass
    pub receives : (view pass).receives ≡ true
    pub not_ended : ¬ HasEndMark (view pass).received
    pub filled : IfSome table (λ filled. filled ≡ once (received_by pass))

-- a worker's pass when it is done, with what it has made of the edges
pub record HasServed (pass : Pass Message Traffic) (cut : Bool)
    (table : Option (List (Edge × Sample))) : Type 0 where
  -- the pass keeps no place of the channel
  pub free : pass.me.1 ≡ []
  pub receives : (view pass).receives ≡ true
  -- receiving was cut off exactly where the end mark wasn't received
  pub ended : cut ≡ false → HasEndMark (view pass).received
  pub not_ended : cut ≡ true → ¬ HasEndMark (view pass).received
  -- the table, if there was memory for it, has what was received
  pub filled : IfSome table (λ filled. filled ≡ once (received_by pass))
