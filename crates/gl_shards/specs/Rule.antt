-- The rule of a feed, between the messages that were sent, those that were received and those on the way.
use Rattle.std.specs.Prelude.{◌≡◌, ℕ, Bool, true, List, [], ◌∷◌, ◌++◌, Contains}
use mathlib.Core.Option.{some}
use lib.ListN.{get_elem?}
use Rattle.gl_edges.specs.declared.edge.Edge.{Edge}
use Rattle.gl_edges.specs.declared.edge.Sample.{Sample}
use Rattle.gl_shards.specs.declared.rule.Message.{Message}
use Rattle.gl_shards.specs.declared.rule.Message.TheVariants.{Pair, Ended}
use Rattle.gl_shards.specs.declared.rule.Traffic.{Traffic}

-- the edges among these messages, with their samples
abbrev pub pairs_in : List Message → List (Edge × Sample)
pairs_in [] = []
pairs_in (Pair pair ∷ messages) = pair ∷ pairs_in messages
pairs_in (Ended ∷ messages) = pairs_in messages

-- nothing follows an end mark
abbrev pub EndsLast : List Message → Type 0
EndsLast messages = (before after : List Message) → messages ≡ before ++ Ended ∷ after → after ≡ []

-- the end mark is among these messages
abbrev pub HasEndMark : List Message → Type 0
HasEndMark messages = Contains messages Ended

abbrev pub traffic : Bool → Bool → List Message → List Message → Traffic
traffic sends receives sent received =
    record { sends = sends; receives = receives; sent = sent; received = received }

-- what a pass knows that has sent a message more
abbrev pub and_sent : Traffic → Message → Traffic
and_sent known message =
    traffic known.sends known.receives (known.sent ++ message ∷ []) known.received

-- what a pass knows that has received a message more
abbrev pub and_got : Traffic → Message → Traffic
and_got known message =
    traffic known.sends known.receives known.sent (known.received ++ message ∷ [])

-- a pass that may send is this sender, and knows what was sent; one that may receive is this receiver, and knows what was received
pub record Fits (sender receiver : ℕ) (sent received : List Message) (pass : ℕ)
    (known : Traffic) : Type 0 where
  pub as_sender : known.sends ≡ true → (pass ≡ sender) × (known.sent ≡ sent)
  pub as_receiver : known.receives ≡ true → (pass ≡ receiver) × (known.received ≡ received)

-- the rule, of the messages in the feed, oldest first, and of what each pass knows
pub record IsInOrder (messages : List Message) (passes : List Traffic) : Type 0 where
  -- the numbers of the passes
  pub sender : ℕ
  pub receiver : ℕ
  -- what they did
  pub sent : List Message
  pub received : List Message
  -- what was sent is what was received, and then what the feed holds
  pub whole : sent ≡ received ++ messages
  -- nothing follows an end mark
  pub ends_last : EndsLast sent
  -- one pass at most sends, and one receives
  pub each : (pass : ℕ) (known : Traffic) → get_elem? passes pass ≡ some known
      → Fits sender receiver sent received pass known

-- what who has both passes learns: what was received begins what was sent, and is all of it where the end mark was received
pub record IsReceived (sent received messages : List Message) : Type 0 where
  pub whole : sent ≡ received ++ messages
  pub all : HasEndMark received → sent ≡ received
