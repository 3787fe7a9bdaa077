-- What a worker knows of its feed, message by message.
use Rattle.std.proofs.Common.{◌≡◌, false, List, [], ◌∷◌, ◌++◌, Option, Some, IfSome, sym, ap, subst, ◌∙◌}
use Rattle.crossbeam_channel.specs.Claims.{Pass, view, IsSeatAt}
use Rattle.crossbeam_channel.specs.Ends.{receives_on}
use Rattle.crossbeam_channel.specs.declared.flavors.array.ruled.Receiving.{Receiving}
use Rattle.gl_edges.specs.Edges.{once}
use Rattle.gl_edges.specs.declared.edge.Edge.{Edge}
use Rattle.gl_edges.specs.declared.edge.Sample.{Sample}
use Rattle.gl_edges.proofs.Membership.{contains_none}
use Rattle.gl_shards.specs.declared.rule.Message.{Message}
use Rattle.gl_shards.specs.declared.rule.Message.TheVariants.{Pair, Ended}
use Rattle.gl_shards.specs.declared.rule.Traffic.{Traffic}
use Rattle.gl_shards.specs.Ends.{Channel, IsFresh, IsServing, HasServed}
use Rattle.gl_shards.specs.Feeds.{feed_of, received_by}
use Rattle.gl_shards.specs.Rule.{traffic, and_got, pairs_in, HasEndMark}
use Rattle.gl_edges.proofs.Filling.{once_of_none}
use Rattle.gl_shards.proofs.Messages.{pair_more, end_more, still_open, now_ended}

module _ {Q M L A B : Type 0} (receiver : Receiving (Channel Q M L A) B) where
  -- two passes of one channel name one feed
  pub same_feed : (old new : Pass Message Traffic) → IsSeatAt (receives_on receiver) old → IsSeatAt (receives_on receiver) new → feed_of new ≡ feed_of old
  same_feed old new was is = λ i. record { turns = (is.0 ∙ sym was.0) i; places = (is.1 ∙ sym was.1) i }

  -- nothing was received yet
  pub starts : (pass : Pass Message Traffic) (table : List (Edge × Sample)) → IsFresh receiver pass → table ≡ [] → IsServing receiver pass (Some table)
  starts pass table fresh empty =
      let none : (view pass).received ≡ [] = ap (λ known. known.received) fresh.knows in
      record {
        seat = fresh.seat;
        receives = ap (λ known. known.receives) fresh.knows;
        not_ended = λ ended. contains_none Ended (subst HasEndMark none ended);
        filled = empty ∙ sym once_of_none ∙ ap (λ messages. once (pairs_in messages)) (sym none);
      }

  -- an edge was received
  pub goes_on : (old new : Pass Message Traffic) (table more : Option (List (Edge × Sample))) (message : Message) (pair : Edge × Sample)
      → IsServing receiver old table
      → IsSeatAt (receives_on receiver) new
      → view new ≡ and_got (view old) message
      → message ≡ Pair pair
      → ((pairs : List (Edge × Sample)) → IfSome table (λ filled. filled ≡ once pairs) → IfSome more (λ filled. filled ≡ once (pairs ++ pair ∷ [])))
      → IsServing receiver new more
  goes_on old new table more message pair serving seat got is filled =
      let received : (view new).received ≡ (view old).received ++ Pair pair ∷ [] = ap (λ known. known.received) got ∙ ap (λ last. (view old).received ++ last ∷ []) is in
      let pairs : received_by new ≡ received_by old ++ pair ∷ [] = ap pairs_in received ∙ pair_more (view old).received pair in
      record {
        seat = seat;
        receives = ap (λ known. known.receives) got ∙ serving.receives;
        not_ended = λ ended. still_open (view old).received pair serving.not_ended (subst HasEndMark received ended);
        filled = subst (λ all. IfSome more (λ filled. filled ≡ once all)) (sym pairs) (filled (received_by old) serving.filled);
      }

  -- the end mark was received
  pub ends : (old new : Pass Message Traffic) (table : Option (List (Edge × Sample))) (message : Message)
      → IsServing receiver old table
      → IsSeatAt (receives_on receiver) new
      → view new ≡ and_got (view old) message
      → message ≡ Ended
      → HasServed new false table
  ends old new table message serving seat got is =
      let received : (view new).received ≡ (view old).received ++ Ended ∷ [] = ap (λ known. known.received) got ∙ ap (λ last. (view old).received ++ last ∷ []) is in
      let pairs : received_by new ≡ received_by old = ap pairs_in received ∙ end_more (view old).received in
      record {
        free = seat.2;
        receives = ap (λ known. known.receives) got ∙ serving.receives;
        ended = λ _. subst HasEndMark (sym received) (now_ended (view old).received);
        not_ended = λ cut. absurd (cc);
        filled = subst (λ all. IfSome table (λ filled. filled ≡ once all)) (sym pairs) serving.filled;
      }
