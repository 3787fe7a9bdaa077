-- The edges among the messages of a feed.
use Rattle.std.proofs.Common.{◌≡◌, inl, inr, true, List, [], ◌∷◌, ◌++◌, sym, refl, ap, subst, ◌∙◌}
use Rattle.std.proofs.lemmas.List.{append-nil}
use Rattle.std.proofs.lemmas.List.Elements.{Contains-append_right, Contains-append_cases}
use mathlib.Core.List.{IsPrefix}
use Rattle.gl_edges.specs.declared.edge.Edge.{Edge}
use Rattle.gl_edges.specs.declared.edge.Sample.{Sample}
use Rattle.gl_edges.proofs.Membership.{contains_here, contains_cases, contains_none}
use Rattle.gl_shards.specs.declared.rule.Message.{Message}
use Rattle.gl_shards.specs.declared.rule.Message.TheVariants.{Pair, Ended}
use Rattle.gl_shards.specs.declared.rule.Traffic.{Traffic}
use Rattle.gl_shards.specs.Rule.{pairs_in, traffic, and_sent, HasEndMark, IsReceived}

-- the edges of messages one after the other
pub pairs_appended : (xs ys : List Message) → pairs_in (xs ++ ys) ≡ pairs_in xs ++ pairs_in ys
pairs_appended [] ys = refl
pairs_appended (Pair pair ∷ xs) ys = ap (λ pairs. pair ∷ pairs) (pairs_appended xs ys)
pairs_appended (Ended ∷ xs) ys = pairs_appended xs ys

-- an edge more
pub pair_more : (messages : List Message) (pair : Edge × Sample) → pairs_in (messages ++ Pair pair ∷ []) ≡ pairs_in messages ++ pair ∷ []
pair_more messages pair = pairs_appended messages (Pair pair ∷ [])

-- an end mark more
pub end_more : (messages : List Message) → pairs_in (messages ++ Ended ∷ []) ≡ pairs_in messages
end_more messages = pairs_appended messages (Ended ∷ []) ∙ append-nil (pairs_in messages)

-- what the sender has sent after one edge more
pub sent_more : (old new : Traffic) (pair : Edge × Sample) → new ≡ and_sent old (Pair pair) → pairs_in new.sent ≡ pairs_in old.sent ++ pair ∷ []
sent_more old new pair is = ap (λ (known : Traffic). pairs_in known.sent) is ∙ pair_more old.sent pair

-- and after the end mark
pub sent_end : (old new : Traffic) → new ≡ and_sent old Ended → pairs_in new.sent ≡ pairs_in old.sent
sent_end old new is = ap (λ (known : Traffic). pairs_in known.sent) is ∙ end_more old.sent

-- an edge is no end mark
pub still_open : (messages : List Message) (pair : Edge × Sample) → ¬ HasEndMark messages → ¬ HasEndMark (messages ++ Pair pair ∷ [])
still_open messages pair none ended =
    elim (Contains-append_cases messages (Pair pair ∷ []) Ended ended) [
      | inl before ↦ none before
      | inr last ↦
          elim (contains_cases (Pair pair) Ended [] last) [
            | inl is ↦ absurd (cc)
            | inr none ↦ contains_none Ended none
          ]
    ]

-- the end mark came
pub now_ended : (messages : List Message) → HasEndMark (messages ++ Ended ∷ [])
now_ended messages = Contains-append_right messages (Ended ∷ []) Ended (contains_here Ended [])

-- the edges received begin those sent
pub received_begins : (sent received messages : List Message) → IsReceived sent received messages → IsPrefix (pairs_in received) (pairs_in sent)
received_begins sent received messages known = (pairs_in messages, sym (pairs_appended received messages) ∙ ap pairs_in (sym known.whole))

-- what who has both passes knows of what the sender sent and the receiver received
module _ (sent received : List Message) (known : Traffic) (is : known ≡ traffic true true sent received) (learned : (messages : List Message) × IsReceived known.sent known.received messages) where
  -- the receiver's part begins the sender's
  pub begins_sent : IsPrefix (pairs_in received) (pairs_in sent)
  begins_sent =
      subst (λ (t : Traffic). IsPrefix (pairs_in t.received) (pairs_in t.sent)) is (received_begins known.sent known.received learned.0 learned.1)

  -- and is all of it where it has the end mark
  pub all_of_sent : HasEndMark received → received ≡ sent
  all_of_sent ended =
      let whole : HasEndMark known.received → known.sent ≡ known.received = learned.1.all in
      sym (subst (λ (t : Traffic). HasEndMark t.received → t.sent ≡ t.received) is whole ended)
