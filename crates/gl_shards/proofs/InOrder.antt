-- Each move of a feed's passes keeps its rule.
use Rattle.std.proofs.Common.{◌≡◌, ◌≢◌, ℕ, zero, suc, true, false, true≢false, List, [], ◌∷◌, ◌++◌, length, set, inl, inr, sym, refl, ap, ◌∙◌, subst, ⊎_elim, append_assoc}
use Rattle.std.proofs.lemmas.List.{append-nil}
use mathlib.Core.Option.{some, some-injective, some-ne-none}
use lib.ListN.{get_elem?}
use Rattle.atomic_table.proofs.Lists.{at_set, at_snoc}
use Rattle.crossbeam_channel.specs.Fifo.{Pushes, Pops, Forks, Merges, Learns}
use Rattle.gl_edges.proofs.Membership.{contains_here, contains_later, contains_cases, contains_none}
use Rattle.gl_shards.specs.declared.rule.Message.{Message}
use Rattle.gl_shards.specs.declared.rule.Message.TheVariants.{Ended}
use Rattle.gl_shards.specs.declared.rule.Traffic.{Traffic}
use Rattle.gl_shards.specs.Rule.{traffic, EndsLast, HasEndMark, Fits, IsInOrder, IsReceived}

-- ---- end marks

-- among no messages there is no end mark
nothing_ends : EndsLast []
nothing_ends [] after is = absurd (cc)
nothing_ends (message ∷ before) after is = absurd (cc)

-- nothing follows the end mark in the rest of the messages either
rest_ends_last : (message : Message) (messages : List Message) → EndsLast (message ∷ messages) → EndsLast messages
rest_ends_last message messages last before after is = last (message ∷ before) after (ap (λ rest. message ∷ rest) is)

-- a message more, where no end mark was sent
one_more : (messages : List Message) (message : Message) → ¬ HasEndMark messages → EndsLast (messages ++ message ∷ [])
one_more [] message none [] after is = cc
one_more [] message none (first ∷ before) after is = nothing_ends before after (cc)
one_more (first ∷ messages) message none [] after is = let same : Ended ≡ first = cc in absurd (none (subst (λ m. HasEndMark (m ∷ messages)) same (contains_here Ended messages)))
one_more (first ∷ messages) message none (other ∷ before) after is =
    one_more messages message (λ there. none (contains_later first Ended messages there)) before after (cc)

-- nothing comes after messages with an end mark
none_after : (messages after : List Message) → EndsLast (messages ++ after) → HasEndMark messages → after ≡ []
none_after [] after last ended = absurd (contains_none Ended ended)
none_after (first ∷ messages) after last ended =
    elim (contains_cases first Ended messages ended) [
      | inl is ↦ no_rest messages after (last [] (messages ++ after) (ap (λ m. m ∷ messages ++ after) is))
      | inr later ↦ none_after messages after (rest_ends_last first (messages ++ after) last) later
    ]
  where
    no_rest : (xs ys : List Message) → xs ++ ys ≡ [] → ys ≡ []
    no_rest [] ys is = is
    no_rest (x ∷ xs) ys is = absurd (cc)

-- ---- passes

-- what holds of one pass holds of all
All : (ℕ → Traffic → Type 0) → List Traffic → Type 0
All F passes = (pass : ℕ) (known : Traffic) → get_elem? passes pass ≡ some known → F pass known

-- one pass knows something new
all_set : (F : ℕ → Traffic → Type 0) (passes : List Traffic) (pass : ℕ) (new : Traffic) → F pass new
    → ((other : ℕ) (known : Traffic) → other ≢ pass → get_elem? passes other ≡ some known → F other known) → (other : ℕ) (known : Traffic) → get_elem? (set passes pass new) other ≡ some known → F other known
all_set F passes pass new mine others other known at =
    elim (at_set passes pass other new known at) [
      | inl same ↦ subst (λ (p : ℕ × Traffic). F p.0 p.1) (λ i. (sym same.0 i, same.1 i)) mine
      | inr apart ↦ others other known apart.0 apart.1
    ]

-- a new pass is the last one
at_end : (passes : List Traffic) (new known : Traffic) (pass : ℕ) → get_elem? passes pass ≢ some known → get_elem? (passes ++ new ∷ []) pass ≡ some known → pass ≡ length passes
at_end [] new known zero other at = refl
at_end [] new known (suc pass) other at = absurd (some-ne-none known (sym at))
at_end (first ∷ passes) new known zero other at = absurd (other at)
at_end (first ∷ passes) new known (suc pass) other at = ap suc (at_end passes new known pass other at)

-- the first pass of a new feed
pub begins : IsInOrder [] (traffic true true [] [] ∷ [])
begins = record { sender = 0; receiver = 0; sent = []; received = []; whole = refl; ends_last = nothing_ends; each = only }
  where
    only : (pass : ℕ) (known : Traffic) → get_elem? (traffic true true [] [] ∷ []) pass ≡ some known → Fits 0 0 [] [] pass known
    only zero known at =
        subst (Fits 0 0 [] [] 0) (some-injective (traffic true true [] []) known at)
        (record { as_sender = λ _. (refl, refl); as_receiver = λ _. (refl, refl) })
    only (suc pass) known at = absurd (some-ne-none known (sym at))

-- the sender sends a message
pub sends : (room pass : ℕ) (known : Traffic) (message : Message) → known.sends ≡ true → ¬ HasEndMark known.sent
    → Pushes IsInOrder room pass known message (λ new. new ≡ traffic known.sends known.receives (known.sent ++ message ∷ []) known.received)
sends room pass known message may none messages passes fits kept at =
    let new : Traffic = traffic known.sends known.receives (known.sent ++ message ∷ []) known.received in
    let mine = kept.each pass known at in
    let sent = kept.sent ++ message ∷ [] in (
      new,
      record {
        sender = kept.sender;
        receiver = kept.receiver;
        sent = sent;
        received = kept.received;
        whole = ap (λ xs. xs ++ message ∷ []) kept.whole ∙ append_assoc kept.received messages (message ∷ []);
        ends_last = one_more kept.sent message (subst (λ xs. ¬ HasEndMark xs) (mine.as_sender may).1 none);
        each =
            all_set (Fits kept.sender kept.receiver sent kept.received) passes pass new
            (record { as_sender = λ _. ((mine.as_sender may).0, ap (λ xs. xs ++ message ∷ []) (mine.as_sender may).1); as_receiver = mine.as_receiver })
            (λ other theirs apart there.
            record {
              as_sender = λ sends. absurd (apart (((kept.each other theirs there).as_sender sends).0 ∙ sym (mine.as_sender may).0));
              as_receiver = (kept.each other theirs there).as_receiver;
            });
      },
      refl,
    )

-- the receiver receives one
pub receives : (pass : ℕ) (known : Traffic) → known.receives ≡ true
    → Pops IsInOrder pass known (λ message new. new ≡ traffic known.sends known.receives known.sent (known.received ++ message ∷ []))
receives pass known may message messages passes kept at =
    let new : Traffic = traffic known.sends known.receives known.sent (known.received ++ message ∷ []) in
    let mine = kept.each pass known at in
    let received = kept.received ++ message ∷ [] in (
      new,
      record {
        sender = kept.sender;
        receiver = kept.receiver;
        sent = kept.sent;
        received = received;
        whole = kept.whole ∙ sym (append_assoc kept.received (message ∷ []) messages);
        ends_last = kept.ends_last;
        each =
            all_set (Fits kept.sender kept.receiver kept.sent received) passes pass new
            (record { as_sender = mine.as_sender; as_receiver = λ _. ((mine.as_receiver may).0, ap (λ xs. xs ++ message ∷ []) (mine.as_receiver may).1) })
            (λ other theirs apart there.
            record {
              as_sender = (kept.each other theirs there).as_sender;
              as_receiver = λ receives. absurd (apart (((kept.each other theirs there).as_receiver receives).0 ∙ sym (mine.as_receiver may).0));
            });
      },
      refl,
    )

-- a pass that does both is cut into a sender and a receiver
pub forks : (pass : ℕ) (known : Traffic) → known.sends ≡ true → known.receives ≡ true
    → Forks IsInOrder pass known (traffic true false known.sent []) (traffic false true [] known.received)
forks pass known may_send may_receive messages passes kept at =
    let sender : Traffic = traffic true false known.sent [] in
    let receiver : Traffic = traffic false true [] known.received in
    let mine = kept.each pass known at in
    let cut : List Traffic = set passes pass sender in
    let Old : ℕ → Traffic → Type 0 = λ other theirs. (theirs.sends ≡ true → (other ≡ kept.sender) × (theirs.sent ≡ kept.sent)) × (theirs.receives ≢ true) in
    let old : (other : ℕ) (theirs : Traffic) → get_elem? cut other ≡ some theirs → Old other theirs =
    all_set Old passes pass sender ((λ _. mine.as_sender may_send), λ is. true≢false (sym is))
    (λ other theirs apart there. (
      (kept.each other theirs there).as_sender,
      λ receives. apart (((kept.each other theirs there).as_receiver receives).0 ∙ sym (mine.as_receiver may_receive).0),
    )) in
    record {
      sender = kept.sender;
      receiver = length cut;
      sent = kept.sent;
      received = kept.received;
      whole = kept.whole;
      ends_last = kept.ends_last;
      each =
          λ other theirs there.
          elim (at_snoc cut receiver theirs other there) [
            | inl was ↦ record { as_sender = (old other theirs was).0; as_receiver = λ receives. absurd ((old other theirs was).1 receives) }
            | inr is ↦
                record {
                  as_sender = λ sends. absurd (true≢false (sym (ap (λ (t : Traffic). t.sends) is ∙ sends)));
                  as_receiver =
                      λ receives. (
                        at_end cut receiver theirs other (λ was. (old other theirs was).1 receives) there,
                        ap (λ (t : Traffic). t.received) (sym is) ∙ (mine.as_receiver may_receive).1,
                      );
                }
          ];
    }

-- a sender takes in a receiver's pass
pub merges : (pass : ℕ) (known : Traffic) (spent : ℕ) (theirs : Traffic) → known.sends ≡ true → theirs.receives ≡ true
    → Merges IsInOrder pass known spent theirs (traffic true true known.sent theirs.received) (traffic false false [] [])
merges pass known spent theirs may_send may_receive messages passes kept at apart there =
    let both : Traffic = traffic true true known.sent theirs.received in
    let mine = kept.each pass known at in
    let joined : List Traffic = set passes pass both in
    let was : get_elem? passes spent ≡ some theirs = ⊎_elim (λ same. absurd (apart same.0)) (λ other. other.1) (at_set passes pass spent both theirs there) in
    let receiver = (kept.each spent theirs was).as_receiver may_receive in
    let Now : ℕ → Traffic → Type 0 = λ other known. other ≢ spent → Fits kept.sender pass kept.sent kept.received other known in
    let now : (other : ℕ) (known : Traffic) → get_elem? joined other ≡ some known → Now other known =
    all_set Now passes pass both (λ _. record { as_sender = λ _. mine.as_sender may_send; as_receiver = λ _. (refl, receiver.1) })
    (λ other known _ at unspent.
    record {
      as_sender = (kept.each other known at).as_sender;
      as_receiver = λ receives. absurd (unspent (((kept.each other known at).as_receiver receives).0 ∙ sym receiver.0));
    }) in
    record {
      sender = kept.sender;
      receiver = pass;
      sent = kept.sent;
      received = kept.received;
      whole = kept.whole;
      ends_last = kept.ends_last;
      each =
          all_set (Fits kept.sender pass kept.sent kept.received) joined spent (traffic false false [] [])
          (record { as_sender = λ is. absurd (true≢false (sym is)); as_receiver = λ is. absurd (true≢false (sym is)) })
          (λ other known unspent at. now other known at unspent);
    }

-- who has both knows what was received of what was sent
pub learns : (pass : ℕ) (known : Traffic) → known.sends ≡ true → known.receives ≡ true → Learns IsInOrder pass known (λ messages. IsReceived known.sent known.received messages)
learns pass known may_send may_receive messages passes kept at =
    let sent : known.sent ≡ kept.sent = ((kept.each pass known at).as_sender may_send).1 in
    let received : known.received ≡ kept.received = ((kept.each pass known at).as_receiver may_receive).1 in
    let whole : known.sent ≡ known.received ++ messages = sent ∙ kept.whole ∙ ap (λ xs. xs ++ messages) (sym received) in
    record {
      whole = whole;
      all =
          λ ended.
          let none = none_after kept.received messages (subst EndsLast kept.whole kept.ends_last) (subst HasEndMark received ended) in
          whole ∙ ap (λ rest. known.received ++ rest) none ∙ append-nil known.received;
    }
