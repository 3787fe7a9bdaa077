-- Feeds that are ended, one after the other, and the first whose worker is gone.
use Rattle.std.proofs.Common.{◌≡◌, ℕ, ◌+◌, ◌<◌, Bool, true, false, not, cond, List, [], ◌∷◌, ◌++◌, length, map, Option, None, Some, Result, Ok, Err, refl, sym, ap, ◌∙◌, subst, arith, inl, inr}
use Rattle.std.specs.Prelude.{OnOk, IfErr}
use Rattle.std.specs.List.{filter, position_from}
use Rattle.std.proofs.lemmas.List.{append-nil, length-map, map-append}
use Rattle.std.proofs.lemmas.List.Elements.{filter-append}
use Rattle.std.proofs.lemmas.Option.{slice_get_within}
use Rattle.std.proofs.lemmas.Simd.{map-map}
use Rattle.gl_event.specs.Bounds.{Bounds}
use Rattle.gl_edges.specs.declared.edge.Edge.{Edge}
use Rattle.gl_edges.specs.declared.edge.Sample.{Sample}
use Rattle.gl_intake.specs.Stream.{has_ended, AreInOrder, IsRefusal}
use Rattle.gl_intake.specs.declared.notes.Refused.{Refused}
use Rattle.gl_shards.specs.Feeds.{AllSent, FeedId, Sending}
use Rattle.gl_world.proofs.Lists.{same_some}
use Rattle.gl_engine.specs.Dealing.{dealt}
use Rattle.gl_engine.specs.Collecting.{Collecting, as_of}
use Rattle.gl_engine.specs.Gathering.{Gathering, AreEnded, AreEndedAfter, HasCollectedAll, HasRunThrough, IsFoundBroken, IsFoundGone, IsLeftBy, IsStoppedAt, IsStoppedInTurn}
use Rattle.gl_engine.specs.bodies.Breaking.{first_of, HasLagged, HasStoppedIn, IsBlamed, IsBroken, StopsWith}
use Rattle.gl_engine.specs.bodies.Whole.{KeepsUp}
use Rattle.gl_engine.specs.declared.gathered.RunFault.{RunFault}
use Rattle.gl_engine.specs.declared.gathered.RunFault.TheVariants as kept
use Rattle.gl_engine.specs.declared.lane_input.LaneInput.{LaneInput}
use Rattle.gl_engine.proofs.Running.{as_long}

-- ---- the first place that passes a test, among some elements and one more

found_by : (passes : Bool) (at place : ℕ) (old new : Option ℕ) → (old ≡ Some place → new ≡ Some place) → cond passes (Some at) old ≡ Some place → cond passes (Some at) new ≡ Some place
found_by true at place old new on h = h
found_by false at place old new on h = on h

new_by : (passes : Bool) (at place : ℕ) (old new : Option ℕ) → (old ≡ None → new ≡ Some place) → cond passes (Some at) old ≡ None → cond passes (Some at) new ≡ Some place
new_by true at place old new on h = absurd (let e : Some at ≡ None = h in cc)
new_by false at place old new on h = on h

module _ {X : Type 0} (test : X → Bool) where
  -- the last one fails it
  position_kept : (i : ℕ) (xs : List X) (x : X) → test x ≡ false → position_from test i (xs ++ x ∷ []) ≡ position_from test i xs
  position_kept i [] x fails = rw fails refl
  position_kept i (y ∷ ys) x fails = ap (cond (test y) (Some i)) (position_kept (i + 1) ys x fails)

  -- one before passes it
  position_found : (i : ℕ) (xs : List X) (x : X) (place : ℕ) → position_from test i xs ≡ Some place → position_from test i (xs ++ x ∷ []) ≡ Some place
  position_found i [] x place h = absurd (let e : None ≡ Some place = h in cc)
  position_found i (y ∷ ys) x place h = found_by (test y) i place (position_from test (i + 1) ys) (position_from test (i + 1) (ys ++ x ∷ [])) (position_found (i + 1) ys x place) h

  -- the last one is the first that passes it
  position_new : (i : ℕ) (xs : List X) (x : X) → test x ≡ true → position_from test i xs ≡ None → position_from test i (xs ++ x ∷ []) ≡ Some (i + length xs)
  position_new i [] x passes none = rw passes (ap (λ k. Some k) (let same : i ≡ i + 0 = omega arith in same))
  position_new i (y ∷ ys) x passes none =
      new_by (test y) i (i + length (y ∷ ys)) (position_from test (i + 1) ys) (position_from test (i + 1) (ys ++ x ∷ []))
      (λ none. position_new (i + 1) ys x passes none ∙ ap (λ k. Some k) (let same : (i + 1) + length ys ≡ i + length (y ∷ ys) = omega arith in same)) none

-- where all workers are there, all feeds are kept
kept_by : {X : Type 0} (there : Bool) (x : X) (kept all : List X) (at : ℕ) (gone : Option ℕ) → (gone ≡ None → kept ≡ all) → cond (not there) (Some at) gone ≡ None → cond there (x ∷ kept) kept ≡ x ∷ all
kept_by true x kept all at later on h = ap (λ xs. x ∷ xs) (on h)
kept_by false x kept all at later on h = absurd (let e : Some at ≡ None = h in cc)

all_kept : (i : ℕ) (each : List (AllSent × Bool)) → position_from (λ e. not e.1) i each ≡ None → filter (λ e. e.1) each ≡ each
all_kept i [] none = refl
all_kept i (e ∷ each) none = kept_by e.1 e (filter (λ e. e.1) each) each i (position_from (λ e. not e.1) (i + 1) each) (all_kept (i + 1) each) none

-- ---- one feed more is ended

module _ (feeds : List FeedId) (sent : List (List (Edge × Sample))) (kept : List AllSent) where
  with_feed : (gone : Option ℕ) (are : AreEnded feeds sent kept gone) (e : AllSent × Bool) → map (λ e. e.0.feed) (are.each ++ e ∷ []) ≡ feeds ++ e.0.feed ∷ []
  with_feed first are e = map-append (λ (e : AllSent × Bool). e.0.feed) are.each (e ∷ []) ∙ ap (λ fs. fs ++ e.0.feed ∷ []) are.feeds_are

  with_sent : (gone : Option ℕ) (are : AreEnded feeds sent kept gone) (e : AllSent × Bool) → map (λ e. e.0.sent) (are.each ++ e ∷ []) ≡ sent ++ e.0.sent ∷ []
  with_sent first are e = map-append (λ (e : AllSent × Bool). e.0.sent) are.each (e ∷ []) ∙ ap (λ xs. xs ++ e.0.sent ∷ []) are.sent_are

  -- its worker is there
  ended_so : (gone : Option ℕ) → AreEnded feeds sent kept gone → (s : AllSent) → AreEnded (feeds ++ s.feed ∷ []) (sent ++ s.sent ∷ []) (kept ++ s ∷ []) gone
  ended_so first are s =
      let e : AllSent × Bool = (s, true) in
      record {
        each = are.each ++ e ∷ [];
        feeds_are = with_feed first are e;
        sent_are = with_sent first are e;
        kept_are = ap (λ xs. xs ++ s ∷ []) are.kept_are
            ∙ sym (map-append (λ (e : AllSent × Bool). e.0) (filter (λ e. e.1) are.each) (e ∷ []))
            ∙ sym (ap (map (λ (e : AllSent × Bool). e.0)) (filter-append (λ (e : AllSent × Bool). e.1) are.each (e ∷ [])));
        first = are.first ∙ sym (position_kept (λ (e : AllSent × Bool). not e.1) 0 are.each e refl);
      }

  pub ended_there : (gone : Option ℕ) → AreEnded feeds sent kept gone → (s : AllSent) (now : List AllSent) (feed : FeedId) (edges : List (Edge × Sample)) → now ≡ kept ++ s ∷ [] → s.feed ≡ feed → s.sent ≡ edges
      → AreEnded (feeds ++ feed ∷ []) (sent ++ edges ∷ []) now gone
  ended_there gone are s now feed edges kept_is feed_is sent_is =
      subst (λ f. AreEnded (feeds ++ f ∷ []) (sent ++ edges ∷ []) now gone) feed_is
      (subst (λ es. AreEnded (feeds ++ s.feed ∷ []) (sent ++ es ∷ []) now gone) sent_is
      (subst (λ xs. AreEnded (feeds ++ s.feed ∷ []) (sent ++ s.sent ∷ []) xs gone) (sym kept_is) (ended_so gone are s)))

  -- its worker is gone
  kept_without : (gone : Option ℕ) (are : AreEnded feeds sent kept gone) (s : AllSent) → kept ≡ map (λ e. e.0) (filter (λ e. e.1) (are.each ++ (s, false) ∷ []))
  kept_without first are s =
      are.kept_are ∙ ap (map (λ (e : AllSent × Bool). e.0)) (sym (append-nil (filter (λ e. e.1) are.each)) ∙ sym (filter-append (λ (e : AllSent × Bool). e.1) are.each ((s, false) ∷ [])))

  -- and one before is gone
  pub ended_later : (first : ℕ) → AreEnded feeds sent kept (Some first) → (feed : FeedId) (edges : List (Edge × Sample)) → AreEnded (feeds ++ feed ∷ []) (sent ++ edges ∷ []) kept (Some first)
  ended_later first are feed edges =
      let s : AllSent = record { feed = feed; sent = edges } in
      record {
        each = are.each ++ (s, false) ∷ [];
        feeds_are = with_feed (Some first) are (s, false);
        sent_are = with_sent (Some first) are (s, false);
        kept_are = kept_without (Some first) are s;
        first = sym (position_found (λ (e : AllSent × Bool). not e.1) 0 are.each (s, false) first (sym are.first));
      }

  -- and none before is gone
  pub ended_first : (shard : ℕ) → length feeds ≡ shard → AreEnded feeds sent kept None → (feed : FeedId) (edges : List (Edge × Sample)) → AreEnded (feeds ++ feed ∷ []) (sent ++ edges ∷ []) kept (Some shard)
  ended_first shard count are feed edges =
      let s : AllSent = record { feed = feed; sent = edges } in
      let many : length are.each ≡ shard = sym (length-map are.each (λ (e : AllSent × Bool). e.0.feed)) ∙ ap length are.feeds_are ∙ count in
      record {
        each = are.each ++ (s, false) ∷ [];
        feeds_are = with_feed None are (s, false);
        sent_are = with_sent None are (s, false);
        kept_are = kept_without None are s;
        first = ap (λ k. Some k) (let same : shard ≡ 0 + length are.each = omega (arith, many) in same) ∙ sym (position_new (λ (e : AllSent × Bool). not e.1) 0 are.each (s, false) refl (sym are.first));
      }

  -- where none is gone, all feeds are kept
  pub all_ended : AreEnded feeds sent kept None → (map (λ s. s.feed) kept ≡ feeds) × (map (λ s. s.sent) kept ≡ sent)
  all_ended are =
      let all : kept ≡ map (λ e. e.0) are.each = are.kept_are ∙ ap (map (λ (e : AllSent × Bool). e.0)) (all_kept 0 are.each (sym are.first)) in (
        ap (map (λ (s : AllSent). s.feed)) all ∙ map-map (λ (s : AllSent). s.feed) (λ (e : AllSent × Bool). e.0) are.each ∙ are.feeds_are,
        ap (map (λ (s : AllSent). s.sent)) all ∙ map-map (λ (s : AllSent). s.sent) (λ (e : AllSent × Bool). e.0) are.each ∙ are.sent_are,
      )

pub none_ended : AreEnded [] [] [] None
none_ended = record { each = []; feeds_are = refl; sent_are = refl; kept_are = refl; first = refl }

-- ---- how a run went

module _ (c : Collecting) (g : Gathering) (inputs : List LaneInput) (given outlets : List Sending) (feeds : map (λ o. o.feed) outlets ≡ map (λ o. o.feed) given) (limits : Bounds) (same : limits ≡ g.limits) (spares : Bool) where
  many : length outlets ≡ length given
  many = as_long (λ (o : Sending). o.feed) (λ (o : Sending). o.feed) outlets given feeds

  abbrev sent : List (List (Edge × Sample))
  sent = map (λ o. o.sent) outlets

  -- the feeds were ended after these edges were dealt
  ended_with : (shipped : List (Edge × Sample)) (gone : Option ℕ) → sent ≡ dealt (length given) shipped → AreEnded (map (λ o. o.feed) outlets) sent g.sent gone → AreEndedAfter given shipped g gone
  ended_with shipped gone are ended =
      subst (λ fs. AreEnded fs (dealt (length given) shipped) g.sent gone) feeds (subst (λ xs. AreEnded (map (λ o. o.feed) outlets) xs g.sent gone) are ended)

  count : length sent ≡ length given
  count = length-map outlets (λ (o : Sending). o.sent) ∙ many

  -- all was collected
  collected_all : KeepsUp spares limits inputs g.stream outlets → ((thread : ℕ) → thread < limits.threads → has_ended thread g.stream ≡ true) → HasCollectedAll g
  collected_all keeps all = record {
    in_order = subst (λ (b : Bounds). AreInOrder b g.stream) same keeps.collector.in_order;
    all_ended = subst (λ (b : Bounds). (thread : ℕ) → thread < b.threads → has_ended thread g.stream ≡ true) same all;
  }

  -- shipping stopped at a worker that was gone
  gone_shipping : (shard : ℕ) → HasStoppedIn spares g.stream sent shard → (gone : Option ℕ) → AreEnded (map (λ o. o.feed) outlets) sent g.sent gone → IsFoundGone spares given g shard
  gone_shipping shard has gone ended =
      inl (record {
        due = has.due;
        are_due = has.are_due;
        shipped = has.stopped.shipped;
        stopped = subst (λ n. IsStoppedAt n has.due has.stopped.shipped shard) count has.stopped.stopped;
        gone = gone;
        ended = ended_with has.stopped.shipped gone (has.stopped.dealt_are ∙ ap (λ n. dealt n has.stopped.shipped) count) ended;
      })

  -- a turn went wrong
  stopped_turn : (thread : ℕ) → HasLagged spares c.stream g.stream sent thread → (gone : Option ℕ) → AreEnded (map (λ o. o.feed) outlets) sent g.sent gone → IsStoppedInTurn spares c given g thread
  stopped_turn thread has gone ended = record {
    before = has.before;
    later = has.later;
    turn = has.turn;
    due = has.due;
    are_due = has.are_due;
    gone = gone;
    ended = ended_with has.due gone (has.dealt_are ∙ ap (λ n. dealt n has.due) count) ended;
  }

  -- a lane broke
  broken_at : length inputs ≡ g.limits.threads → (thread : ℕ) (why : Refused) → IsBroken limits inputs g.stream thread why → IsStoppedInTurn spares c given g thread → IsFoundBroken spares c given g thread why
  broken_at known thread why broken stopped = record {
    known = (let there = slice_get_within inputs thread broken.came.input broken.came.here in omega (arith, there, known));
    note = as_of thread broken.note;
    whose = refl;
    refused = subst (λ (b : Bounds). IsRefusal b g.stream (as_of thread broken.note) why) same broken.refused;
    stopped = stopped;
  }

  module _ (left : IsLeftBy c g) (known : length inputs ≡ g.limits.threads) where
    -- this went wrong as all was gathered
    stopped_by : (fault : RunFault) → g.fault ≡ Some fault → IsBlamed limits inputs g.stream fault → StopsWith spares c.stream g.stream sent fault → (gone : Option ℕ) → AreEnded (map (λ o. o.feed) outlets) sent g.sent gone → HasRunThrough spares c given g
    stopped_by kept.Memory is blamed stops gone ended = record {
      left = left;
      whole = λ none. absurd (let e : Some kept.Memory ≡ None = sym is ∙ none in cc);
      short = λ it. inr (stops.0, stopped_turn stops.0 stops.1 gone ended);
      gone = λ shard it. absurd (let e : kept.Memory ≡ kept.Gone shard = same_some _ _ (sym is ∙ it) in cc);
      broken = λ thread why it. absurd (let e : kept.Memory ≡ kept.Broken thread why = same_some _ _ (sym is ∙ it) in cc);
    }
    stopped_by (kept.Gone shard) is blamed stops gone ended = record {
      left = left;
      whole = λ none. absurd (let e : Some (kept.Gone shard) ≡ None = sym is ∙ none in cc);
      short = λ it. absurd (let e : kept.Gone shard ≡ kept.Memory = same_some _ _ (sym is ∙ it) in cc);
      gone = λ other it. (let its : shard ≡ other = (let e : kept.Gone shard ≡ kept.Gone other = same_some _ _ (sym is ∙ it) in cc) in subst (IsFoundGone spares given g) its (gone_shipping shard stops gone ended));
      broken = λ thread why it. absurd (let e : kept.Gone shard ≡ kept.Broken thread why = same_some _ _ (sym is ∙ it) in cc);
    }
    stopped_by (kept.Broken thread why) is blamed stops gone ended = record {
      left = left;
      whole = λ none. absurd (let e : Some (kept.Broken thread why) ≡ None = sym is ∙ none in cc);
      short = λ it. absurd (let e : kept.Broken thread why ≡ kept.Memory = same_some _ _ (sym is ∙ it) in cc);
      gone = λ shard it. absurd (let e : kept.Broken thread why ≡ kept.Gone shard = same_some _ _ (sym is ∙ it) in cc);
      broken = λ other reason it.
          (let e : kept.Broken thread why ≡ kept.Broken other reason = same_some _ _ (sym is ∙ it) in
          let its : thread ≡ other = (cc) in
          let so : why ≡ reason = (cc) in
          subst (λ t. IsFoundBroken spares c given g t reason) its (subst (IsFoundBroken spares c given g thread) so (broken_at known thread why blamed (stopped_turn thread stops gone ended))));
    }

    -- nothing did
    run_whole : g.fault ≡ None → KeepsUp spares limits inputs g.stream outlets → ((thread : ℕ) → thread < limits.threads → has_ended thread g.stream ≡ true) → AreEnded (map (λ o. o.feed) outlets) sent g.sent None → HasRunThrough spares c given g
    run_whole is keeps all ended = record {
      left = left;
      whole = λ none. record {
        collected = collected_all keeps all;
        feeds = (all_ended _ _ _ ended).0 ∙ feeds;
        due = keeps.due;
        are_due = keeps.are_due;
        shipped = (all_ended _ _ _ ended).1 ∙ keeps.shipped ∙ ap (λ n. dealt n keeps.due) many;
      };
      short = λ it. absurd (let e : None ≡ Some kept.Memory = sym is ∙ it in cc);
      gone = λ shard it. absurd (let e : None ≡ Some (kept.Gone shard) = sym is ∙ it in cc);
      broken = λ thread why it. absurd (let e : None ≡ Some (kept.Broken thread why) = sym is ∙ it in cc);
    }

    -- a worker was gone at the end
    run_gone : (first : ℕ) → g.fault ≡ Some (kept.Gone first) → KeepsUp spares limits inputs g.stream outlets → ((thread : ℕ) → thread < limits.threads → has_ended thread g.stream ≡ true)
        → AreEnded (map (λ o. o.feed) outlets) sent g.sent (Some first) → HasRunThrough spares c given g
    run_gone first is keeps all ended = record {
      left = left;
      whole = λ none. absurd (let e : Some (kept.Gone first) ≡ None = sym is ∙ none in cc);
      short = λ it. absurd (let e : kept.Gone first ≡ kept.Memory = same_some _ _ (sym is ∙ it) in cc);
      gone = λ shard it.
          (let its : first ≡ shard = (let e : kept.Gone first ≡ kept.Gone shard = same_some _ _ (sym is ∙ it) in cc) in
          let found : IsFoundGone spares given g first =
          inr (record {
            collected = collected_all keeps all;
            due = keeps.due;
            are_due = keeps.are_due;
            ended = ended_with keeps.due (Some first) (keeps.shipped ∙ ap (λ n. dealt n keeps.due) many) ended;
          }) in
          subst (IsFoundGone spares given g) its found);
      broken = λ thread why it. absurd (let e : kept.Gone first ≡ kept.Broken thread why = same_some _ _ (sym is ∙ it) in cc);
    }

    pub run_through : (gathered : Result (Unit {0}) RunFault) (gone : Option ℕ) → g.fault ≡ first_of gathered gone → OnOk gathered (KeepsUp spares limits inputs g.stream outlets)
        → OnOk gathered ((thread : ℕ) → thread < limits.threads → has_ended thread g.stream ≡ true) → IfErr gathered (IsBlamed limits inputs g.stream) → IfErr gathered (StopsWith spares c.stream g.stream sent)
        → AreEnded (map (λ o. o.feed) outlets) sent g.sent gone → HasRunThrough spares c given g
    run_through (Err fault) gone is keeps all blamed stops ended = stopped_by fault is blamed stops gone ended
    run_through (Ok done) None is keeps all blamed stops ended = run_whole is keeps all ended
    run_through (Ok done) (Some first) is keeps all blamed stops ended = run_gone first is keeps all ended
