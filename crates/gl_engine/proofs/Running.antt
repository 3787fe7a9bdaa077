-- A pull in a run, whose edges are added to those that are to be shipped.
use Rattle.std.proofs.Common.{◌≡◌, ℕ, suc, ◌+◌, ◌<◌, ◌≤◌, Bool, true, false, List, [], ◌∷◌, ◌++◌, length, map, set, get_or, Option, None, Some, Result, Ok, Err, refl, sym, ap, ◌∙◌, subst, append_assoc, arith, inl, inr}
use Rattle.std.specs.Prelude.{slice_get, IsOk, OnOk, IfErr, IfSome}
use Rattle.std.specs.List.{range_with_len}
use Rattle.std.specs.Option.{option_map}
use mathlib.Core.List.{IsPrefix}
use Rattle.std.proofs.Math.Seq.{map-set_same}
use Rattle.std.proofs.lemmas.Bool.{false≢true}
use Rattle.std.proofs.lemmas.List.{append-nil, length-append, length-map, length-set, map-set, map-append}
use Rattle.std.proofs.lemmas.Option.{slice_get-map}
use Rattle.gl_event.specs.Bounds.{Bounds}
use Rattle.gl_event.specs.declared.notes.Note.{Note}
use Rattle.gl_edges.specs.declared.edge.Edge.{Edge}
use Rattle.gl_edges.specs.declared.edge.Sample.{Sample}
use Rattle.gl_intake.specs.Stream.{has_ended}
use Rattle.gl_shards.specs.Feeds.{AllSent, Sending}
use Rattle.gl_shards.specs.Shards.{shard_of}
use Rattle.gl_shards.specs.Tables.{of_shard}
use Rattle.gl_shards.specs.declared.shard.TheConstants.{MAX_SHARDS}
use Rattle.gl_world.proofs.Lists.{same_some, get_at, get_set_same}
use Rattle.gl_engine.specs.Collecting.{Pulling, Side, as_of, IsTurn, IsSidePull}
use Rattle.gl_intake.specs.declared.notes.Refused.{Refused}
use Rattle.gl_engine.specs.bodies.Breaking.{first_of, HasStopped, IsBlamed, IsBroken, IsKeptFor, IsPullFault, TellsTaken}
use Rattle.gl_engine.specs.Dealing.{dealt, made_by}
use Rattle.gl_engine.specs.Keeping.{BreaksForCause, IsCollector, pulling_of, side_at}
use Rattle.gl_engine.specs.Gathering.{ReachShards}
use Rattle.gl_engine.specs.bodies.Shipping.{HaveShipped}
use Rattle.gl_engine.specs.bodies.Whole.{lane_of, HasMoved, KeepsUp, IsWhole, IsGathered}
use Rattle.std.proofs.lemmas.Simd.{map-map}
use Rattle.gl_engine.specs.declared.gathered.RunFault.{RunFault}
use Rattle.gl_engine.specs.declared.gathered.RunFault.TheVariants as kept
use Rattle.gl_engine.specs.declared.pulled.Pulled.{Pulled}
use Rattle.gl_engine.specs.declared.pulled.Pulled.TheVariants.{Empty, Event as Answered, Ended as Closing}
use Rattle.gl_engine.specs.declared.pulled.PullFault.{PullFault}
use Rattle.gl_engine.specs.declared.pulled.PullFault.TheVariants.{Broken, Memory as OutOfMemory}
use Rattle.gl_engine.specs.declared.lane_input.LaneInput.{LaneInput}
use Rattle.gl_engine.proofs.Dealt.{dealt_at, dealt_more}
use Rattle.gl_engine.proofs.Handing.{prefix_behind}
use Rattle.gl_engine.proofs.Sides.{collector_after, lane_same}

-- a lane that a pull found broken is so
broken_by : (limits : Bounds) (thread : ℕ) (old new : Side) (why : Refused) → IsSidePull limits thread old (Err (Broken why)) new → new.input.broken ≡ Some why
broken_by limits thread old new why (inl same) = ap (λ (s : Side). s.input.broken) same.1 ∙ same.0
broken_by limits thread old new why (inr has) = ap (λ (s : Side). s.input.broken) has.moved

module _ (limits : Bounds) (inputs : List LaneInput) (stream : List Note) (is : IsCollector limits inputs stream (made_by stream) limits)
    (thread : ℕ) (was new : LaneInput) (within : thread < length inputs) (here : was ≡ get_or inputs thread was) (later : List Note)
    (cause : BreaksForCause limits thread later new) (answer : Result Pulled PullFault)
    (tells : IsSidePull limits thread (side_at was stream (made_by stream)) answer (side_at new later (made_by later))) where
  pub kept_later : IsCollector limits (set inputs thread new) later (made_by later) limits
  kept_later = collector_after limits inputs stream (made_by stream) limits is thread was new within here later (made_by later) cause answer tells

  pub lanes_later : map lane_of (set inputs thread new) ≡ map lane_of inputs
  lanes_later = map-set_same lane_of inputs thread new was (lane_same limits inputs stream (made_by stream) limits is thread was new within here later (made_by later) answer tells ∙ ap lane_of here)

  pulled_same : later ≡ stream → IsTurn 1 thread stream later
  pulled_same same = record { notes = []; few = omega arith; joined = append-nil stream ∙ sym same }

  pulled_one : (note : Note) → later ≡ stream ++ as_of thread note ∷ [] → IsTurn 1 thread stream later
  pulled_one note grown = record { notes = note ∷ []; few = omega arith; joined = sym grown }

  grown_by : (answer : Result Pulled PullFault) → IsSidePull limits thread (side_at was stream (made_by stream)) answer (side_at new later (made_by later)) → IsTurn 1 thread stream later
  grown_by (Ok Empty) t = pulled_same (ap (λ (s : Side). s.stream) t.1)
  grown_by (Ok (Answered place)) t = pulled_one t.note (ap (λ (s : Side). s.stream) t.moved)
  grown_by (Ok (Closing count)) t = pulled_one t.note (ap (λ (s : Side). s.stream) t.moved)
  grown_by (Err (Broken why)) (inl same) = pulled_same (ap (λ (s : Side). s.stream) same.1)
  grown_by (Err (Broken why)) (inr has) = pulled_same (ap (λ (s : Side). s.stream) has.moved)
  grown_by (Err OutOfMemory) t = pulled_same (ap (λ (s : Side). s.stream) t.1)

  pub grown_later : IsTurn 1 thread stream later
  grown_later = grown_by answer tells

  longer : (note : Note) → later ≡ stream ++ note ∷ [] → length stream < length later
  longer note grown = omega (arith, ap length grown, length-append stream (note ∷ []))

  moved_by_answer : (taken : Bool) (answer : Result Pulled PullFault) → IsSidePull limits thread (side_at was stream (made_by stream)) answer (side_at new later (made_by later))
      → TellsTaken answer taken → HasMoved stream later taken
  moved_by_answer taken (Ok Empty) t told = subst (HasMoved stream later) (sym told) (ap (λ (s : Side). s.stream) t.1)
  moved_by_answer taken (Ok (Answered place)) t told = subst (HasMoved stream later) (sym told) (longer (as_of thread t.note) (ap (λ (s : Side). s.stream) t.moved))
  moved_by_answer taken (Ok (Closing count)) t told = subst (HasMoved stream later) (sym told) (longer (as_of thread t.note) (ap (λ (s : Side). s.stream) t.moved))
  moved_by_answer taken (Err fault) t told = absurd told

  -- where the pull took a note, there is one more
  pub moved_by : (taken : Bool) → TellsTaken answer taken → HasMoved stream later taken
  moved_by taken told = moved_by_answer taken answer tells told

  -- where the pull broke the lane, its front note is to blame
  pub blamed_now : (fault : RunFault) → IsKeptFor thread answer fault → IsPullFault thread limits (set inputs thread new) later fault
  blamed_now kept.Memory told = tt
  blamed_now (kept.Gone shard) told = absurd told
  blamed_now (kept.Broken number why) told =
      let broken : new.broken ≡ Some why = broken_by limits thread _ _ why (subst (λ a. IsSidePull limits thread (side_at was stream (made_by stream)) a (side_at new later (made_by later))) told.1 tells) in
      let stuck = cause why broken in
      let there : slice_get (set inputs thread new) thread ≡ Some new = get_set_same inputs thread new within in (
        told.0,
        subst (λ t. IsBroken limits (set inputs thread new) later t why) (sym told.0)
            (record {
              taken = new.lane.popped;
              note = stuck.note;
              told = kept_later.inputs_are.told thread new there;
              came = record { input = new; here = there; first = prefix_behind new.lane.popped (stuck.note ∷ []) new.lane.left stuck.front };
              refused = stuck.refused;
            }),
      )

-- ---- whether notes were collected

-- first maybe, and then not
pub moved_still : (before between later : List Note) (first then : Bool) → HasMoved before between first → HasMoved between later then → then ≡ false → HasMoved before later first
moved_still before between later first false a b is = subst (λ (notes : List Note). HasMoved before notes first) (sym b) a
moved_still before between later first true a b is = absurd (false≢true (sym is))

-- first surely, and then maybe
pub moved_first : (before between later : List Note) (first then : Bool) → HasMoved before between first → HasMoved between later then → first ≡ true → HasMoved before later first
moved_first before between later true true a b is = omega (arith, a, b)
moved_first before between later true false a b is = subst (λ (notes : List Note). length before < length notes) (sym b) a
moved_first before between later false then a b is = absurd (false≢true is)

-- not first, and then maybe
pub moved_then : (before between later : List Note) (first then : Bool) → HasMoved before between first → HasMoved between later then → first ≡ false → HasMoved before later then
moved_then before between later false then a b is = subst (λ (notes : List Note). HasMoved notes later then) a b
moved_then before between later true then a b is = absurd (false≢true (sym is))

-- surely then, whatever was first
pub moved_again : (before between later : List Note) (then : Bool) → IsPrefix before between → HasMoved between later then → then ≡ true → HasMoved before later true
moved_again before between later true more b is = omega (arith, b, ap length more.1, length-append before more.0)
moved_again before between later false more b is = absurd (false≢true is)

-- ---- what was shipped

-- lists that look alike in some way are as long
pub as_long : {X Y Z : Type 0} (f : X → Z) (g : Y → Z) (xs : List X) (ys : List Y) → map f xs ≡ map g ys → length xs ≡ length ys
as_long f g xs ys same = sym (length-map xs f) ∙ ap length same ∙ length-map ys g

module _ (outlets : List Sending) (k : ℕ) (was new : Sending) (here : was ≡ get_or outlets k was) where
  -- an edge more was shipped to its shard
  pub shipped_more : (pair : Edge × Sample) → 1 ≤ length outlets → k ≡ shard_of pair.0 (length outlets) → k < length outlets → new.sent ≡ was.sent ++ pair ∷ [] → (before : List (Edge × Sample))
      → HaveShipped outlets before → HaveShipped (set outlets k new) (before ++ pair ∷ [])
  shipped_more pair some its within sent before are =
      let n = length outlets in
      let old : was.sent ≡ of_shard n before k = same_some was.sent (of_shard n before k) (sym (slice_get-map (λ (o : Sending). o.sent) outlets k ∙ ap (option_map (λ (o : Sending). o.sent)) (get_at outlets k was within here)) ∙ ap (λ xs. slice_get xs k) are ∙ dealt_at n before k within) in
      map-set (λ (o : Sending). o.sent) outlets k new
      ∙ (λ i. set (are i) k ((sent ∙ ap (λ xs. xs ++ pair ∷ []) old) i))
      ∙ ap (λ j. set (dealt n before) j (of_shard n before j ++ pair ∷ [])) its
      ∙ sym (dealt_more n before pair (subst (λ j. j < n) its within))
      ∙ ap (λ m. dealt m (before ++ pair ∷ [])) (sym (length-set outlets k new))

  pub sent_same : new.sent ≡ was.sent → map (λ o. o.sent) (set outlets k new) ≡ map (λ o. o.sent) outlets
  sent_same same = map-set_same (λ (o : Sending). o.sent) outlets k new was (same ∙ ap (λ (o : Sending). o.sent) here)

  pub feeds_same : new.feed ≡ was.feed → map (λ o. o.feed) (set outlets k new) ≡ map (λ o. o.feed) outlets
  feeds_same same = map-set_same (λ (o : Sending). o.feed) outlets k new was (same ∙ ap (λ (o : Sending). o.feed) here)

-- where the feeds stay, there still is an outlet for each shard
pub shards_still : (outlets later : List Sending) → map (λ o. o.feed) later ≡ map (λ o. o.feed) outlets → ReachShards outlets → ReachShards later
shards_still outlets later feeds are =
    let count : length later ≡ length outlets = as_long (λ (o : Sending). o.feed) (λ (o : Sending). o.feed) later outlets feeds in
    record { some = omega (arith, are.some, count); fit = subst (λ n. n ≤ MAX_SHARDS) (sym count) are.fit }

-- shipping stopped at an edge, the next after those that were shipped before
pub stopped_at : (shards : ℕ) (before yielded left rest all : List (Edge × Sample)) (next : Edge × Sample) (was now : List (List (Edge × Sample))) (shard : ℕ) → yielded ++ left ≡ all → left ≡ next ∷ rest
    → was ≡ dealt shards (before ++ yielded) → now ≡ was → length was ≡ shards → shard ≡ shard_of next.0 shards → HasStopped (before ++ all) now shard
stopped_at shards before yielded left rest all next was now shard parts first dealt_are same count whose =
    let many : length now ≡ shards = ap length same ∙ count in
    record {
      shipped = before ++ yielded;
      stopped = record {
        next = next;
        rest = rest;
        parts = ap (λ pairs. before ++ pairs) (sym parts ∙ ap (λ pairs. yielded ++ pairs) first) ∙ sym (append_assoc before yielded (next ∷ rest));
        whose = whose ∙ ap (shard_of next.0) (sym many);
      };
      dealt_are = same ∙ dealt_are ∙ ap (λ n. dealt n (before ++ yielded)) (sym many);
    }

-- nothing was sent through these outlets
pub unsent_dealt : (outlets : List Sending) → ((shard : ℕ) (o : Sending) → slice_get outlets shard ≡ Some o → o.sent ≡ []) → HaveShipped outlets []
unfolding dealt
unsent_dealt outlets none = from 0 outlets none
  where
    from : (first : ℕ) (os : List Sending) → ((shard : ℕ) (o : Sending) → slice_get os shard ≡ Some o → o.sent ≡ []) → map (λ o. o.sent) os ≡ map (of_shard (length outlets) []) (range_with_len first (length os))
    from first [] none = refl
    from first (o ∷ os) none = (λ i. none 0 o refl i ∷ from (first + 1) os (λ shard p at. none (suc shard) p at) i)

-- an end of a lane more in a list
pub last_more : {X Y : Type 0} (f : X → Y) (xs : List X) (x : X) (ys : List X) → ys ≡ xs ++ x ∷ [] → map f ys ≡ map f xs ++ f x ∷ []
last_more f xs x ys is = ap (map f) is ∙ map-append f xs (x ∷ [])

-- what an Ok tells
pub when_ok : {X E : Type 0} (r : Result X E) (P : Type 0) → IsOk r → OnOk r P → P
when_ok (Ok x) P ok told = told
when_ok (Err e) P ok told = absurd (false≢true ok)

-- ---- what was gathered

-- a run that kept up to the end has gathered all
pub all_whole : (limits : Bounds) (inputs : List LaneInput) (stream : List Note) (outlets : List Sending) (sent : List AllSent) (spares : Bool) → KeepsUp spares limits inputs stream outlets
    → ((thread : ℕ) → thread < limits.threads → has_ended thread stream ≡ true) → 1 ≤ length outlets → map (λ s. s.sent) sent ≡ map (λ o. o.sent) outlets → IsWhole limits inputs stream sent
all_whole limits inputs stream outlets sent spares keeps ended some are =
    let count : length sent ≡ length outlets = as_long (λ (s : AllSent). s.sent) (λ (o : Sending). o.sent) sent outlets are in
    record {
      collected = record { told = keeps.collector.inputs_are.told; in_order = keeps.collector.in_order; ended = ended };
      made_are = keeps.collector.made_are;
      some = omega (arith, some, count);
      due = keeps.due;
      table = keeps.are_due.table;
      shipped = are ∙ keeps.shipped ∙ ap (λ n. dealt n keeps.due) (sym count);
    }

-- what a collector's inputs show of their lanes
pub lanes_shown : (inputs : List LaneInput) → map (λ (p : Pulling). p.lane) (map pulling_of inputs) ≡ map lane_of inputs
lanes_shown inputs = map-map (λ (p : Pulling). p.lane) pulling_of inputs

-- what went wrong first is to blame
blamed_first : (limits : Bounds) (inputs : List LaneInput) (stream : List Note) (gathered : Result (Unit {0}) RunFault) (gone : Option ℕ) → IfErr gathered (IsBlamed limits inputs stream)
    → IfSome (first_of gathered gone) (IsBlamed limits inputs stream)
blamed_first limits inputs stream (Err fault) at_end blamed = blamed
blamed_first limits inputs stream (Ok done) None blamed = tt
blamed_first limits inputs stream (Ok done) (Some shard) blamed = tt

-- what a run keeps at its end, whatever went wrong
pub gathered_all : (limits collecting : Bounds) → collecting ≡ limits → (before inputs : List LaneInput) → length before ≡ limits.threads → map lane_of inputs ≡ map lane_of before → (stream : List Note) (given outlets : List Sending) (sent : List AllSent) (spares : Bool)
    → 1 ≤ length given → map (λ o. o.feed) outlets ≡ map (λ o. o.feed) given → (gathered : Result (Unit {0}) RunFault) (gone : Option ℕ) → OnOk gathered (KeepsUp spares collecting inputs stream outlets)
    → OnOk gathered ((thread : ℕ) → thread < collecting.threads → has_ended thread stream ≡ true) → (gone ≡ None → map (λ s. s.sent) sent ≡ map (λ o. o.sent) outlets)
    → IfErr gathered (IsBlamed collecting inputs stream) → (fault : Option RunFault) → fault ≡ first_of gathered gone → (fault ≡ None → IsOk gathered × (gone ≡ None)) → IsGathered limits inputs stream collecting sent fault
gathered_all limits collecting same before inputs count lanes stream given outlets sent spares some feeds gathered gone keeps all kept blamed fault first none = record {
  count = as_long lane_of lane_of inputs before lanes ∙ count;
  same_limits = same;
  whole = λ is.
      (let (ok, kept_ok) = none is in
      let many : length outlets ≡ length given = as_long (λ (o : Sending). o.feed) (λ (o : Sending). o.feed) outlets given feeds in
      subst (λ b. IsWhole b inputs stream sent) same
      (all_whole collecting inputs stream outlets sent spares (when_ok gathered _ ok keeps) (when_ok gathered _ ok all) (omega (arith, many, some)) (kept kept_ok)));
  blamed = subst (λ b. IfSome fault (IsBlamed b inputs stream)) same (subst (λ f. IfSome f (IsBlamed collecting inputs stream)) (sym first) (blamed_first collecting inputs stream gathered gone blamed));
}
