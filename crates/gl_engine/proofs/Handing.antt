-- What lanes hand over, note by note, and what stops a run.
use Rattle.std.proofs.Common.{◌≡◌, ℕ, Bool, ◌+◌, ◌<◌, ◌≤◌, List, [], ◌∷◌, ◌++◌, length, map, set, get_or, sym, ap, ◌∙◌, subst, append_assoc, arith, inl, inr}
use Rattle.std.specs.Prelude.{slice_get}
use mathlib.Core.List.{IsPrefix}
use Rattle.std.proofs.lemmas.Bool.{cases_eq}
use Rattle.std.proofs.lemmas.List.{append-nil, length-append, length-map, map-append}
use Rattle.gl_event.specs.Bounds.{Bounds}
use Rattle.gl_event.specs.declared.notes.Note.{Note}
use Rattle.gl_edges.specs.declared.edge.Edge.{Edge}
use Rattle.gl_edges.specs.declared.edge.Sample.{Sample}
use Rattle.gl_lane.specs.OwnLanes.{OwnPopping}
use Rattle.gl_shards.specs.Feeds.{Sending}
use Rattle.gl_world.proofs.Lists.{same_some, get_at, get_set_same, get_set_other}
use Rattle.gl_engine.specs.bodies.Breaking.{handed, HandOver, HasLagged, IsBlamed, IsGoneAt, IsPullFault, StopsWith}
use Rattle.gl_engine.specs.Collecting.{as_of, IsTurn}
use Rattle.gl_engine.specs.bodies.Sparing.{AddsEdges}
use Rattle.gl_engine.specs.declared.making.Making.{Making}
use Rattle.gl_engine.specs.Dealing.{dealt, made_by, AreDue}
use Rattle.gl_engine.specs.declared.gathered.RunFault.{RunFault}
use Rattle.gl_engine.specs.declared.gathered.RunFault.TheVariants.{Memory, Gone, Broken}
use Rattle.gl_engine.specs.declared.lane_input.LaneInput.{LaneInput}

pub prefix_same : {X : Type 0} (xs : List X) → IsPrefix xs xs
prefix_same xs = ([], append-nil xs)

pub prefix_on : {X : Type 0} (xs ys zs : List X) → IsPrefix xs ys → IsPrefix ys zs → IsPrefix xs zs
prefix_on xs ys zs a b = (a.0 ++ b.0, sym (append_assoc xs a.0 b.0) ∙ ap (λ l. l ++ b.0) a.1 ∙ b.1)

-- behind the same front
pub prefix_behind : {X : Type 0} (front xs ys : List X) → IsPrefix xs ys → IsPrefix (front ++ xs) (front ++ ys)
prefix_behind front xs ys a = (a.0, append_assoc front xs a.0 ∙ ap (λ l. front ++ l) a.1)

-- ---- a lane

-- its next note was popped
pub handed_popped : (old new : OwnPopping) (note : Note) → new.popped ≡ old.popped ++ note ∷ [] → IsPrefix old.left (note ∷ new.left) → IsPrefix (handed old) (handed new)
handed_popped old new note popped left =
    subst (IsPrefix (handed old)) (sym (append_assoc old.popped (note ∷ []) new.left) ∙ ap (λ l. l ++ new.left) (sym popped)) (prefix_behind old.popped old.left (note ∷ new.left) left)

-- no note was popped
pub handed_seen : (old new : OwnPopping) → new.popped ≡ old.popped → IsPrefix old.left new.left → IsPrefix (handed old) (handed new)
handed_seen old new popped left = subst (IsPrefix (handed old)) (ap (λ l. l ++ new.left) (sym popped)) (prefix_behind old.popped old.left new.left left)

-- ---- lanes

pub hand_over_same : (inputs : List LaneInput) → HandOver inputs inputs
hand_over_same inputs thread input at = record { input = input; here = at; first = prefix_same (handed input.lane) }

pub hand_over_then : (first second third : List LaneInput) → HandOver first second → HandOver second third → HandOver first third
hand_over_then first second third a b thread input at =
    let one = a thread input at in
    let two = b thread one.input one.here in
    record { input = two.input; here = two.here; first = prefix_on (handed input.lane) (handed one.input.lane) (handed two.input.lane) one.first two.first }

-- one lane has handed over more
pub hand_over_one : (inputs : List LaneInput) (i : ℕ) (was new : LaneInput) → i < length inputs → was ≡ get_or inputs i was → IsPrefix (handed was.lane) (handed new.lane) → HandOver inputs (set inputs i new)
hand_over_one inputs i was new within is more thread input at =
    elim (cases_eq i thread) [
      | inl same ↦
          let its : was ≡ input = same_some was input (sym (get_at inputs i was within is) ∙ ap (slice_get inputs) same ∙ at) in
          record { input = new; here = ap (slice_get (set inputs i new)) (sym same) ∙ get_set_same inputs i new within; first = subst (λ (r : LaneInput). IsPrefix (handed r.lane) (handed new.lane)) its more }
      | inr other ↦ record { input = input; here = get_set_other inputs i thread new other ∙ at; first = prefix_same (handed input.lane) }
    ]

-- ---- what is to blame

-- whatever comes later, the same note is to blame
pub blamed_later : (limits : Bounds) (before after : List LaneInput) (stream : List Note) (fault : RunFault) → HandOver before after → IsBlamed limits before stream fault → IsBlamed limits after stream fault
blamed_later limits before after stream Memory more is = tt
blamed_later limits before after stream (Gone shard) more is = tt
blamed_later limits before after stream (Broken thread why) more is =
    let later = more thread is.came.input is.came.here in
    record {
      taken = is.taken;
      note = is.note;
      told = is.told;
      came = record { input = later.input; here = later.here; first = prefix_on (is.taken ++ is.note ∷ []) (handed is.came.input.lane) (handed later.input.lane) is.came.first later.first };
      refused = is.refused;
    }

-- what goes wrong in a pull
pub blamed_pull : (thread : ℕ) (limits : Bounds) (inputs : List LaneInput) (stream : List Note) (fault : RunFault) → IsPullFault thread limits inputs stream fault → IsBlamed limits inputs stream fault
blamed_pull thread limits inputs stream Memory is = tt
blamed_pull thread limits inputs stream (Gone shard) is = absurd is
blamed_pull thread limits inputs stream (Broken number why) is = is.1

-- no lane is to blame for a worker that is gone
pub blamed_gone : (limits : Bounds) (inputs : List LaneInput) (stream : List Note) (made : List (Edge × Sample)) (sent : List (List (Edge × Sample))) (fault : RunFault) → IsGoneAt made sent fault → IsBlamed limits inputs stream fault
blamed_gone limits inputs stream made sent Memory is = tt
blamed_gone limits inputs stream made sent (Gone shard) is = tt
blamed_gone limits inputs stream made sent (Broken thread why) is = absurd is

-- ---- what was sent

-- where pulls go wrong, all was sent that was due before them
pub stops_pull : (thread : ℕ) (limits : Bounds) (inputs : List LaneInput) (spares : Bool) (first stream : List Note) (outlets : List Sending) (fault : RunFault) → IsPullFault thread limits inputs stream fault
    → IsTurn 64 thread first stream → (due : List (Edge × Sample)) → AreDue spares (made_by first) due → map (λ o. o.sent) outlets ≡ dealt (length outlets) due
    → StopsWith spares first stream (map (λ o. o.sent) outlets) fault
stops_pull thread limits inputs spares first stream outlets fault is turn due are_due sent = by fault is
  where
    lagged : HasLagged spares first stream (map (λ o. o.sent) outlets) thread
    lagged = record {
      before = first;
      later = prefix_same first;
      turn = turn;
      due = due;
      are_due = are_due;
      dealt_are = sent ∙ ap (λ n. dealt n due) (sym (length-map outlets (λ (o : Sending). o.sent)));
    }

    by : (fault : RunFault) → IsPullFault thread limits inputs stream fault → StopsWith spares first stream (map (λ o. o.sent) outlets) fault
    by Memory is = (thread, lagged)
    by (Gone shard) is = absurd is
    by (Broken number why) is = subst (HasLagged spares first stream (map (λ o. o.sent) outlets)) (sym is.0) lagged

-- shipping stops at a worker that is gone
pub stops_gone : (spares : Bool) (first stream : List Note) (due : List (Edge × Sample)) (sent : List (List (Edge × Sample))) (fault : RunFault) → AreDue spares (made_by stream) due → IsGoneAt due sent fault
    → StopsWith spares first stream sent fault
stops_gone spares first stream due sent Memory are_due is = absurd is
stops_gone spares first stream due sent (Gone shard) are_due is = record { due = due; are_due = are_due; stopped = is }
stops_gone spares first stream due sent (Broken thread why) are_due is = absurd is

-- and the run had begun with fewer notes
lagged_since : (spares : Bool) (early first stream : List Note) (sent : List (List (Edge × Sample))) (thread : ℕ) → IsPrefix early first → HasLagged spares first stream sent thread
    → HasLagged spares early stream sent thread
lagged_since spares early first stream sent thread more is = record {
  before = is.before;
  later = prefix_on early first is.before more is.later;
  turn = is.turn;
  due = is.due;
  are_due = is.are_due;
  dealt_are = is.dealt_are;
}

pub stops_since : (spares : Bool) (early first stream : List Note) (sent : List (List (Edge × Sample))) → IsPrefix early first → (fault : RunFault) → StopsWith spares first stream sent fault
    → StopsWith spares early stream sent fault
stops_since spares early first stream sent more Memory is = (is.0, lagged_since spares early first stream sent is.0 more is.1)
stops_since spares early first stream sent more (Gone shard) is = is
stops_since spares early first stream sent more (Broken thread why) is = lagged_since spares early first stream sent thread more is

-- ---- pulls off one lane

-- none yet
pub pulled_none : (thread : ℕ) (stream : List Note) → IsTurn 0 thread stream stream
pulled_none thread stream = record { notes = []; few = omega arith; joined = append-nil stream }

-- some, and then some more
pub pulled_on : (one two both thread : ℕ) (before between after : List Note) → one + two ≤ both → IsTurn one thread before between → IsTurn two thread between after → IsTurn both thread before after
pulled_on one two both thread before between after within a b = record {
  notes = a.notes ++ b.notes;
  few = (let f = a.few in let g = b.few in omega (arith, length-append a.notes b.notes, f, g, within));
  joined = ap (λ notes. before ++ notes) (map-append (as_of thread) a.notes b.notes)
      ∙ sym (append_assoc before (map (as_of thread) a.notes) (map (as_of thread) b.notes))
      ∙ ap (λ notes. notes ++ map (as_of thread) b.notes) a.joined
      ∙ b.joined;
}

-- what was collected before comes first
pub pulled_prefix : (most thread : ℕ) (before after : List Note) → IsTurn most thread before after → IsPrefix before after
pulled_prefix most thread before after is = (map (as_of thread) is.notes, is.joined)

-- all edges due are shipped or among those made, where none were made before
pub added_all : (before after : List Note) (making more : Making) (due : List (Edge × Sample)) → making.made.items ≡ [] → AreDue making.spares (made_by before) due → AddsEdges before making after more
    → AreDue making.spares (made_by after) (due ++ more.made.items)
added_all before after making more due none are adds = adds.due due (subst (AreDue making.spares (made_by before)) (sym (ap (λ pairs. due ++ pairs) none ∙ append-nil due)) are)
