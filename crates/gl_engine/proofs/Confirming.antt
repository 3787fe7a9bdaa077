-- What a receipt tells of what was collected.
use Rattle.std.proofs.Common.{◌≡◌, ◌≢◌, ℕ, zero, suc, ◌+◌, ◌<◌, ◌≤◌, eqb, leb, not, Bool, true, false, ◌||◌, List, [], ◌∷◌, ◌++◌, length, map, take, get_or, set, Some, None, refl, sym, ap, ◌∙◌, subst, append_assoc, arith, inl, inr}
use Rattle.std.specs.Prelude.{slice_get}
use mathlib.Core.List.{IsPrefix}
use Rattle.std.specs.List.{flat_map}
use Rattle.std.specs.Option.{option_map}
use Rattle.std.proofs.Math.Seq.{take-append_seam, map-set_same}
use Rattle.std.proofs.lemmas.Bool.{cases_lt, false≢true, eqb-true, eq-eqb, ne_eqb, or_parts, leb-false}
use Rattle.std.proofs.lemmas.List.{take_all, length-append}
use Rattle.std.proofs.lemmas.List.Folds.{Any-from_list_any, list_any_more, list_any_at}
use Rattle.std.proofs.lemmas.List.Folds.{flat_map-map}
use Rattle.std.proofs.lemmas.Simd.{map-map}
use Rattle.std.proofs.lemmas.List.FromFn.{length-map-range_with_len}
use Rattle.std.proofs.lemmas.Option.{slice_get-map, slice_get_within}
use Rattle.gl_event.specs.Bounds.{Bounds}
use Rattle.gl_event.specs.declared.notes.Note.{Note}
use Rattle.gl_intake.specs.Stream.{events_of, has_ended, logs_of, note_refusal}
use Rattle.gl_lane.specs.OwnLanes.{AllOwnPushed, OwnPopping}
use Rattle.gl_edges.specs.Edges.{once, edges}
use Rattle.gl_edges.specs.declared.edge.Edge.{Edge}
use Rattle.gl_edges.specs.declared.edge.Sample.{Sample}
use Rattle.gl_shards.specs.Feeds.{AllSent}
use Rattle.gl_shards.specs.Tables.{union}
use Rattle.gl_shards.proofs.Uniting.{union_of_once}
use Rattle.gl_world.specs.Machine.{Lane}
use Rattle.gl_world.specs.Keeping.{notes_of, IsLaneOf}
use Rattle.gl_world.proofs.Lists.{same_some, get_at, get_of_take, found_within}
use Rattle.gl_world.proofs.Sound.{told_events, ended_of_notes, front_is_next}
use Rattle.gl_intake.specs.declared.notes.Refused.{Refused}
use Rattle.gl_intake.proofs.Next.{none_of_next}
use Rattle.gl_engine.specs.bodies.Breaking.{handed, HandOver, IsBlamed, IsBroken}
use Rattle.gl_engine.specs.Collecting.{Pulling, as_of}
use Rattle.gl_engine.specs.Receipts.{has_receipt, is_strange, AreOfRecorders, AreOwnBelow, AreThereBelow}
use Rattle.gl_engine.specs.Keeping.{AreNotesOf, pulling_of}
use Rattle.gl_engine.specs.Recording.{Closed, recorded_whole}
use Rattle.gl_engine.specs.Settling.{AreListsOf, IsMemoryOrGone, IsSettled, fault_for}
use Rattle.gl_engine.specs.bodies.Whole.{lane_of, IsCollected, IsConfirmed, IsWhole}
use Rattle.gl_engine.specs.declared.gathered.RunFault.{RunFault}
use Rattle.gl_engine.specs.declared.gathered.RunFault.TheVariants as kept
use Rattle.gl_engine.specs.declared.lane_input.LaneInput.{LaneInput}
use Rattle.gl_engine.proofs.Dealt.{numbered_at, dealt_edges}
use Rattle.gl_engine.proofs.Handing.{prefix_on, handed_seen}

-- ---- a thread's lane and its receipt

-- whose end mark was collected has nothing left in its lane
all_popped : (limits : Bounds) (thread : ℕ) (stream : List Note) (lane : Lane) → IsLaneOf limits thread stream lane → has_ended thread stream ≡ true → length lane.pushed ≤ lane.popped
all_popped limits thread stream lane is ended =
    elim (cases_lt lane.popped (length lane.pushed)) [
      | inl left ↦
          let (note, at) = found_within lane.pushed lane.popped left in
          let next = is.in_order.each lane.popped note at in
          let running : has_ended thread (take lane.popped lane.pushed) ≡ false = subst (λ t. has_ended t (take lane.popped lane.pushed) ≡ false) (is.own lane.popped note at) next.running in
          let told : has_ended thread (take lane.popped lane.pushed) ≡ has_ended thread stream = ap (has_ended thread) (sym is.told) ∙ ended_of_notes thread stream in
          absurd (false≢true (sym running ∙ told ∙ ended))
      | inr none ↦ none
    ]

-- notes of the thread read as the thread's are as they were
as_own : (thread : ℕ) (notes : List Note) → ((place : ℕ) (note : Note) → slice_get notes place ≡ Some note → note.thread ≡ thread) → map (as_of thread) notes ≡ notes
as_own thread [] own = refl
as_own thread (n ∷ notes) own =
    let first : as_of thread n ≡ n = ap (λ t. as_of t n) (sym (own 0 n refl)) in
    (λ i. first i ∷ as_own thread notes (λ place note at. own (suc place) note at) i)

-- what was collected of a thread, where it begins what its recorder pushed
collected_first : (limits : Bounds) (thread : ℕ) (stream taken rest pushed : List Note) → AreNotesOf limits thread pushed → taken ++ rest ≡ pushed → notes_of thread stream ≡ map (as_of thread) taken
    → IsLaneOf limits thread stream (record { wishes = []; used = 0; pushed = pushed; popped = length taken })
collected_first limits thread stream taken rest pushed notes is told =
    let front : take (length taken) pushed ≡ taken = ap (take (length taken)) (sym is) ∙ take-append_seam taken rest in
    let own : (place : ℕ) (note : Note) → slice_get taken place ≡ Some note → note.thread ≡ thread =
    λ place note at. notes.own place note (get_of_take pushed (length taken) place note (ap (λ xs. slice_get xs place) front ∙ at)) in
    record { own = notes.own; in_order = notes.in_order; within = omega (arith, ap length is, length-append taken rest); told = told ∙ as_own thread taken own ∙ sym front }

-- the receipt's notes, as those of this thread under these limits
its_notes : (limits : Bounds) (thread : ℕ) (came : List Note) (r : Closed) → r.thread ≡ thread → r.limits ≡ limits → IsConfirmed came r → AreNotesOf limits thread r.pushed
its_notes limits thread came r its same is = subst (λ t. AreNotesOf limits t r.pushed) its (subst (λ b. AreNotesOf b r.thread r.pushed) same is.notes)

-- a thread with its receipt has had all collected that it recorded
pub all_recorded : (limits : Bounds) (thread : ℕ) (stream : List Note) (lane : OwnPopping) (r : Closed) → r.thread ≡ thread → r.limits ≡ limits → IsConfirmed (handed lane) r
    → notes_of thread stream ≡ map (as_of thread) lane.popped → has_ended thread stream ≡ true → events_of thread stream ≡ recorded_whole r
all_recorded limits thread stream lane r its same is told ended =
    let rest : List Note = lane.left ++ is.begins.0 in
    let whole : lane.popped ++ rest ≡ r.pushed = sym (append_assoc lane.popped lane.left is.begins.0) ∙ is.begins.1 in
    let its_lane : Lane = record { wishes = []; used = 0; pushed = r.pushed; popped = length lane.popped } in
    let of_lane : IsLaneOf limits thread stream its_lane = collected_first limits thread stream lane.popped rest r.pushed (its_notes limits thread (handed lane) r its same is) whole told in
    sym (told_events limits thread stream its_lane of_lane)
    ∙ ap (events_of thread) (take_all (length lane.popped) r.pushed (all_popped limits thread stream its_lane of_lane ended))
    ∙ ap (λ t. events_of t r.pushed) (sym its)

get_seam : {X : Type 0} (xs : List X) (x : X) (ys : List X) → slice_get (xs ++ x ∷ ys) (length xs) ≡ Some x
get_seam [] x ys = refl
get_seam (y ∷ xs) x ys = get_seam xs x ys

-- nor is a note to blame that came off its lane
none_to_blame : (limits : Bounds) (thread : ℕ) (stream taken : List Note) (note : Note) (why : Refused) (r : Closed) → r.thread ≡ thread → r.limits ≡ limits → IsConfirmed (taken ++ note ∷ []) r
    → notes_of thread stream ≡ map (as_of thread) taken → note_refusal limits stream (as_of thread note) ≡ Some why → ⊥
none_to_blame limits thread stream taken note why r its same is told refused =
    let rest : List Note = note ∷ is.begins.0 in
    let whole : taken ++ rest ≡ r.pushed = sym (append_assoc taken (note ∷ []) is.begins.0) ∙ is.begins.1 in
    let notes : AreNotesOf limits thread r.pushed = its_notes limits thread (taken ++ note ∷ []) r its same is in
    let lane : Lane = record { wishes = []; used = 0; pushed = r.pushed; popped = length taken } in
    let of_lane : IsLaneOf limits thread stream lane = collected_first limits thread stream taken rest r.pushed notes whole told in
    let here : slice_get r.pushed (length taken) ≡ Some note = ap (λ xs. slice_get xs (length taken)) (sym whole) ∙ get_seam taken note is.begins.0 in
    let own : as_of thread note ≡ note = ap (λ t. as_of t note) (sym (notes.own (length taken) note here)) in
    let next : note_refusal limits stream note ≡ None = none_of_next limits stream note (front_is_next limits thread stream lane of_lane (length taken) note here refl) in
    let clash : None ≡ Some why = sym next ∙ ap (note_refusal limits stream) (sym own) ∙ refused in
    cc

-- ---- inputs

pub input_at : (inputs : List LaneInput) (i : ℕ) (input : LaneInput) → i < length inputs → input ≡ get_or inputs i input → slice_get (map pulling_of inputs) i ≡ Some (pulling_of input)
input_at inputs i input within is = slice_get-map pulling_of inputs i ∙ ap (option_map pulling_of) (get_at inputs i input within is)

-- the inputs after one lane was confirmed
pub inputs_same : (inputs : List LaneInput) (i : ℕ) (input : LaneInput) (lane : OwnPopping) → input ≡ get_or inputs i input → lane.lane ≡ input.lane.lane → lane.popped ≡ input.lane.popped
    → map pulling_of (set inputs i (record input { lane = lane })) ≡ map pulling_of inputs
inputs_same inputs i input lane is same popped =
    let seen : pulling_of (record input { lane = lane }) ≡ pulling_of input = (λ j. record { lane = same j; popped = popped j; broken = input.broken }) in
    map-set_same pulling_of inputs i (record input { lane = lane }) input (seen ∙ ap pulling_of is)

-- a lane that was confirmed
pub confirmed_input : (inputs : List LaneInput) (i session thread : ℕ) (limits : Bounds) (input : LaneInput) (lane : OwnPopping) (f : AllOwnPushed) → i ≡ thread → i < length inputs → input ≡ get_or inputs i input
    → AreNotesOf limits thread f.pushed → lane.popped ≡ input.lane.popped → IsPrefix input.lane.left lane.left → lane.popped ++ lane.left ≡ f.pushed
    → (seen : LaneInput) → slice_get inputs thread ≡ Some seen → IsConfirmed (handed seen.lane) (record { session = session; thread = thread; limits = limits; lane = f.lane; pushed = f.pushed })
confirmed_input inputs i session thread limits input lane f its within is notes popped left whole seen at =
    let this : input ≡ seen = same_some input seen (sym (get_at inputs i input within is) ∙ ap (slice_get inputs) its ∙ at) in
    let more : IsPrefix (handed input.lane) f.pushed = subst (IsPrefix (handed input.lane)) whole (handed_seen input.lane lane popped left) in
    record { notes = notes; begins = subst (λ (r : LaneInput). IsPrefix (handed r.lane) f.pushed) this more }

-- what is confirmed of an input later is confirmed of it as it was before
pub confirmed_before : (before inputs : List LaneInput) → HandOver before inputs → (old r : Closed) → old ≡ r → (was : LaneInput) → slice_get before r.thread ≡ Some was
    → ((input : LaneInput) → slice_get inputs old.thread ≡ Some input → IsConfirmed (handed input.lane) old) → IsConfirmed (handed was.lane) r
confirmed_before before inputs more old r same was seen confirmed =
    let now = more r.thread was seen in
    let is : IsConfirmed (handed now.input.lane) r = subst (IsConfirmed (handed now.input.lane)) same (confirmed now.input (ap (λ (c : Closed). slice_get inputs c.thread) same ∙ now.here)) in
    record { notes = is.notes; begins = prefix_on (handed was.lane) (handed now.input.lane) r.pushed now.first is.begins }

-- ---- receipts

module _ (receipts : List Closed) (thread i : ℕ) (r : Closed) (within : i < length receipts) (at : r ≡ get_or receipts i r) (a b : ℕ) (its : a ≡ r.thread) (asked : b ≡ thread) where
  same_test : eqb (get_or receipts i r).thread thread ≡ eqb a b
  same_test = ap (λ (x : Closed). eqb x.thread thread) (sym at) ∙ (λ j. eqb (sym its j) (sym asked j))

  -- a receipt of the thread settles the question
  pub receipt_found : a ≡ b → true ≡ has_receipt receipts thread
  unfolding has_receipt
  receipt_found is = sym (list_any_at (λ r. eqb r.thread thread) receipts i r within (same_test ∙ eq-eqb a b is))

  -- another one doesn't
  pub receipt_past : a ≢ b → has_receipt (take i receipts) thread ≡ false → has_receipt (take (i + 1) receipts) thread ≡ false
  unfolding has_receipt
  receipt_past isnt before = list_any_more (λ r. eqb r.thread thread) receipts i r within ∙ (λ j. (before ∙ refl) j || (same_test ∙ ne_eqb a b isnt) j)

pub receipt_none : (thread : ℕ) → has_receipt [] thread ≡ false
unfolding has_receipt
receipt_none thread = refl

-- the receipt of a thread that has one
pub receipt_of_thread : (receipts : List Closed) (thread : ℕ) → has_receipt receipts thread ≡ true → (at : ℕ) × (r : Closed) × (slice_get receipts at ≡ Some r) × (r.thread ≡ thread)
unfolding has_receipt
receipt_of_thread receipts thread has =
    let (at, r, within, is, same) = Any-from_list_any (λ (r : Closed). eqb r.thread thread) receipts has in
    (at, r, get_at receipts at r within (sym is), eqb-true r.thread thread same)

-- ---- what isn't strange

not_false : (b : Bool) → not b ≡ false → b ≡ true
not_false true h = refl
not_false false h = absurd (cc)

pub not_strange : (session threads : ℕ) (before : List Closed) (r : Closed) → is_strange session threads before r ≡ false → (r.session ≡ session) × (r.thread < threads)
unfolding is_strange
not_strange session threads before r own =
    let (same, rest) = or_parts (not (eqb r.session session)) _ own in
    let (known, first) = or_parts (leb threads r.thread) _ rest in
    (eqb-true r.session session (not_false _ same), leb-false threads r.thread known)

-- what is seen of an input tells its lane
lane_seen : (inputs : List LaneInput) (i : ℕ) (input : Pulling) → slice_get (map pulling_of inputs) i ≡ Some input → slice_get (map lane_of inputs) i ≡ Some input.lane
lane_seen [] i input at = absurd (cc)
lane_seen (r ∷ inputs) zero input at = ap (λ (p : Pulling). Some p.lane) (same_some (pulling_of r) input at)
lane_seen (r ∷ inputs) (suc i) input at = lane_seen inputs i input at

-- ---- tables

-- the tables of all that was sent, taken together
pub union_sent : (tables : List (List (Edge × Sample))) (sent : List AllSent) → tables ≡ map (λ s. once s.sent) sent → union tables ≡ once (flat_map (λ s. s.sent) sent)
union_sent tables sent are =
    ap union (are ∙ sym (map-map once (λ (s : AllSent). s.sent) sent))
    ∙ union_of_once (map (λ s. s.sent) sent)
    ∙ ap once (flat_map-map (λ list. list) (λ (s : AllSent). s.sent) sent)

-- ---- all threads

module _ (limits : Bounds) (inputs : List LaneInput) (stream : List Note) (collected : IsCollected limits inputs stream) (count : length inputs ≡ limits.threads) (receipts : List Closed)
    (all : AreThereBelow receipts limits.threads)
    (known : (at : ℕ) (r : Closed) → slice_get receipts at ≡ Some r → r.thread < limits.threads)
    (same : (at : ℕ) (r : Closed) → slice_get receipts at ≡ Some r → r.limits ≡ limits)
    (confirmed : (at : ℕ) (r : Closed) (input : LaneInput) → slice_get receipts at ≡ Some r → slice_get inputs r.thread ≡ Some input → IsConfirmed (handed input.lane) r) where
  its_log : (at : ℕ) (r : Closed) → slice_get receipts at ≡ Some r → events_of r.thread stream ≡ recorded_whole r
  its_log at r here =
      let (input, found) = found_within inputs r.thread (let k = known at r here in omega (arith, count)) in
      all_recorded limits r.thread stream input.lane r refl (same at r here) (confirmed at r input here found) (collected.told r.thread input found) (collected.ended r.thread (known at r here))

  pub lists_settled : AreListsOf receipts (logs_of limits.threads stream)
  lists_settled = record {
    each = λ at r here. numbered_at (λ t. events_of t stream) 0 limits.threads r.thread (known at r here) ∙ ap Some (ap (λ t. events_of t stream) (let k : 0 + r.thread ≡ r.thread = omega arith in k) ∙ its_log at r here);
    one_each = λ thread within. all thread (omega (arith, within, length-map-range_with_len (λ t. events_of t stream) 0 limits.threads));
  }

-- ---- what was collected, with the receipts of the session

module _ (session : ℕ) (limits : Bounds) (inputs : List LaneInput) (receipts : List Closed) (count : length inputs ≡ limits.threads) (ours : AreOfRecorders session limits (map lane_of inputs) receipts)
    (own : AreOwnBelow session limits.threads receipts (length receipts)) where
  its_own : (at : ℕ) (r : Closed) → slice_get receipts at ≡ Some r → (r.session ≡ session) × (r.thread < limits.threads)
  its_own at r here = not_strange session limits.threads (take at receipts) r (own at r (slice_get_within receipts at r here) here)

  pub inputs_known : (at : ℕ) (r : Closed) → slice_get receipts at ≡ Some r → r.thread < length inputs
  inputs_known at r here = let k = (its_own at r here).1 in omega (arith, count)

  pub inputs_ours : (at : ℕ) (r : Closed) (input : Pulling) → slice_get receipts at ≡ Some r → slice_get (map pulling_of inputs) r.thread ≡ Some input → r.lane ≡ input.lane
  inputs_ours at r input here seen = (ours at r here (its_own at r here).0 input.lane (lane_seen inputs r.thread input seen)).0

  its_limits : (at : ℕ) (r : Closed) → slice_get receipts at ≡ Some r → r.limits ≡ limits
  its_limits at r here =
      let (input, found) = found_within inputs r.thread (inputs_known at r here) in
      (ours at r here (its_own at r here).0 input.lane.lane (slice_get-map lane_of inputs r.thread ∙ ap (option_map lane_of) found)).1

  -- each receipt was compared with its lane
  abbrev AreConfirmed : Type 0
  AreConfirmed = (at : ℕ) (r : Closed) (input : LaneInput) → slice_get receipts at ≡ Some r → slice_get inputs r.thread ≡ Some input → IsConfirmed (handed input.lane) r

  module _ (stream : List Note) (all : AreThereBelow receipts limits.threads) (confirmed : AreConfirmed) where
    -- the lists of what was collected are the receipts'
    pub inputs_listed : IsCollected limits inputs stream → (collecting : Bounds) → collecting ≡ limits → AreListsOf receipts (logs_of collecting.threads stream)
    inputs_listed collected collecting same =
        subst (λ (b : Bounds). AreListsOf receipts (logs_of b.threads stream)) (sym same)
        (lists_settled limits inputs stream collected count receipts all (λ at r here. (its_own at r here).1) its_limits confirmed)

    pub inputs_settled : (sent : List AllSent) → IsWhole limits inputs stream sent → (collecting : Bounds) → collecting ≡ limits → IsSettled receipts (logs_of collecting.threads stream) sent
    inputs_settled sent whole collecting same = record {
      lists_are = inputs_listed whole.collected collecting same;
      edges_are = subst (λ (b : Bounds). once (flat_map (λ s. s.sent) sent) ≡ edges (logs_of b.threads stream)) (sym same)
          (dealt_edges limits.threads stream sent (length sent) whole.due (omega (arith, whole.some)) whole.made_are whole.table whole.shipped);
    }

    never_broken : (thread : ℕ) (why : Refused) → IsBroken limits inputs stream thread why → ⊥
    never_broken thread why is =
        let within : thread < limits.threads = (let k = slice_get_within inputs thread is.came.input is.came.here in omega (arith, count)) in
        let (at, r, here, its) = receipt_of_thread receipts thread (all thread within) in
        let confirms : IsConfirmed (handed is.came.input.lane) r = confirmed at r is.came.input here (ap (slice_get inputs) its ∙ is.came.here) in
        let first : IsConfirmed (is.taken ++ is.note ∷ []) r = record { notes = confirms.notes; begins = prefix_on (is.taken ++ is.note ∷ []) (handed is.came.input.lane) r.pushed is.came.first confirms.begins } in
        none_to_blame limits thread stream is.taken is.note why r its (its_limits at r here) first is.told is.refused

    -- with its receipts, a run is left with no fault of a lane
    pub memory_or_gone : (f : RunFault) → IsBlamed limits inputs stream f → IsMemoryOrGone (fault_for f)
    memory_or_gone kept.Memory is = tt
    memory_or_gone (kept.Gone shard) is = tt
    memory_or_gone (kept.Broken thread why) is = absurd (never_broken thread why is)
