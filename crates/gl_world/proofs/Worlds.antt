-- A world's parts and its state, step by step.
use Rattle.std.proofs.Common.{◌≡◌, ◌≢◌, ℕ, Bool, true, false, cond, eqb, ◌+◌, ◌<◌, ◌≤◌, List, [], ◌∷◌, ◌++◌, length, map, set, get_or, Option, Some, None, refl, sym, ap, ◌∙◌, arith, subst, take, Vec, Global, ◌⊎◌, inl, inr}
use Rattle.std.specs.Prelude.{slice_get, Result, Ok, Err, IfOk, OnOk, OnErr, IsTrue}
use Rattle.std.specs.Option.{option_map, option_map_or}
use Rattle.std.proofs.lemmas.Bool.{cases_eq, eq-eqb, ne_eqb}
use Rattle.std.proofs.lemmas.List.{take_all, length-map, map-set}
use Rattle.std.proofs.lemmas.Option.{slice_get-map, slice_get_past, slice_get_within, get_or_from_slice_get}
use Rattle.gl_event.specs.Bounds.{Bounds, AreWithinRange}
use Rattle.gl_event.specs.declared.events.Event.{Event}
use Rattle.gl_event.specs.declared.notes.Note.{Note}
use Rattle.gl_intake.specs.Stream.{note_refusal, accepted_as}
use Rattle.gl_intake.specs.declared.notes.Refused.{Refused as Reason}
use Rattle.gl_intake.specs.declared.notes.Refused.TheVariants.{Memory}
use Rattle.gl_intake.proofs.Next.{none_of_next}
use Rattle.gl_edges.specs.declared.edge.Edge.{Edge}
use Rattle.gl_edges.specs.declared.edge.Sample.{Sample}
use Rattle.gl_world.specs.Dispatch.{Dispatch, Handled, fresh_dispatch, ship_turn, work_turn}
use Rattle.gl_world.specs.Machine.{Lane, State, Turn, Moved, fresh_lane, take_turn, end_turn, pop_note, after_turn, handled, idle, pull_note, again_note, answer_again, edges_due, add_edges, taken_of, step, run}
use Rattle.gl_world.specs.Enabled.{grows}
use Rattle.gl_world.specs.Keeping.{Keeper, AreKeepers, IsLaneOf, IsFrontOf, IsSound, IsWorld, lanes_kept}
use Rattle.gl_world.specs.declared.steps.Step.{Step}
use Rattle.gl_world.specs.declared.steps.Step.TheVariants.{Take, End, Pull, Again, Ship, Work}
use Rattle.gl_world.specs.declared.steps.Did.{Did}
use Rattle.gl_world.specs.declared.steps.Did.TheVariants.{Pulled, Refused}
use Rattle.gl_world.proofs.Lists.{same_some, take_more, get_set_same, get_set_other, found_within, get_at}
use Rattle.gl_world.proofs.Shippings.{ship_keeps_shards, work_keeps_shards}
use Rattle.gl_world.proofs.Sound.{sound_start, front_is_next, other_isnt_next, front_of}
use Rattle.gl_world.proofs.Schedules.{sound_step, sound_run, run_push}

abbrev pub state_of : Bounds → Dispatch → List Keeper → List Note → State
state_of limits dispatch keepers stream = record { limits = limits; lanes = lanes_kept keepers; stream = stream; dispatch = dispatch }

-- ---- one step of a state, case by case

module _ (s : State) (thread : ℕ) where
  pub take_unknown : length s.lanes ≤ thread → step s (Take thread) ≡ idle s
  unfolding step
  take_unknown strange = rw (slice_get_past s.lanes thread strange)

  pub end_unknown : length s.lanes ≤ thread → step s (End thread) ≡ idle s
  unfolding step
  end_unknown strange = rw (slice_get_past s.lanes thread strange)

  pub pull_unknown : length s.lanes ≤ thread → step s (Pull thread) ≡ idle s
  unfolding step
  pull_unknown strange = rw (slice_get_past s.lanes thread strange)

  pub again_unknown : (place : ℕ) → length s.lanes ≤ thread → step s (Again thread place) ≡ idle s
  unfolding step
  again_unknown place strange = rw (slice_get_past s.lanes thread strange)

  module _ (lane : Lane) (at : slice_get s.lanes thread ≡ Some lane) where
    take_known : step s (Take thread) ≡ after_turn s thread (take_turn s.limits thread lane)
    unfolding step
    take_known = rw at

    end_known : step s (End thread) ≡ after_turn s thread (end_turn s.limits thread lane)
    unfolding step
    end_known = rw at

    pub pull_known : (note : Option Note) → slice_get lane.pushed lane.popped ≡ note → step s (Pull thread) ≡ pull_note s thread lane note
    unfolding step
    pull_known found is = rw (at, is)

    pub again_known : (place : ℕ) (note : Option Note) → slice_get lane.pushed place ≡ note → step s (Again thread place) ≡ again_note s lane place note
    unfolding step
    again_known place found is = rw (at, is)

    same_by : (place : ℕ) → place ≡ lane.popped → (note : Option Note) → again_note s lane place note ≡ idle s
    same_by place same None = refl
    same_by place same (Some note) = rw (eq-eqb place lane.popped same)

    pub again_same : (place : ℕ) → place ≡ lane.popped → step s (Again thread place) ≡ idle s
    again_same place same = again_known place (slice_get lane.pushed place) refl ∙ same_by place same (slice_get lane.pushed place)

-- a note that isn't the next of its lane is refused
pub refused_as : (s : State) → IsSound s → (thread place : ℕ) (note : Note) → thread < length s.lanes
    → ((lane : Lane) → slice_get s.lanes thread ≡ Some lane → place ≢ lane.popped) → ((lane : Lane) → slice_get s.lanes thread ≡ Some lane → slice_get lane.pushed place ≡ Some note)
    → (why : Reason) → note_refusal s.limits s.stream note ≡ Some why → (let m : Moved = record { after = s; did = Refused why } in step s (Again thread place) ≡ m)
refused_as s sound thread place note known other there why is =
    let found = found_within s.lanes thread known in
    again_known s thread found.0 found.1 place (Some note) (there found.0 found.1) ∙ rw (ne_eqb place found.0.popped (other found.0 found.1), is)

pub never_next : (s : State) → IsSound s → (thread place : ℕ) (note : Note) → thread < length s.lanes
    → ((lane : Lane) → slice_get s.lanes thread ≡ Some lane → place ≢ lane.popped) → ((lane : Lane) → slice_get s.lanes thread ≡ Some lane → slice_get lane.pushed place ≡ Some note)
    → note_refusal s.limits s.stream note ≢ None
never_next s sound thread place note known other there =
    let found = found_within s.lanes thread known in
    other_isnt_next s.limits thread s.stream found.0 (sound.lanes thread found.0 found.1) place note (there found.0 found.1) (other found.0 found.1)

-- the next note of a lane is next in the stream
pub front_allowed : (s : State) → IsSound s → (thread : ℕ) (note : Note) → thread < length s.lanes
    → ((lane : Lane) → slice_get s.lanes thread ≡ Some lane → slice_get lane.pushed lane.popped ≡ Some note) → note_refusal s.limits s.stream note ≡ None
front_allowed s sound thread note known front =
    let found = found_within s.lanes thread known in
    none_of_next s.limits s.stream note (front_is_next s.limits thread s.stream found.0 (sound.lanes thread found.0 found.1) found.0.popped note (front found.0 found.1) refl)

-- a note that is next is refused for want of memory alone
pub refused_for_memory : (r : Option Reason) (why : Reason) → r ≡ None → (r ≡ Some why) ⊎ ((r ≡ None) × (why ≡ Memory)) → why ≡ Memory
refused_for_memory r why none (inl some) = absurd (let e : None ≡ Some why = sym none ∙ some in cc)
refused_for_memory r why none (inr both) = both.1

pub refused_for_cause : (r : Option Reason) (why : Reason) → r ≢ None → (r ≡ Some why) ⊎ ((r ≡ None) × (why ≡ Memory)) → r ≡ Some why
refused_for_cause r why some (inl is) = is
refused_for_cause r why some (inr both) = absurd (some both.0)

-- one step more of a list
pub run_next : (s now new : State) (steps : List Step) (i : ℕ) (x : Step) (did : Did) → now ≡ run s (take i steps) → slice_get steps i ≡ Some x
    → (let m : Moved = record { after = new; did = did } in step now x ≡ m) → new ≡ run s (take (i + 1) steps)
run_next s now new steps i x did is at moved =
    sym (ap (λ (m : Moved). m.after) moved) ∙ ap (λ (q : State). (step q x).after) is ∙ sym (run_push s (take i steps) x) ∙ ap (run s) (sym (take_more steps i x at))

pub run_all : (s : State) (steps : List Step) (i : ℕ) → length steps ≤ i → run s (take i steps) ≡ run s steps
run_all s steps i all = ap (run s) (take_all i steps all)

-- ---- one part changed

module _ (limits : Bounds) (dispatch : Dispatch) (keepers : List Keeper) (stream : List Note) (collecting : Bounds) (world : IsWorld limits dispatch keepers stream collecting)
    (i : ℕ) (was : Keeper) (within : i < length keepers) (here : was ≡ get_or keepers i was) where
  part_at : slice_get keepers i ≡ Some was
  part_at = get_at keepers i was within here

  pub lane_at : slice_get (lanes_kept keepers) i ≡ Some was.lane
  lane_at = slice_get-map (λ k. k.lane) keepers i ∙ ap (option_map (λ (k : Keeper). k.lane)) part_at

  -- the state has no other lane of this thread
  pub lane_is : (s : State) → state_of limits dispatch keepers stream ≡ s → (lane : Lane) → slice_get s.lanes i ≡ Some lane → lane ≡ was.lane
  lane_is s e lane found =
      let here : slice_get s.lanes i ≡ Some was.lane = subst (λ (s : State). slice_get s.lanes i ≡ Some was.lane) e lane_at in
      let same : Some lane ≡ Some was.lane = sym found ∙ here in
      cc

  own : was.thread ≡ i
  own = world.keeping.in_place i was part_at

  own_limits : was.limits ≡ limits
  own_limits = world.keeping.same_limits i was part_at

  found_now : (now : Keeper) (t : ℕ) (k : Keeper) → i ≡ t → slice_get (set keepers i now) t ≡ Some k → k ≡ now
  found_now now t k same at =
      let is : Some k ≡ Some now = sym at ∙ ap (slice_get (set keepers i now)) (sym same) ∙ get_set_same keepers i now within in
      cc

  keeping_set : (now : Keeper) → now.thread ≡ was.thread → now.limits ≡ was.limits → AreKeepers limits (set keepers i now)
  keeping_set now thread_is limits_is = record {
    in_place = λ t k at.
        elim (cases_eq i t) [
          | inl same ↦ (let is = found_now now t k same at in rw is (thread_is ∙ own ∙ same))
          | inr other ↦ world.keeping.in_place t k (sym (get_set_other keepers i t now other) ∙ at)
        ];
    same_limits = λ t k at.
        elim (cases_eq i t) [
          | inl same ↦ (let is = found_now now t k same at in rw is (limits_is ∙ own_limits))
          | inr other ↦ world.keeping.same_limits t k (sym (get_set_other keepers i t now other) ∙ at)
        ];
  }

  moved_as : (turn : Turn) (now : Keeper) (did : Did) → now.lane ≡ turn.lane → did ≡ turn.did
      → (let m : Moved = record { after = state_of limits dispatch (set keepers i now) stream; did = did } in after_turn (state_of limits dispatch keepers stream) i turn ≡ m)
  moved_as turn now did lane_is did_is = rw (map-set (λ (k : Keeper). k.lane) keepers i now, lane_is, did_is)

  pub take_moved : (now : Keeper) (did : Did) → now ≡ record was { lane = (take_turn was.limits was.thread was.lane).lane } → did ≡ (take_turn was.limits was.thread was.lane).did
      → (let m : Moved = record { after = state_of limits dispatch (set keepers i now) stream; did = did } in step (state_of limits dispatch keepers stream) (Take i) ≡ m)
  take_moved now did is says =
      let same : take_turn was.limits was.thread was.lane ≡ take_turn limits i was.lane = rw (own, own_limits) in
      take_known (state_of limits dispatch keepers stream) i was.lane lane_at
      ∙ moved_as (take_turn limits i was.lane) now did (ap (λ (k : Keeper). k.lane) is ∙ ap (λ (t : Turn). t.lane) same) (says ∙ ap (λ (t : Turn). t.did) same)

  -- what the step of the state does is what the turn of the part does
  pub take_did : (step (state_of limits dispatch keepers stream) (Take i)).did ≡ (take_turn was.limits was.thread was.lane).did
  take_did =
      let same : take_turn was.limits was.thread was.lane ≡ take_turn limits i was.lane = rw (own, own_limits) in
      ap (λ (m : Moved). m.did) (take_known (state_of limits dispatch keepers stream) i was.lane lane_at) ∙ ap (λ (t : Turn). t.did) (sym same)

  pub end_did : (step (state_of limits dispatch keepers stream) (End i)).did ≡ (end_turn was.limits was.thread was.lane).did
  end_did =
      let same : end_turn was.limits was.thread was.lane ≡ end_turn limits i was.lane = rw (own, own_limits) in
      ap (λ (m : Moved). m.did) (end_known (state_of limits dispatch keepers stream) i was.lane lane_at) ∙ ap (λ (t : Turn). t.did) (sym same)

  pub end_moved : (now : Keeper) (did : Did) → now ≡ record was { lane = (end_turn was.limits was.thread was.lane).lane } → did ≡ (end_turn was.limits was.thread was.lane).did
      → (let m : Moved = record { after = state_of limits dispatch (set keepers i now) stream; did = did } in step (state_of limits dispatch keepers stream) (End i) ≡ m)
  end_moved now did is says =
      let same : end_turn was.limits was.thread was.lane ≡ end_turn limits i was.lane = rw (own, own_limits) in
      end_known (state_of limits dispatch keepers stream) i was.lane lane_at
      ∙ moved_as (end_turn limits i was.lane) now did (ap (λ (k : Keeper). k.lane) is ∙ ap (λ (t : Turn). t.lane) same) (says ∙ ap (λ (t : Turn). t.did) same)

  -- the part's lane in the state
  sound_lane : IsLaneOf limits i stream was.lane
  sound_lane = world.sound.lanes i was.lane lane_at

  -- what is known of the front of the state's lane holds of the part's
  pub front_there : (s : State) → state_of limits dispatch keepers stream ≡ s → (note : Note) → ((lane : Lane) → slice_get s.lanes i ≡ Some lane → slice_get lane.pushed lane.popped ≡ Some note)
      → slice_get was.lane.pushed was.lane.popped ≡ Some note
  front_there s e note front = front was.lane (subst (λ (s : State). slice_get s.lanes i ≡ Some was.lane) e lane_at)

  -- the next note of this part
  pub front_here : (note : Note) → slice_get was.lane.pushed was.lane.popped ≡ Some note → IsFrontOf was.limits was.thread was.lane note
  front_here note at = rw (own, own_limits) (front_of limits i stream was.lane sound_lane note at)

  -- and the edges that it makes
  due_here : Note → List (Edge × Sample)
  due_here note = edges_due was.thread (taken_of was.thread was.lane) note.place note.body

  pub pull_moved : (note : Note) → slice_get was.lane.pushed was.lane.popped ≡ Some note → (now : Keeper) → now ≡ record was { lane = pop_note was.lane }
      → (due : List (Edge × Sample)) → due ≡ edges_due was.thread (taken_of was.thread was.lane) note.place note.body
      → (let m : Moved = record { after = state_of limits (add_edges dispatch due) (set keepers i now) (stream ++ note ∷ []); did = Pulled (accepted_as note.place note.body) } in
      step (state_of limits dispatch keepers stream) (Pull i) ≡ m)
  pull_moved note front now is due due_is =
      let made : due ≡ edges_due i (taken_of i was.lane) note.place note.body = due_is ∙ ap (λ t. edges_due t (taken_of t was.lane) note.place note.body) own in
      pull_known (state_of limits dispatch keepers stream) i was.lane lane_at (Some note) front ∙ rw (map-set (λ (k : Keeper). k.lane) keepers i now, is, made)

  -- the world after a step that changed this part
  world_after : (x : Step) (now : Keeper) (next : Dispatch) (after : List Note) (did : Did)
      → (let m : Moved = record { after = state_of limits next (set keepers i now) after; did = did } in step (state_of limits dispatch keepers stream) x ≡ m)
      → now.thread ≡ was.thread → now.limits ≡ was.limits → IsWorld limits next (set keepers i now) after collecting
  world_after x now next after did is thread_is limits_is = record {
    sound = subst (λ (m : Moved). IsSound m.after) is (sound_step (state_of limits dispatch keepers stream) world.sound x);
    keeping = keeping_set now thread_is limits_is;
    same_limits = world.same_limits;
    range = world.range;
  }

  pub take_world : (now : Keeper) (did : Did) → now ≡ record was { lane = (take_turn was.limits was.thread was.lane).lane } → did ≡ (take_turn was.limits was.thread was.lane).did
      → IsWorld limits dispatch (set keepers i now) stream collecting
  take_world now did is says =
      world_after (Take i) now dispatch stream did (take_moved now did is says) (ap (λ (k : Keeper). k.thread) is) (ap (λ (k : Keeper). k.limits) is)

  pub end_world : (now : Keeper) (did : Did) → now ≡ record was { lane = (end_turn was.limits was.thread was.lane).lane } → did ≡ (end_turn was.limits was.thread was.lane).did
      → IsWorld limits dispatch (set keepers i now) stream collecting
  end_world now did is says =
      world_after (End i) now dispatch stream did (end_moved now did is says) (ap (λ (k : Keeper). k.thread) is) (ap (λ (k : Keeper). k.limits) is)

  pub pull_world : (note : Note) → slice_get was.lane.pushed was.lane.popped ≡ Some note → (now : Keeper) → now ≡ record was { lane = pop_note was.lane }
      → (due : List (Edge × Sample)) → due ≡ edges_due was.thread (taken_of was.thread was.lane) note.place note.body
      → IsWorld limits (add_edges dispatch due) (set keepers i now) (stream ++ note ∷ []) collecting
  pull_world note front now is due due_is =
      world_after (Pull i) now (add_edges dispatch due) (stream ++ note ∷ []) (Pulled (accepted_as note.place note.body)) (pull_moved note front now is due due_is)
      (ap (λ (k : Keeper). k.thread) is) (ap (λ (k : Keeper). k.limits) is)

-- two readings of one part are the same
pub same_part : (keepers : List Keeper) (i : ℕ) (a b : Keeper) → i < length keepers → a ≡ get_or keepers i a → b ≡ get_or keepers i b → a ≡ b
same_part keepers i a b within at_a at_b = same_some a b (sym (get_at keepers i a within at_a) ∙ get_at keepers i b within at_b)

-- ---- the dispatch changed

module _ (limits : Bounds) (dispatch : Dispatch) (keepers : List Keeper) (stream : List Note) (collecting : Bounds) (world : IsWorld limits dispatch keepers stream collecting) where
  dispatched_world : (x : Step) (next : Dispatch) (did : Did)
      → (let m : Moved = record { after = state_of limits next keepers stream; did = did } in step (state_of limits dispatch keepers stream) x ≡ m) → IsWorld limits next keepers stream collecting
  dispatched_world x next did is = record {
    sound = subst (λ (m : Moved). IsSound m.after) is (sound_step (state_of limits dispatch keepers stream) world.sound x);
    keeping = world.keeping;
    same_limits = world.same_limits;
    range = world.range;
  }

  -- what a call of the dispatch answers, and what it leaves, makes of the world
  module _ {E : Type 0} (x : Step) (turn : Handled) (steps : step (state_of limits dispatch keepers stream) x ≡ handled (state_of limits dispatch keepers stream) turn) (next : Dispatch) (result : Result Did E) where
    pub moved_if : OnOk result (next ≡ turn.dispatch) → IfOk result (λ did. did ≡ turn.did)
        → IfOk result (λ did. (let m : Moved = record { after = state_of limits next keepers stream; did = did } in step (state_of limits dispatch keepers stream) x ≡ m))
    moved_if = by_result result
      where
        by_result : (r : Result Did E) → OnOk r (next ≡ turn.dispatch) → IfOk r (λ did. did ≡ turn.did)
            → IfOk r (λ did. (let m : Moved = record { after = state_of limits next keepers stream; did = did } in step (state_of limits dispatch keepers stream) x ≡ m))
        by_result (Ok did) is says = steps ∙ rw (is, says)
        by_result (Err e) is says = tt

    pub grows_if : OnErr result (IsTrue (grows turn.did)) → OnErr result (IsTrue (grows (step (state_of limits dispatch keepers stream) x).did))
    grows_if = by_result result
      where
        by_result : (r : Result Did E) → OnErr r (IsTrue (grows turn.did)) → OnErr r (IsTrue (grows (step (state_of limits dispatch keepers stream) x).did))
        by_result (Ok did) more = tt
        by_result (Err e) more = ap (λ (m : Moved). grows m.did) steps ∙ more

    pub world_if : OnOk result (next ≡ turn.dispatch) → IfOk result (λ did. did ≡ turn.did) → OnErr result (next ≡ dispatch) → IsWorld limits next keepers stream collecting
    world_if = by_result result
      where
        by_result : (r : Result Did E) → OnOk r (next ≡ turn.dispatch) → IfOk r (λ did. did ≡ turn.did) → OnErr r (next ≡ dispatch) → IsWorld limits next keepers stream collecting
        by_result (Ok did) is says still = dispatched_world x next did (steps ∙ rw (is, says))
        by_result (Err e) is says still = subst (λ d. IsWorld limits d keepers stream collecting) (sym still) world

pub ship_is : (s : State) → step s Ship ≡ handled s (ship_turn s.limits s.dispatch)
unfolding step
ship_is s = refl

pub work_is_step : (s : State) (k : ℕ) → step s (Work k) ≡ handled s (work_turn s.dispatch k)
unfolding step
work_is_step s k = refl

-- ---- fresh parts

-- a part of this thread under these limits
abbrev pub IsFreshPart : Bounds → ℕ → Keeper → Type 0
IsFreshPart limits thread keeper = (keeper.thread ≡ thread) × (keeper.limits ≡ limits)

pub all_fresh : (limits : Bounds) (keepers : List Keeper) → ((i : ℕ) (d : Keeper) → i < length keepers → IsFreshPart limits i (get_or keepers i d)) → AreKeepers limits keepers
all_fresh limits keepers each = record {
  in_place = λ t k found. (let is = each t k (slice_get_within keepers t k found) in rw (get_or_from_slice_get keepers t k k found) at is.0);
  same_limits = λ t k found. (let is = each t k (slice_get_within keepers t k found) in rw (get_or_from_slice_get keepers t k k found) at is.1);
}

pub nothing_left : {X : Type 0} (xs : List X) → length xs ≡ 0 → xs ≡ []
nothing_left [] h = refl
nothing_left (x ∷ xs) h = absurd (omega arith)

map_push : {X Y : Type 0} (f : X → Y) (xs : List X) (x : X) → map f (xs ++ x ∷ []) ≡ map f xs ++ f x ∷ []
map_push f [] x = refl
map_push f (y ∷ xs) x = ap (λ ys. f y ∷ ys) (map_push f xs x)

pub lanes_push : {X : Type 0} (f : X → Lane) (keepers : List Keeper) (k : Keeper) (lists : List X) (x : X) → lanes_kept keepers ≡ map f lists → k.lane ≡ f x
    → lanes_kept (keepers ++ k ∷ []) ≡ map f (lists ++ x ∷ [])
lanes_push f keepers k lists x so_far is =
    let ends : lanes_kept keepers ++ k.lane ∷ [] ≡ map f lists ++ f x ∷ [] = rw (so_far, is) in
    map_push (λ (k : Keeper). k.lane) keepers k ∙ ends ∙ sym (map_push f lists x)

pub fresh_lists : (lists : List (Vec Event Global)) → map fresh_lane (map (λ v. v.items) lists) ≡ map (λ v. fresh_lane v.items) lists
fresh_lists [] = refl
fresh_lists (v ∷ lists) = ap (λ ls. fresh_lane v.items ∷ ls) (fresh_lists lists)

-- a new world
pub world_new : (limits : Bounds) (shards : ℕ) (keepers : List Keeper) (lists : List (Vec Event Global)) → length lists ≡ limits.threads → AreKeepers limits keepers
    → lanes_kept keepers ≡ map (λ v. fresh_lane v.items) lists → AreWithinRange limits → IsWorld limits (fresh_dispatch shards) keepers [] limits
world_new limits shards keepers lists count keeping lanes_are range =
    let same : map fresh_lane (map (λ (v : Vec Event Global). v.items) lists) ≡ lanes_kept keepers = fresh_lists lists ∙ sym lanes_are in
    record {
      sound = subst (λ (ls : List Lane). IsSound (let s : State = record { limits = limits; lanes = ls; stream = []; dispatch = fresh_dispatch shards } in s)) same
          (sound_start limits shards (map (λ (v : Vec Event Global). v.items) lists) (length-map lists (λ (v : Vec Event Global). v.items) ∙ count));
      keeping = keeping;
      same_limits = refl;
      range = range;
    }

-- ---- the limits stay

on_lane_limits : (s : State) (move : Lane → Moved) (found : Option Lane) → ((lane : Lane) → (move lane).after.limits ≡ s.limits) → (option_map_or move found (idle s)).after.limits ≡ s.limits
on_lane_limits s move None each = refl
on_lane_limits s move (Some lane) each = each lane

pull_limits : (s : State) (thread : ℕ) (lane : Lane) (note : Option Note) → (pull_note s thread lane note).after.limits ≡ s.limits
pull_limits s thread lane None = refl
pull_limits s thread lane (Some note) = refl

either_limits : (s : State) (test : Bool) (answer : Did) → (cond test (idle s) (record { after = s; did = answer })).after.limits ≡ s.limits
either_limits s true answer = refl
either_limits s false answer = refl

again_limits : (s : State) (lane : Lane) (place : ℕ) (note : Option Note) → (again_note s lane place note).after.limits ≡ s.limits
again_limits s lane place None = refl
again_limits s lane place (Some note) = either_limits s (eqb place lane.popped) (answer_again s note)

step_limits : (s : State) (x : Step) → (step s x).after.limits ≡ s.limits
unfolding step
step_limits s (Take thread) = on_lane_limits s (λ lane. after_turn s thread (take_turn s.limits thread lane)) (slice_get s.lanes thread) (λ lane. refl)
step_limits s (End thread) = on_lane_limits s (λ lane. after_turn s thread (end_turn s.limits thread lane)) (slice_get s.lanes thread) (λ lane. refl)
step_limits s (Pull thread) = on_lane_limits s (λ lane. pull_note s thread lane (slice_get lane.pushed lane.popped)) (slice_get s.lanes thread) (λ lane. pull_limits s thread lane (slice_get lane.pushed lane.popped))
step_limits s (Again thread place) = on_lane_limits s (λ lane. again_note s lane place (slice_get lane.pushed place)) (slice_get s.lanes thread) (λ lane. again_limits s lane place (slice_get lane.pushed place))
step_limits s Ship = refl
step_limits s (Work k) = refl

-- a step that did what the machine does keeps the limits
pub moved_limits : (s t : State) (x : Step) (did : Did) → step s x ≡ record { after = t; did = did } → t.limits ≡ s.limits
moved_limits s t x did moved = sym (ap (λ m. m.after.limits) moved) ∙ step_limits s x

pub run_limits : (s : State) (steps : List Step) → (run s steps).limits ≡ s.limits
run_limits s [] = refl
run_limits s (x ∷ xs) = run_limits (step s x).after xs ∙ step_limits s x

pub limits_if_moved : {E : Type 0} (result : Result Did E) (s t : State) (x : Step) → IfOk result (λ did. step s x ≡ record { after = t; did = did }) → OnOk result (t.limits ≡ s.limits)
limits_if_moved (Ok did) s t x moved = moved_limits s t x did moved
limits_if_moved (Err e) s t x moved = tt

-- ---- the number of shards stays

on_lane_count : (s : State) (move : Lane → Moved) (found : Option Lane) → ((lane : Lane) → length (move lane).after.dispatch.shards ≡ length s.dispatch.shards)
    → length (option_map_or move found (idle s)).after.dispatch.shards ≡ length s.dispatch.shards
on_lane_count s move None each = refl
on_lane_count s move (Some lane) each = each lane

pull_count : (s : State) (thread : ℕ) (lane : Lane) (note : Option Note) → length (pull_note s thread lane note).after.dispatch.shards ≡ length s.dispatch.shards
pull_count s thread lane None = refl
pull_count s thread lane (Some note) = refl

either_count : (s : State) (test : Bool) (answer : Did) → length (cond test (idle s) (record { after = s; did = answer })).after.dispatch.shards ≡ length s.dispatch.shards
either_count s true answer = refl
either_count s false answer = refl

again_count : (s : State) (lane : Lane) (place : ℕ) (note : Option Note) → length (again_note s lane place note).after.dispatch.shards ≡ length s.dispatch.shards
again_count s lane place None = refl
again_count s lane place (Some note) = either_count s (eqb place lane.popped) (answer_again s note)

step_count : (s : State) (x : Step) → length (step s x).after.dispatch.shards ≡ length s.dispatch.shards
unfolding step
step_count s (Take thread) = on_lane_count s (λ lane. after_turn s thread (take_turn s.limits thread lane)) (slice_get s.lanes thread) (λ lane. refl)
step_count s (End thread) = on_lane_count s (λ lane. after_turn s thread (end_turn s.limits thread lane)) (slice_get s.lanes thread) (λ lane. refl)
step_count s (Pull thread) = on_lane_count s (λ lane. pull_note s thread lane (slice_get lane.pushed lane.popped)) (slice_get s.lanes thread) (λ lane. pull_count s thread lane (slice_get lane.pushed lane.popped))
step_count s (Again thread place) = on_lane_count s (λ lane. again_note s lane place (slice_get lane.pushed place)) (slice_get s.lanes thread) (λ lane. again_count s lane place (slice_get lane.pushed place))
step_count s Ship = ship_keeps_shards s.limits s.dispatch
step_count s (Work k) = work_keeps_shards s.dispatch k

pub run_count : (s : State) (steps : List Step) → length (run s steps).dispatch.shards ≡ length s.dispatch.shards
run_count s [] = refl
run_count s (x ∷ xs) = run_count (step s x).after xs ∙ step_count s x

pub count_if_moved : {E : Type 0} (result : Result Did E) (s t : State) (x : Step) → IfOk result (λ did. step s x ≡ record { after = t; did = did }) → OnOk result (length t.dispatch.shards ≡ length s.dispatch.shards)
count_if_moved (Ok did) s t x moved = sym (ap (λ (m : Moved). length m.after.dispatch.shards) moved) ∙ step_count s x
count_if_moved (Err e) s t x moved = tt

-- ---- each thread keeps its lane

pub lanes_if_moved : {E : Type 0} (result : Result Did E) (s t : State) (x : Step) → IsSound s → IfOk result (λ did. step s x ≡ record { after = t; did = did }) → OnErr result (t ≡ s)
    → length t.lanes ≡ t.limits.threads
lanes_if_moved (Ok did) s t x sound moved still = subst (λ (m : Moved). length m.after.lanes ≡ m.after.limits.threads) moved (sound_step s sound x).count
lanes_if_moved (Err e) s t x sound moved still = subst (λ (q : State). length q.lanes ≡ q.limits.threads) (sym still) sound.count

pub run_lanes : (s : State) → IsSound s → (steps : List Step) (t : State) → t ≡ run s steps → length t.lanes ≡ t.limits.threads
run_lanes s sound steps t is = subst (λ (q : State). length q.lanes ≡ q.limits.threads) (sym is) (sound_run s sound steps).count

-- ---- where a step may lack memory

-- a note that is pulled makes a list longer
pub pull_grows : (s : State) (thread : ℕ) (lane : Lane) (note : Note) → slice_get s.lanes thread ≡ Some lane → slice_get lane.pushed lane.popped ≡ Some note → IsTrue (grows (step s (Pull thread)).did)
pull_grows s thread lane note at front = ap (λ (m : Moved). grows m.did) (pull_known s thread lane at (Some note) front)

-- what is known of the step at a place of a list
pub grows_at : (old new : State) (steps : List Step) (i : ℕ) (x next : Step) → new ≡ old → slice_get steps i ≡ Some x → slice_get steps i ≡ Some next → IsTrue (grows (step old x).did) → IsTrue (grows (step new next).did)
grows_at old new steps i x next same at is more =
    let one : x ≡ next = same_some x next (sym at ∙ is) in
    rw (same, ← one) more
