-- A step does something exactly where it is enabled.
use Rattle.std.proofs.Common.{◌≡◌, ◌≢◌, ℕ, ◌+◌, ◌<◌, inl, inr, Bool, true, false, cond, eqb, length, set, Option, Some, None, refl, sym, ap, ◌∙◌, subst}
use Rattle.std.specs.Prelude.{slice_get}
use Rattle.std.specs.Option.{option_map_or}
use Rattle.std.proofs.lemmas.Bool.{false≢true, ltb-true, lt-ltb, eq-eqb, eqb-true}
use Rattle.std.proofs.lemmas.List.{set-get_or}
use Rattle.std.proofs.lemmas.Option.{slice_get_within, get_or_from_slice_get}
use Rattle.gl_event.specs.Bounds.{Bounds}
use Rattle.gl_event.specs.Lawful.{refusal}
use Rattle.gl_event.specs.declared.events.Event.{Event}
use Rattle.gl_event.specs.declared.events.Refusal.{Refusal}
use Rattle.gl_event.specs.declared.notes.Note.{Note}
use Rattle.gl_edges.specs.declared.edge.Edge.{Edge}
use Rattle.gl_edges.specs.declared.edge.Sample.{Sample}
use Rattle.gl_recorder.specs.Taking.{event_note, end_note}
use Rattle.gl_shards.specs.Shards.{shard_of}
use Rattle.gl_intake.specs.Stream.{note_refusal, accepted_as}
use Rattle.gl_intake.specs.declared.notes.Refused.{Refused as Reason}
use Rattle.gl_world.specs.Dispatch.{Dispatch, Shard, Handled, wait, has_place, has_work, ship_edge, work_edge, ship_to, ship_pair, work_on, ship_turn, work_turn}
use Rattle.gl_world.specs.Machine.{Lane, State, Turn, Moved, rest, idle, use_wish, push_note, taken_of, has_closed, has_room, take_judged, take_wish, take_turn, end_turn, after_turn, pull_note, again_note, answer_again, step}
use Rattle.gl_world.specs.Enabled.{MayTake, MayEnd, MayPull, MayOffer, MayShip, HasLane, IsEnabled, StepsWhereEnabled}
use Rattle.gl_world.specs.declared.steps.Step.{Step}
use Rattle.gl_world.specs.declared.steps.Step.TheVariants.{Take, End, Pull, Again, Ship, Work}
use Rattle.gl_world.specs.declared.steps.Did.{Did}
use Rattle.gl_world.specs.declared.steps.Did.TheVariants.{Nothing, Taken, Ended, Pulled, Refused, Shipped, Worked}
use Rattle.gl_world.proofs.Lists.{same_some, found_within}

-- an answer fits what was there: it isn't Nothing exactly where this holds, and where it is, nothing changed
record Fits {X : Type 0} (Enabled : Type 0) (did : Did) (after before : X) : Type 0 where
  enabled : did ≢ Nothing → Enabled
  moves : Enabled → did ≢ Nothing
  stays : did ≡ Nothing → after ≡ before

-- nothing was to do
fits_idle : {X : Type 0} (Enabled : Type 0) (x : X) → ¬ Enabled → Fits Enabled Nothing x x
fits_idle Enabled x not = record { enabled = λ some. absurd (some refl); moves = λ may. absurd (not may); stays = λ _. refl }

-- something was done
fits_done : {X : Type 0} (Enabled : Type 0) (did : Did) (after before : X) → Enabled → did ≢ Nothing → Fits Enabled did after before
fits_done Enabled did after before may some = record { enabled = λ _. may; moves = λ _. some; stays = λ none. absurd (some none) }

-- ---- turns of a thread

module _ (limits : Bounds) (thread : ℕ) (lane : Lane) where
  judged : (wish : Event) → slice_get lane.wishes lane.used ≡ Some wish → has_closed thread lane ≡ false → (why : Option Refusal) → refusal limits thread (taken_of thread lane) wish ≡ why
      → Fits (MayTake limits thread lane) (take_judged limits thread lane wish why).did (take_judged limits thread lane wish why).lane lane
  judged wish left running (Some why) says =
      fits_done _ _ _ _ (record { running = running; wish = wish; left = left; unlawful_or_room = inl (λ none. (let e = sym says ∙ none in cc)) }) (λ e. cc)
  judged wish left running None says = by_room (has_room limits lane) refl
    where
      by_room : (b : Bool) → has_room limits lane ≡ b
          → (let t : Turn = cond b (record { lane = push_note (use_wish lane) (event_note thread (taken_of thread lane) wish); did = Taken (length (taken_of thread lane)) }) (rest lane) in
          Fits (MayTake limits thread lane) t.did t.lane lane)
      by_room true room = fits_done _ _ _ _ (record { running = running; wish = wish; left = left; unlawful_or_room = inr room }) (λ e. cc)
      by_room false full =
          fits_idle _ _ (λ may.
          elim may.unlawful_or_room [
            | inl unlawful ↦ (let same : may.wish ≡ wish = same_some may.wish wish (sym may.left ∙ left) in absurd (unlawful (ap (refusal limits thread (taken_of thread lane)) same ∙ says)))
            | inr room ↦ absurd (false≢true (sym full ∙ room))
          ])

  wished : (wish : Option Event) → slice_get lane.wishes lane.used ≡ wish → has_closed thread lane ≡ false
      → Fits (MayTake limits thread lane) (take_wish limits thread lane wish).did (take_wish limits thread lane wish).lane lane
  wished None none running = fits_idle _ _ (λ may. (let e = sym none ∙ may.left in absurd (cc)))
  wished (Some wish) left running = judged wish left running (refusal limits thread (taken_of thread lane) wish) refl

  take_by : (b : Bool) → has_closed thread lane ≡ b
      → (let t : Turn = cond b (rest lane) (take_wish limits thread lane (slice_get lane.wishes lane.used)) in Fits (MayTake limits thread lane) t.did t.lane lane)
  take_by true closed = fits_idle _ _ (λ may. false≢true (sym may.running ∙ closed))
  take_by false running = wished (slice_get lane.wishes lane.used) refl running

  take_fits : Fits (MayTake limits thread lane) (take_turn limits thread lane).did (take_turn limits thread lane).lane lane
  unfolding take_turn
  take_fits = take_by (has_closed thread lane) refl

  end_by : (b room : Bool) → has_closed thread lane ≡ b → has_room limits lane ≡ room
      → (let t : Turn = cond b (rest lane) (cond room (record { lane = push_note lane (end_note thread (length (taken_of thread lane))); did = Ended }) (rest lane)) in Fits (MayEnd limits thread lane) t.did t.lane lane)
  end_by true room closed is = fits_idle _ _ (λ may. false≢true (sym may.running ∙ closed))
  end_by false true running is = fits_done _ _ _ _ (record { running = running; room = is }) (λ e. cc)
  end_by false false running is = fits_idle _ _ (λ may. false≢true (sym is ∙ may.room))

  end_fits : Fits (MayEnd limits thread lane) (end_turn limits thread lane).did (end_turn limits thread lane).lane lane
  unfolding end_turn
  end_fits = end_by (has_closed thread lane) (has_room limits lane) refl refl

-- ---- steps of a state

module _ (s : State) where
  -- what holds of the thread's own lane
  own : (thread : ℕ) (P : Lane → Type 0) (lane : Lane) → slice_get s.lanes thread ≡ Some lane → HasLane s thread P → P lane
  own thread P lane at has = subst P (same_some has.0 lane (sym has.1 ∙ at)) has.2

  on : (thread : ℕ) (P : Lane → Type 0) (move : Lane → Moved) → ((lane : Lane) → slice_get s.lanes thread ≡ Some lane → Fits (P lane) (move lane).did (move lane).after s)
      → (found : Option Lane) → slice_get s.lanes thread ≡ found
      → Fits (HasLane s thread P) (option_map_or move found (idle s)).did (option_map_or move found (idle s)).after s
  on thread P move each None none = fits_idle _ _ (λ has. (let e = sym none ∙ has.1 in cc))
  on thread P move each (Some lane) at = record {
    enabled = λ some. (lane, at, (each lane at).enabled some);
    moves = λ has. (each lane at).moves (own thread P lane at has);
    stays = (each lane at).stays;
  }

  -- a turn that leaves the lane as it was leaves the state
  turn_fits : (thread : ℕ) (lane : Lane) (Enabled : Type 0) (turn : Turn) → slice_get s.lanes thread ≡ Some lane → Fits Enabled turn.did turn.lane lane
      → Fits Enabled (after_turn s thread turn).did (after_turn s thread turn).after s
  turn_fits thread lane Enabled turn at fits = record {
    enabled = fits.enabled;
    moves = fits.moves;
    stays = λ none.
        (let same : set s.lanes thread turn.lane ≡ s.lanes = ap (set s.lanes thread) (fits.stays none ∙ sym (get_or_from_slice_get s.lanes thread lane lane at)) ∙ set-get_or s.lanes thread lane in
        λ i. record { limits = s.limits; lanes = same i; stream = s.stream; dispatch = s.dispatch });
  }

  pulled : (thread : ℕ) (lane : Lane) (note : Option Note) → slice_get lane.pushed lane.popped ≡ note → Fits (MayPull lane) (pull_note s thread lane note).did (pull_note s thread lane note).after s
  pulled thread lane None none = fits_idle _ _ (λ left. (let (note, at) = found_within lane.pushed lane.popped left in let e = sym none ∙ at in cc))
  pulled thread lane (Some note) at = fits_done _ _ _ _ (slice_get_within lane.pushed lane.popped note at) (λ e. cc)

  answers : (note : Note) (r : Option Reason) → option_map_or Refused r (Pulled (accepted_as note.place note.body)) ≢ Nothing
  answers note None e = cc
  answers note (Some why) e = cc

  offered : (lane : Lane) (place : ℕ) (note : Option Note) → slice_get lane.pushed place ≡ note → Fits (MayOffer lane place) (again_note s lane place note).did (again_note s lane place note).after s
  offered lane place None none = fits_idle _ _ (λ may. (let (note, at) = found_within lane.pushed place may.0 in let e = sym none ∙ at in cc))
  offered lane place (Some note) at = by_place (eqb place lane.popped) refl
    where
      by_place : (b : Bool) → eqb place lane.popped ≡ b
          → (let m : Moved = cond b (idle s) (record { after = s; did = answer_again s note }) in Fits (MayOffer lane place) m.did m.after s)
      by_place true same = fits_idle _ _ (λ may. may.1 (eqb-true place lane.popped same))
      by_place false other =
          fits_done _ _ _ _ (slice_get_within lane.pushed place note at, λ same. false≢true (sym other ∙ eq-eqb place lane.popped same)) (answers note (note_refusal s.limits s.stream note))

-- ---- steps of the dispatch

module _ (limits : Bounds) (d : Dispatch) where
  to_shard : (pair : Edge × Sample) → slice_get d.made d.sent ≡ Some pair → (found : Option Shard) → slice_get d.shards (shard_of pair.0 (length d.shards)) ≡ found
      → (let h : Handled = option_map_or (ship_to limits d pair (shard_of pair.0 (length d.shards))) found (wait d) in Fits (MayShip limits d) h.did h.dispatch d)
  to_shard pair oldest None none =
      fits_idle _ _ (λ may.
      (let same : may.pair ≡ pair = same_some may.pair pair (sym may.oldest ∙ oldest) in
      let e = sym none ∙ ap (λ (p : Edge × Sample). slice_get d.shards (shard_of p.0 (length d.shards))) (sym same) ∙ may.its_shard in
      cc))
  to_shard pair oldest (Some shard) at = by_place (has_place limits shard) refl
    where
      by_place : (b : Bool) → has_place limits shard ≡ b
          → (let h : Handled = cond b (record { dispatch = record d { sent = d.sent + 1; shards = set d.shards (shard_of pair.0 (length d.shards)) (ship_edge shard pair) }; did = Shipped (shard_of pair.0 (length d.shards)) }) (wait d) in
          Fits (MayShip limits d) h.did h.dispatch d)
      by_place true place = fits_done _ _ _ _ (record { pair = pair; oldest = oldest; shard = shard; its_shard = at; place = place }) (λ e. cc)
      by_place false full =
          fits_idle _ _ (λ may.
          (let same : may.pair ≡ pair = same_some may.pair pair (sym may.oldest ∙ oldest) in
          let there : Some may.shard ≡ Some shard = sym may.its_shard ∙ ap (λ (p : Edge × Sample). slice_get d.shards (shard_of p.0 (length d.shards))) same ∙ at in
          let one : may.shard ≡ shard = same_some may.shard shard there in
          false≢true (sym full ∙ sym (ap (has_place limits) one) ∙ may.place)))

  of_next : (next : Option (Edge × Sample)) → slice_get d.made d.sent ≡ next
      → (let h : Handled = option_map_or (ship_pair limits d) next (wait d) in Fits (MayShip limits d) h.did h.dispatch d)
  of_next None none = fits_idle _ _ (λ may. (let e = sym none ∙ may.oldest in cc))
  of_next (Some pair) oldest = to_shard pair oldest (slice_get d.shards (shard_of pair.0 (length d.shards))) refl

  ship_fits : Fits (MayShip limits d) (ship_turn limits d).did (ship_turn limits d).dispatch d
  unfolding ship_turn
  ship_fits = of_next (slice_get d.made d.sent) refl

module _ (d : Dispatch) (k : ℕ) where
  -- the shard is known, and has an edge left
  abbrev MayWork : Type 0
  MayWork = (shard : Shard) × (slice_get d.shards k ≡ Some shard) × (shard.worked < length shard.shipped)

  of_shard : (found : Option Shard) → slice_get d.shards k ≡ found → (let h : Handled = option_map_or (work_on d k) found (wait d) in Fits MayWork h.did h.dispatch d)
  of_shard None none = fits_idle _ _ (λ may. (let e = sym none ∙ may.1 in cc))
  of_shard (Some shard) at = by_work (has_work shard) refl
    where
      by_work : (b : Bool) → has_work shard ≡ b
          → (let h : Handled = cond b (record { dispatch = record d { shards = set d.shards k (work_edge shard) }; did = Worked }) (wait d) in Fits MayWork h.did h.dispatch d)
      by_work true left = fits_done _ _ _ _ (shard, at, ltb-true shard.worked (length shard.shipped) left) (λ e. cc)
      by_work false none =
          fits_idle _ _ (λ may.
          (let one : may.0 ≡ shard = same_some may.0 shard (sym may.1 ∙ at) in
          let left : shard.worked < length shard.shipped = subst (λ (x : Shard). x.worked < length x.shipped) one may.2 in
          false≢true (sym none ∙ lt-ltb shard.worked (length shard.shipped) left)))

  work_fits : Fits MayWork (work_turn d k).did (work_turn d k).dispatch d
  unfolding work_turn
  work_fits = of_shard (slice_get d.shards k) refl

-- ---- each step

-- a step of the dispatch that leaves it as it was leaves the state
handled_fits : (s : State) (Enabled : Type 0) (turn : Handled) → Fits Enabled turn.did turn.dispatch s.dispatch
    → Fits Enabled turn.did (let t : State = record { limits = s.limits; lanes = s.lanes; stream = s.stream; dispatch = turn.dispatch } in t) s
handled_fits s Enabled turn fits = record {
  enabled = fits.enabled;
  moves = fits.moves;
  stays = λ none i. record { limits = s.limits; lanes = s.lanes; stream = s.stream; dispatch = fits.stays none i };
}

step_fits : (s : State) (x : Step) → Fits (IsEnabled s x) (step s x).did (step s x).after s
unfolding step
step_fits s (Take thread) =
    on s thread (MayTake s.limits thread) (λ lane. after_turn s thread (take_turn s.limits thread lane))
    (λ lane at. turn_fits s thread lane (MayTake s.limits thread lane) (take_turn s.limits thread lane) at (take_fits s.limits thread lane)) (slice_get s.lanes thread) refl
step_fits s (End thread) =
    on s thread (MayEnd s.limits thread) (λ lane. after_turn s thread (end_turn s.limits thread lane))
    (λ lane at. turn_fits s thread lane (MayEnd s.limits thread lane) (end_turn s.limits thread lane) at (end_fits s.limits thread lane)) (slice_get s.lanes thread) refl
step_fits s (Pull thread) =
    on s thread MayPull (λ lane. pull_note s thread lane (slice_get lane.pushed lane.popped)) (λ lane at. pulled s thread lane (slice_get lane.pushed lane.popped) refl) (slice_get s.lanes thread) refl
step_fits s (Again thread place) =
    on s thread (λ lane. MayOffer lane place) (λ lane. again_note s lane place (slice_get lane.pushed place)) (λ lane at. offered s lane place (slice_get lane.pushed place) refl) (slice_get s.lanes thread) refl
step_fits s Ship = handled_fits s (MayShip s.limits s.dispatch) (ship_turn s.limits s.dispatch) (ship_fits s.limits s.dispatch)
step_fits s (Work k) = handled_fits s (MayWork s.dispatch k) (work_turn s.dispatch k) (work_fits s.dispatch k)

pub steps_where_enabled : StepsWhereEnabled
steps_where_enabled = record {
  exactly = λ s x. ((step_fits s x).enabled, (step_fits s x).moves);
  stays = λ s x. (step_fits s x).stays;
}
