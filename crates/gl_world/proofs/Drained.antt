-- A drained state has collected and worked all that its threads took.
use Rattle.std.proofs.Common.{◌≡◌, ℕ, suc, ◌+◌, ◌≤◌, true, false, List, [], ◌∷◌, length, map, take, Some, refl, sym, ap, ◌∙◌, subst, arith, inl, inr}
use Rattle.std.specs.Prelude.{slice_get}
use Rattle.std.specs.List.{range_with_len, enumerate_from}
use Rattle.std.proofs.lemmas.Bool.{cases_lt, false≢true}
use Rattle.std.proofs.lemmas.List.{take_all}
use Rattle.std.proofs.lemmas.Option.{slice_get_within}
use Rattle.gl_event.specs.Bounds.{Bounds}
use Rattle.gl_event.specs.declared.events.Segment.{Segment}
use Rattle.gl_event.specs.declared.notes.Note.{Note}
use Rattle.gl_segments.specs.Segments.{IsLeastInRing}
use Rattle.gl_edges.specs.Edges.{edges, edges_made}
use Rattle.gl_edges.proofs.Least.{same_once}
use Rattle.gl_filters.specs.Asked.{Asked}
use Rattle.gl_cycles.specs.Reports.{IsReport, IsGoodlockReport, IsReportFault}
use Rattle.gl_cycles.specs.declared.found.Report.{Report}
use Rattle.gl_cycles.specs.declared.found.ReportFault.{ReportFault}
use Rattle.gl_cycles.proofs.ReportsAreUnique.{reports_agree, loops_agree, none_of_loops}
use Rattle.gl_intake.specs.Stream.{events_of, has_ended, logs_of}
use Rattle.gl_world.specs.Machine.{Lane, State, start, taken_of, taken_lists, IsDrained}
use Rattle.gl_world.specs.Keeping.{IsLaneOf, IsSound}
use Rattle.gl_world.specs.Headline.{collected_lists, worked_table, IsReportOf, HasAllTaken, IsReached, StaysSound, EverySoundDrainedStateReportsWhatWasTaken, EveryDrainedScheduleReportsWhatWasTaken, ReportsDontShowTheSchedule, LoopsDontShowTheSchedule}
use Rattle.gl_world.proofs.Lists.{found_within}
use Rattle.gl_world.proofs.Shippings.{worked_is_made}
use Rattle.gl_world.proofs.Sound.{told_events, ended_of_notes, sound_start}
use Rattle.gl_world.proofs.Schedules.{sound_step, sound_run, keeps_order}

-- whose end mark was collected has nothing left in its lane
all_popped : (limits : Bounds) (thread : ℕ) (stream : List Note) (lane : Lane) → IsLaneOf limits thread stream lane → has_ended thread stream ≡ true → length lane.pushed ≤ lane.popped
all_popped limits thread stream lane is ended =
    elim (cases_lt lane.popped (length lane.pushed)) [
      | inl left ↦
          let (note, at) = found_within lane.pushed lane.popped left in
          let next = is.in_order.each lane.popped note at in
          let running : has_ended thread (take lane.popped lane.pushed) ≡ false = subst (λ t. has_ended t (take lane.popped lane.pushed) ≡ false) (is.own lane.popped note at) next.running in
          let told : has_ended thread (take lane.popped lane.pushed) ≡ has_ended thread stream = ap (has_ended thread) (sym is.told) ∙ ended_of_notes thread stream in
          absurd (false≢true (sym running ∙ told ∙ ended))
      | inr none ↦ none
    ]

-- and all that it took was collected
all_collected : (limits : Bounds) (thread : ℕ) (stream : List Note) (lane : Lane) → IsLaneOf limits thread stream lane → has_ended thread stream ≡ true → events_of thread stream ≡ taken_of thread lane
all_collected limits thread stream lane is ended =
    sym (told_events limits thread stream lane is) ∙ ap (events_of thread) (take_all lane.popped lane.pushed (all_popped limits thread stream lane is ended))

-- two ways to list what belongs to each number
lists_alike : {X Y : Type 0} (f : ℕ → X) (g : ℕ → Y → X) (n : ℕ) (ys : List Y) → ((i : ℕ) (y : Y) → slice_get ys i ≡ Some y → f (n + i) ≡ g (n + i) y)
    → map f (range_with_len n (length ys)) ≡ map (λ numbered. g numbered.0 numbered.1) (enumerate_from n ys)
lists_alike f g n [] each = refl
lists_alike f g n (y ∷ ys) each =
    let here : n + 0 ≡ n = omega arith in
    let first : f n ≡ g n y = subst (λ k. f k ≡ g k y) here (each 0 y refl) in
    let rest = lists_alike f g (n + 1) ys (λ i z at. (let later : n + suc i ≡ (n + 1) + i = omega arith in subst (λ k. f k ≡ g k z) later (each (suc i) z at))) in
    (λ i. first i ∷ rest i)

module _ (s : State) (sound : IsSound s) (drained : IsDrained s) where
  pub each_whole : (thread : ℕ) (lane : Lane) → slice_get s.lanes thread ≡ Some lane → events_of thread s.stream ≡ taken_of thread lane
  each_whole thread lane at =
      let within = slice_get_within s.lanes thread lane at in
      all_collected s.limits thread s.stream lane (sound.lanes thread lane at) (drained.all_ended thread (omega (arith, sound.count)))

  lists_whole : collected_lists s ≡ taken_lists s.lanes
  lists_whole =
      ap (λ n. logs_of n s.stream) (sym sound.count)
      ∙ lists_alike (λ t. events_of t s.stream) taken_of 0 s.lanes (λ i lane at. (let here : 0 + i ≡ i = omega arith in subst (λ k. events_of k s.stream ≡ taken_of k lane) (sym here) (each_whole i lane at)))

  pub has_all : HasAllTaken s
  has_all = record {
    each = each_whole;
    lists = lists_whole;
    table =
        worked_is_made s.dispatch sound.shipped drained.done
        ∙ same_once s.dispatch.made (edges_made (collected_lists s)) sound.made.from sound.made.all
        ∙ ap edges lists_whole;
  }

  pub drained_report : (asked : Asked) (report : Report) → IsReportOf asked s report → IsGoodlockReport asked (taken_lists s.lanes) report
  drained_report asked report is = subst (λ pairs. IsReport asked pairs (taken_lists s.lanes) report) has_all.table (subst (λ lists. IsReport asked (worked_table s) lists report) lists_whole is)

  pub drained_fault : (fault : ReportFault) → IsReportFault (collected_lists s) fault → IsReportFault (taken_lists s.lanes) fault
  drained_fault fault is = subst (λ lists. IsReportFault lists fault) lists_whole is

  pub drained_loop : (at : Segment) (ring : List Segment) → IsLeastInRing (collected_lists s) at ring → IsLeastInRing (taken_lists s.lanes) at ring
  drained_loop at ring is = subst (λ lists. IsLeastInRing lists at ring) lists_whole is

sound_reached : (s : State) → IsReached s → IsSound s
sound_reached s r = subst IsSound (sym r.there) (sound_run (start r.limits r.shards r.wishes) (sound_start r.limits r.shards r.wishes r.each_thread) r.steps)

pub stays_sound : StaysSound
stays_sound = record { start = sound_start; step = λ s x sound. sound_step s sound x; order = keeps_order }

pub every_sound_drained : EverySoundDrainedStateReportsWhatWasTaken
every_sound_drained s sound drained = record { taken = has_all s sound drained; report = drained_report s sound drained; fault = drained_fault s sound drained }

pub every_drained : EveryDrainedScheduleReportsWhatWasTaken
every_drained s reached drained = every_sound_drained s (sound_reached s reached) drained

pub reports_hide : ReportsDontShowTheSchedule
reports_hide a b reached_a reached_b drained_a drained_b same asked of_a of_b is_a is_b =
    reports_agree asked (edges (taken_lists b.lanes)) (taken_lists b.lanes) of_a of_b
    (subst (λ lists. IsGoodlockReport asked lists of_a) same (drained_report a (sound_reached a reached_a) drained_a asked of_a is_a))
    (drained_report b (sound_reached b reached_b) drained_b asked of_b is_b)

pub loops_hide : LoopsDontShowTheSchedule
loops_hide = record {
  same = λ a b reached_a reached_b drained_a drained_b same at_a at_b ring_a ring_b is_a is_b.
      loops_agree (taken_lists b.lanes) at_a at_b ring_a ring_b
      (subst (λ lists. IsLeastInRing lists at_a ring_a) same (drained_loop a (sound_reached a reached_a) drained_a at_a ring_a is_a))
      (drained_loop b (sound_reached b reached_b) drained_b at_b ring_b is_b);
  either = λ a b reached_a reached_b drained_a drained_b same asked report at ring is loop.
      none_of_loops asked (edges (taken_lists b.lanes)) (taken_lists b.lanes) report at ring (drained_loop b (sound_reached b reached_b) drained_b at ring loop)
      (subst (λ lists. IsGoodlockReport asked lists report) same (drained_report a (sound_reached a reached_a) drained_a asked report is));
}
