-- Empty lists after those of a trace change nothing of its report: they make no edges and no steps.
use Rattle.std.proofs.Common.{◌≡◌, ◌∙◌, ◌⊎◌, inl, inr, ℕ, zero, suc, ◌+◌, ◌<◌, ◌≤◌, Bool, List, [], ◌∷◌, ◌++◌, length, replicate, Some, refl, sym, ap, subst, arith}
use Rattle.std.specs.Prelude.{slice_get}
use Rattle.std.specs.List.{flat_map, enumerate_from}
use Rattle.gl_event.specs.Events.{segment}
use Rattle.gl_event.specs.declared.events.Event.{Event}
use Rattle.gl_event.specs.declared.events.Segment.{Segment}
use Rattle.gl_segments.specs.Laws.{DecidesBefore}
use Rattle.gl_segments.specs.Segments.{Before, IsConsistent, IsLeastInRing, IsRing, IsSegment, IsStep, Leads, StandsIn}
use Rattle.gl_edges.specs.Edges.{edges, edges_of_list, once}
use Rattle.gl_filters.specs.Asked.{Asked}
use Rattle.gl_cycles.specs.declared.found.Report.{Report}
use Rattle.gl_findings.specs.Reports.{report_with, IsReportWith}
use Rattle.gl_findings.specs.declared.listing.Contents.{Contents}
use Rattle.gl_world.proofs.Lists.{same_some}
use Rattle.gl_live.specs.bodies.Padded.{padded, HaveAll}

-- ---- what stands at a place

pub get_front : {X : Type 0} (xs ys : List X) (at : ℕ) → at < length xs → slice_get (xs ++ ys) at ≡ slice_get xs at
get_front [] ys at within = absurd (omega (arith, within))
get_front (x ∷ xs) ys zero within = refl
get_front (x ∷ xs) ys (suc at) within = get_front xs ys at (omega (arith, within))

get_empty : (more at : ℕ) (es : List Event) → slice_get (replicate more (let none : List Event = [] in none)) at ≡ Some es → es ≡ []
get_empty zero at es here = cc
get_empty (suc more) zero es here = sym (same_some [] es here)
get_empty (suc more) (suc at) es here = get_empty more at es here

get_padded : (more : ℕ) (lists : List (List Event)) (at : ℕ) (es : List Event) → slice_get (padded more lists) at ≡ Some es → (slice_get lists at ≡ Some es) ⊎ (es ≡ [])
get_padded more [] at es here = inr (get_empty more at es here)
get_padded more (x ∷ lists) zero es here = inl here
get_padded more (x ∷ lists) (suc at) es here = get_padded more lists at es here

get_kept : (more : ℕ) (lists : List (List Event)) (at : ℕ) (es : List Event) → slice_get lists at ≡ Some es → slice_get (padded more lists) at ≡ Some es
get_kept more [] at es here = cc
get_kept more (x ∷ lists) zero es here = here
get_kept more (x ∷ lists) (suc at) es here = get_kept more lists at es here

none_in : {X : Type 0} (at : ℕ) (x : X) → slice_get (let none : List X = [] in none) at ≡ Some x → ⊥
none_in at x here = cc

none_closed : segment [] ≡ 0
unfolding segment
none_closed = refl

-- ---- chains

leads_alike : (P Q : Segment → Segment → Type 0) → ((a b : Segment) → P a b → Q a b) → (a : Segment) (via : List Segment) (b : Segment) → Leads P a via b → Leads Q a via b
leads_alike P Q each a [] b leads = each a b leads
leads_alike P Q each a (c ∷ via) b leads = (each a c leads.0, leads_alike P Q each c via b leads.1)

module _ (more : ℕ) (lists : List (List Event)) where
  -- ---- steps of the lists

  segment_kept : (s : Segment) → IsSegment lists s → IsSegment (padded more lists) s
  segment_kept s is = record { list = is.list; of_thread = get_kept more lists s.thread is.list is.of_thread; within = is.within }

  stands_kept : (s : Segment) (e : Event) → StandsIn lists s e → StandsIn (padded more lists) s e
  stands_kept s e is = record { list = is.list; of_thread = get_kept more lists s.thread is.list is.of_thread; place = is.place; there = is.there; in_segment = is.in_segment }

  step_kept : (a b : Segment) → IsStep lists a b → IsStep (padded more lists) a b
  unfolding segment_kept
  step_kept a b (inl next) = inl (record { real = segment_kept b next.real; same_thread = next.same_thread; one_later = next.one_later })
  step_kept a b (inr (inl fork)) = inr (inl (record { loc = fork.loc; forks = stands_kept _ _ fork.forks; real = segment_kept b fork.real; first = fork.first }))
  step_kept a b (inr (inr join)) =
      inr (inr (record { loc = join.loc; joining = join.joining; joins = stands_kept _ _ join.joins; one_later = join.one_later; real = segment_kept a join.real; last = join.last }))

  -- ---- and no others

  stands_only : (s : Segment) (e : Event) → StandsIn (padded more lists) s e → StandsIn lists s e
  stands_only s e is = go (get_padded more lists s.thread is.list is.of_thread)
    where
      go : (slice_get lists s.thread ≡ Some is.list) ⊎ (is.list ≡ []) → StandsIn lists s e
      go (inl here) = record { list = is.list; of_thread = here; place = is.place; there = is.there; in_segment = is.in_segment }
      go (inr none) = absurd (none_in is.place e (subst (λ es. slice_get es is.place ≡ Some e) none is.there))

  segment_below : (s : Segment) (is : IsSegment (padded more lists) s) → s.thread < length lists → slice_get lists s.thread ≡ Some is.list
  segment_below s is below = sym (get_front lists (replicate more []) s.thread below) ∙ is.of_thread

  segment_later : (s : Segment) → IsSegment (padded more lists) s → 0 < s.index → IsSegment lists s
  segment_later s is later = go (get_padded more lists s.thread is.list is.of_thread)
    where
      go : (slice_get lists s.thread ≡ Some is.list) ⊎ (is.list ≡ []) → IsSegment lists s
      go (inl here) = record { list = is.list; of_thread = here; within = is.within }
      go (inr none) =
          let first : s.index ≤ segment [] = subst (λ es. s.index ≤ segment es) none is.within in
          absurd (omega (arith, later, subst (λ n. s.index ≤ n) none_closed first))

  module _ (all : HaveAll lists) where
    step_only : (a b : Segment) → IsStep (padded more lists) a b → IsStep lists a b
    step_only a b (inl next) = inl (record { real = segment_later b next.real (omega (arith, next.one_later)); same_thread = next.same_thread; one_later = next.one_later })
    step_only a b (inr (inl fork)) =
        let forks = stands_only _ _ fork.forks in
        let below = all.forked a.thread forks.list forks.place b.thread fork.loc forks.of_thread forks.there in
        inr (inl (record {
          loc = fork.loc;
          forks = forks;
          real = record { list = fork.real.list; of_thread = segment_below b fork.real below; within = fork.real.within };
          first = fork.first;
        }))
    step_only a b (inr (inr join)) =
        let joins = stands_only _ _ join.joins in
        let below = all.joined b.thread joins.list joins.place a.thread join.loc joins.of_thread joins.there in
        inr (inr (record {
          loc = join.loc;
          joining = join.joining;
          joins = joins;
          one_later = join.one_later;
          real = record { list = join.real.list; of_thread = segment_below a join.real below; within = join.real.within };
          last = join.last;
        }))

    before_kept : (a b : Segment) → Before lists a b → Before (padded more lists) a b
    before_kept a b is = (is.0, leads_alike (IsStep lists) (IsStep (padded more lists)) step_kept a is.0 b is.1)

    before_only : (a b : Segment) → Before (padded more lists) a b → Before lists a b
    before_only a b is = (is.0, leads_alike (IsStep (padded more lists)) (IsStep lists) step_only a is.0 b is.1)

    ring_only : (ring : List Segment) → IsRing (padded more lists) ring → IsRing lists ring
    ring_only [] rings = absurd rings
    ring_only (s ∷ via) rings = leads_alike (IsStep (padded more lists)) (IsStep lists) step_only s via s rings

    consistent_only : IsConsistent (padded more lists) → IsConsistent lists
    consistent_only is = record { each = λ s loops. is.each s (before_kept s s loops) }

    decides_only : (test : Segment → Segment → Bool) → DecidesBefore (padded more lists) test → DecidesBefore lists test
    decides_only test decides a b = (λ yes. before_only a b ((decides a b).0 yes), λ before. (decides a b).1 (before_kept a b before))

    -- the least segment that is before itself
    pub least_only : (at : Segment) (ring : List Segment) → IsLeastInRing (padded more lists) at ring → IsLeastInRing lists at ring
    least_only at ring is = record { begins = is.begins; rings = ring_only ring is.rings; least = λ s loops. is.least s (before_kept s s loops) }

-- ---- edges

made_none : (more n : ℕ) → flat_map (λ numbered. edges_of_list numbered.0 numbered.1) (enumerate_from n (replicate more (let none : List Event = [] in none))) ≡ []
made_none zero n = refl
made_none (suc more) n = made_none more (n + 1)

made_same : (more n : ℕ) (lists : List (List Event)) → flat_map (λ numbered. edges_of_list numbered.0 numbered.1) (enumerate_from n (padded more lists)) ≡ flat_map (λ numbered. edges_of_list numbered.0 numbered.1) (enumerate_from n lists)
made_same more n [] = made_none more n
made_same more n (es ∷ lists) = ap (λ rest. edges_of_list n es ++ rest) (made_same more (n + 1) lists)

edges_same : (more : ℕ) (lists : List (List Event)) → edges (padded more lists) ≡ edges lists
edges_same more lists = ap once (made_same more 0 lists)

-- ---- the report

pub report_only : (more : ℕ) (lists : List (List Event)) → HaveAll lists → (contents : Contents) (asked : Asked) (report : Report) → IsReportWith contents asked (edges (padded more lists)) (padded more lists) report
    → IsReportWith contents asked (edges lists) lists report
report_only more lists all contents asked report is =
    record {
      consistent = consistent_only more lists all is.consistent;
      before = is.before;
      decides = decides_only more lists all is.before is.decides;
      is = is.is ∙ ap (report_with contents asked is.before) (edges_same more lists);
    }
