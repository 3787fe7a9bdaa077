-- Where no chain of models leads no finding begins, and where none goes round there is none.
use Rattle.std.proofs.Common.{◌≡◌, ℕ, ◌+◌, ◌-◌, ◌<◌, ◌≤◌, Bool, true, List, [], ◌∷◌, ◌++◌, length, map, Some, refl, sym, ap, ◌∙◌, subst, arith, inl, inr}
use Rattle.std.specs.Prelude.{slice_get, All, Contains}
use Rattle.std.specs.List.{cons_option, list_all}
use Rattle.std.proofs.lemmas.Bool.{and_parts, cases_eq}
use Rattle.std.proofs.lemmas.List.{length-append}
use Rattle.std.proofs.lemmas.List.Elements.{All-head, All-tail}
use Rattle.std.proofs.lemmas.Option.{none-some, same_Some, slice_get_within}
use Rattle.gl_event.specs.declared.events.Segment.{Segment}
use Rattle.gl_edges.specs.declared.edge.Edge.{Edge}
use Rattle.gl_filters.specs.declared.query.Mode.{Mode}
use Rattle.gl_filters.specs.Picked.{edges_of_table, picked}
use Rattle.gl_filters.specs.Test.{kinds_go_together, last_of, lead_on, leads_back, leads_to}
use Rattle.gl_index.proofs.Lists.{element_at}
use Rattle.gl_segments.specs.Clocks.{is_before}
use Rattle.gl_walks.specs.declared.purpose.Purpose.{Purpose}
use Rattle.gl_walks.specs.declared.walker.Walker.{Walker}
use Rattle.gl_walks.specs.declared.purpose.Purpose.TheVariants.{Front, Round, Turned}
use Rattle.gl_walks.specs.Walks.{is_front, kinds_together, NoWalk, HasWalkFrom}
use Rattle.gl_grounds.specs.Classes.{classes_of}
use Rattle.gl_findings.specs.Findings.{begins_least}
use Rattle.gl_findings.specs.bodies.Finding.{IsReady, HasSpans, block_of, finding_of}
use Rattle.gl_grounds.specs.Starting.{NoneAt, NoneHolding}
use Rattle.gl_grounds.specs.Spanning.{AreInOrder, AreReached, GoesWith, HaveSpans, IsChain, IsDue, IsOne, KeepSpans, Leads, MayFollow, span_of}
use Rattle.gl_findings.specs.declared.finder.Finder.{Finder}
use Rattle.gl_grounds.specs.declared.spans.Span.{Span}
use Rattle.gl_grounds.specs.declared.spans.Spans.{Spans}
use Rattle.gl_findings.proofs.Below.{block-zero}
use Rattle.gl_findings.proofs.ByPassages.{front_leads, front_together, head, tail}
use Rattle.gl_findings.proofs.Cutting.{none_goes_round, none_goes_ring}
use Rattle.gl_findings.proofs.Modelled.{AllAlike}
use Rattle.gl_findings.proofs.Passed.{none_begins}
use Rattle.gl_findings.proofs.Prepared.{as_long, where_least}
use Rattle.gl_grounds.proofs.SpanSteps.{AreFollowed}

module _ (mode : Mode) (edges : List Edge) (classes : List ℕ) (flags : List Bool) where
  -- a chain of one class more is one of the classes before, and a step
  pub record IsLonger (class j : ℕ) (e f : Edge) (Before : ℕ → Edge → Type 0) : Type 0 where
    pub place : ℕ
    pub last : Edge
    pub before : Before place last
    pub one : IsOne edges classes flags class j f
    pub may : MayFollow mode e last f

  leads_longer : (rest : List ℕ) (class i j : ℕ) (e d f : Edge) → Leads mode edges classes flags e (rest ++ class ∷ []) i j d f → IsLonger class j e f (λ place last. Leads mode edges classes flags e rest i place d last)
  leads_longer [] class i j e d f (place, next, one, may, same) = record {
    place = i;
    last = d;
    before = (refl, refl);
    one = subst (λ (n : ℕ). IsOne edges classes flags class n f) same.0 (subst (IsOne edges classes flags class place) same.1 one);
    may = subst (MayFollow mode e d) same.1 may;
  }
  leads_longer (c ∷ rest) class i j e d f (place, next, one, may, more) =
      let longer = leads_longer rest class place j e next f more in
      record {
        place = longer.place;
        last = longer.last;
        before = (place, next, one, may, longer.before);
        one = longer.one;
        may = longer.may;
      }

  chain_longer : (front : List ℕ) (class i j : ℕ) (e f : Edge) → 0 < length front → IsChain mode edges classes flags (front ++ class ∷ []) i j e f → IsLonger class j e f (λ place last. IsChain mode edges classes flags front i place e last)
  chain_longer [] class i j e f some chain = absurd (omega (arith, some))
  chain_longer (c ∷ rest) class i j e f some (one, leads) =
      let longer = leads_longer rest class i j e e f leads in
      record {
        place = longer.place;
        last = longer.last;
        before = (one, longer.before);
        one = longer.one;
        may = longer.may;
      }

  -- the edges at its ends stand where it says
  leads_at : (rest : List ℕ) (i j : ℕ) (e d f : Edge) → slice_get edges i ≡ Some d → Leads mode edges classes flags e rest i j d f → slice_get edges j ≡ Some f
  leads_at [] i j e d f at same = ap (slice_get edges) (sym same.0) ∙ at ∙ ap Some same.1
  leads_at (class ∷ rest) i j e d f at (place, next, one, may, more) = leads_at rest place j e next f one.at more

  begins_at : (front : List ℕ) (i j : ℕ) (e f : Edge) → IsChain mode edges classes flags front i j e f → slice_get edges i ≡ Some e
  begins_at [] i j e f chain = absurd chain
  begins_at (class ∷ rest) i j e f chain = chain.0.at

  ends_at : (front : List ℕ) (i j : ℕ) (e f : Edge) → IsChain mode edges classes flags front i j e f → slice_get edges j ≡ Some f
  ends_at [] i j e f chain = absurd chain
  ends_at (class ∷ rest) i j e f chain = leads_at rest i j e e f chain.0.at chain.1

  -- so an edge that may follow goes with the ends
  goes_with : (i j class : ℕ) (e d f : Edge) → slice_get edges i ≡ Some e → slice_get edges j ≡ Some d → MayFollow mode e d f → GoesWith mode edges (span_of i j e d class) f
  goes_with i j class e d f first last may = record {
    by_first = λ other at. ap (λ (e : Edge). kinds_go_together mode e f) (same_Some other e (sym at ∙ first)) ∙ may.by_first;
    by_last = λ other at. ap (λ (e : Edge). kinds_go_together mode e f) (same_Some other d (sym at ∙ last)) ∙ may.by_last;
  }

  -- those of a class are the spans of the front that goes on with it
  pub spans_on : (len : ℕ) (front : List ℕ) (class : ℕ) (reached spans : Spans) → AreReached mode edges classes flags len front reached → spans.are_all ≡ reached.are_all → ((span : Span) → Contains reached.list.items span → span.class ≡ class → Contains spans.list.items span)
      → HaveSpans mode edges classes flags len (front ++ class ∷ []) spans
  spans_on len front class reached spans have same has = record { each = λ all i j e f chain due. (class, has (span_of i j e f class) (have.each (sym same ∙ all) class i j e f chain due) refl) }

  -- what goes on from all the spans of a front is reached from it
  pub all_reached : (len : ℕ) (front : List ℕ) (is_last : Bool) (spans found ordered : Spans) → 0 < length front → length front < len → (is_last ≡ true → length front + 1 ≡ len) → HaveSpans mode edges classes flags len front spans
      → AreFollowed mode edges classes flags is_last spans (length spans.list.items) found → KeepSpans found ordered → AreInOrder ordered → AreReached mode edges classes flags len front ordered
  all_reached len front is_last spans found ordered some short last have followed keep in_order = record {
    ordered = in_order;
    each = λ all class i j e f chain due.
        let longer = chain_longer front class i j e f some chain in
        let known = keep.all all in
        let has = have.each (followed.known known) i longer.place e longer.last longer.before (λ is. absurd (omega (arith, is, short))) in
        let (k, within, is) = has.1 in
        let span = span_of i longer.place e longer.last has.0 in
        let together = goes_with i longer.place has.0 e longer.last f (begins_at front i longer.place e longer.last longer.before) (ends_at front i longer.place e longer.last longer.before) longer.may in
        keep.stay (span_of i j e f class) (followed.each k span within is known j f class longer.one longer.may.leads together (λ ends. due (length-append front (class ∷ []) ∙ last ends)));
  }

module _ (mode : Mode) (edges : List Edge) (classes : List ℕ) (flags : List Bool) (long : length classes ≡ length edges) where
  -- the edge at a place that has a class
  there : (class place : ℕ) → slice_get flags place ≡ Some true → slice_get classes place ≡ Some class → (e : Edge) × IsOne edges classes flags class place e
  there class place flag of_class =
      let e = element_at edges place (omega (arith, long, slice_get_within classes place class of_class)) in
      (e.0, record { flagged = flag; of_class = of_class; at = e.1 })

  -- edges of which each leads on to the next one, and that go together, lead from the first to the last
  leads_along : (rest positions : List ℕ) (e : Edge) (i : ℕ) (d : Edge) → All (λ i. slice_get flags i ≡ Some true) positions → map (slice_get classes) positions ≡ map Some rest → lead_on (d ∷ picked edges positions) ≡ true → list_all (kinds_go_together mode e) (picked edges positions) ≡ true
      → kinds_together mode (d ∷ picked edges positions) ≡ true → (j : ℕ) × Leads mode edges classes flags e rest i j d (last_of d (picked edges positions))
  leads_along [] [] e i d flagged told leads goes together = (i, (refl, refl))
  leads_along [] (j ∷ js) e i d flagged told leads goes together = absurd (omega (arith, ap length told))
  leads_along (class ∷ rest) [] e i d flagged told leads goes together = absurd (omega (arith, ap length told))
  leads_along (class ∷ rest) (j ∷ js) e i d flagged told leads goes together =
      let next = there class j (All-head (λ i. slice_get flags i ≡ Some true) j js flagged) (ap head told) in
      let f = next.0 in
      let es = picked edges js in
      let lead = and_parts (leads_to d f) (lead_on (f ∷ es)) (subst (λ o. lead_on (d ∷ cons_option o es) ≡ true) next.1.at leads) in
      let go = and_parts (kinds_go_together mode e f) (list_all (kinds_go_together mode e) es) (subst (λ o. list_all (kinds_go_together mode e) (cons_option o es) ≡ true) next.1.at goes) in
      let kinds = and_parts (list_all (kinds_go_together mode d) (f ∷ es)) (kinds_together mode (f ∷ es)) (subst (λ o. kinds_together mode (d ∷ cons_option o es) ≡ true) next.1.at together) in
      let own = and_parts (kinds_go_together mode d f) (list_all (kinds_go_together mode d) es) kinds.0 in
      let may : MayFollow mode e d f = record { leads = lead.0; by_first = go.0; by_last = own.0 } in
      let more = leads_along rest js e j f (All-tail (λ i. slice_get flags i ≡ Some true) j js flagged) (ap tail told) lead.1 go.1 kinds.1 in
      subst (λ o. (k : ℕ) × Leads mode edges classes flags e (class ∷ rest) i k d (last_of d (cons_option o es))) (sym next.1.at) (more.0, (j, f, next.1, may, more.1))

  -- a chain that a walk has, which leads back where the walk does
  pub record HasChain (signature positions : List ℕ) : Type 0 where
    pub first : ℕ
    pub last : ℕ
    pub begins : Edge
    pub ends : Edge
    pub chain : IsChain mode edges classes flags signature first last begins ends
    pub at_first : slice_get (picked edges positions) 0 ≡ Some begins
    pub back : leads_back (picked edges positions) ≡ true → leads_to ends begins ≡ true

  chain_along : (signature positions : List ℕ) → 0 < length signature → All (λ i. slice_get flags i ≡ Some true) positions → map (slice_get classes) positions ≡ map Some signature → is_front mode (picked edges positions) ≡ true → HasChain signature positions
  chain_along [] positions some flagged told fits = absurd (omega (arith, some))
  chain_along (class ∷ rest) [] some flagged told fits = absurd (omega (arith, ap length told))
  chain_along (class ∷ rest) (i ∷ is) some flagged told fits =
      let e = there class i (All-head (λ i. slice_get flags i ≡ Some true) i is flagged) (ap head told) in
      let es = picked edges is in
      let fit : is_front mode (e.0 ∷ es) ≡ true = subst (λ o. is_front mode (cons_option o es) ≡ true) e.1.at fits in
      let kinds = front_together mode (e.0 ∷ es) fit in
      let go = and_parts (list_all (kinds_go_together mode e.0) es) (kinds_together mode es) kinds in
      let leads = leads_along rest is e.0 i e.0 (All-tail (λ i. slice_get flags i ≡ Some true) i is flagged) (ap tail told) (front_leads mode (e.0 ∷ es) fit) go.0 kinds in
      record {
        first = i;
        last = leads.0;
        begins = e.0;
        ends = last_of e.0 es;
        chain = (e.1, leads.1);
        at_first = ap (λ o. slice_get (cons_option o es) 0) e.1.at;
        back = λ back. subst (λ o. leads_back (cons_option o es) ≡ true) e.1.at back;
      }

  -- a walk of a front begins where a chain does
  pub no_front_from : (before : Segment → Segment → Bool) (signature : List ℕ) → 0 < length signature
      → ((i j : ℕ) (e f : Edge) → IsChain mode edges classes flags signature i j e f → ¬ HasWalkFrom Front before mode edges classes flags signature e.held) → NoWalk Front before mode edges classes flags signature
  no_front_from before signature some none positions walk =
      let has = chain_along signature positions some walk.flagged walk.of_classes walk.fitting in
      none has.first has.last has.begins has.ends has.chain (record { positions = positions; walk = walk; first = has.begins; begins = has.at_first; holds = refl })

  -- and one that goes round where one does that leads back
  pub no_round_from : (before : Segment → Segment → Bool) (signature : List ℕ) → 0 < length signature
      → ((i j : ℕ) (e f : Edge) → IsChain mode edges classes flags signature i j e f → leads_to f e ≡ true → ¬ HasWalkFrom Round before mode edges classes flags signature e.held) → NoWalk Round before mode edges classes flags signature
  no_round_from before signature some none positions walk =
      let both = and_parts (is_front mode (picked edges positions)) (leads_back (picked edges positions)) walk.fitting in
      let has = chain_along signature positions some walk.flagged walk.of_classes both.0 in
      none has.first has.last has.begins has.ends has.chain (has.back both.1) (record { positions = positions; walk = walk; first = has.begins; begins = has.at_first; holds = refl })

  -- without a chain there is no walk
  pub no_front : (before : Segment → Segment → Bool) (signature : List ℕ) → 0 < length signature → ((i j : ℕ) (e f : Edge) → IsChain mode edges classes flags signature i j e f → ⊥) → NoWalk Front before mode edges classes flags signature
  no_front before signature some none positions walk =
      let has = chain_along signature positions some walk.flagged walk.of_classes walk.fitting in
      none has.first has.last has.begins has.ends has.chain

  -- and without one that leads back none goes round
  pub no_round : (before : Segment → Segment → Bool) (signature : List ℕ) → 0 < length signature → ((i j : ℕ) (e f : Edge) → IsChain mode edges classes flags signature i j e f → leads_to f e ≡ true → ⊥) → NoWalk Round before mode edges classes flags signature
  no_round before signature some none positions walk =
      let both = and_parts (is_front mode (picked edges positions)) (leads_back (picked edges positions)) walk.fitting in
      let has = chain_along signature positions some walk.flagged walk.of_classes both.0 in
      none has.first has.last has.begins has.ends has.chain (has.back both.1)

-- the first of edges that are alike holds what the first of the others does
first_alike : (es fs : List Edge) (e : Edge) → AllAlike es fs → slice_get es 0 ≡ Some e → (f : Edge) × (slice_get fs 0 ≡ Some f) × (e.held ≡ f.held)
first_alike [] fs e all at = absurd (none-some e at)
first_alike (d ∷ es) [] e all at = absurd all
first_alike (d ∷ es) (f ∷ fs) e all at = (f, refl, ap (λ (c : Edge). c.held) (sym (same_Some d e at)) ∙ all.0.held)

module _ (s : Finder) (ready : IsReady s) where
  -- chains of models, by the search's edges
  abbrev pub ChainOf : List ℕ → ℕ → ℕ → Edge → Edge → Type 0
  ChainOf signature i j e f = IsChain s.mode (edges_of_table s.table.now) (classes_of s.table.now) s.among_models.ground.flags.now signature i j e f

  -- a signature of which no chain leads back has no finding
  pub none_closed : (signature : List ℕ) → 0 < length signature → ((i j : ℕ) (e f : Edge) → ChainOf signature i j e f → leads_to f e ≡ true → ⊥) → finding_of s signature ≡ []
  none_closed signature some none =
      where_least (begins_least signature)
      (none_goes_round (is_before s.order.now) s.mode s.len s.table.now s.among_kept.ground.flags.now s.among_models.ground.flags.now ready.kept ready.models signature
      (no_round s.mode (edges_of_table s.table.now) (classes_of s.table.now) s.among_models.ground.flags.now (as_long s.table.now) (is_before s.order.now) signature some none))

  -- what a walker over these doesn't find isn't there
  pub among_models : (purpose : Purpose) (signature : List ℕ) (lock : ℕ) → NoneHolding s.among_models purpose signature lock → ¬ HasWalkFrom purpose (is_before s.order.now) s.mode (edges_of_table s.table.now) (classes_of s.table.now) s.among_models.ground.flags.now signature lock
  among_models purpose signature lock none = let o = ready.over_models in rw (o.same_order, o.same_mode, o.same_table, o.same_classes) at none

  pub among_kept : (purpose : Purpose) (signature : List ℕ) (lock : ℕ) → NoneHolding s.among_kept purpose signature lock → ¬ HasWalkFrom purpose (is_before s.order.now) s.mode (edges_of_table s.table.now) (classes_of s.table.now) s.among_kept.ground.flags.now signature lock
  among_kept purpose signature lock none = let o = ready.over_kept in rw (o.same_order, o.same_mode, o.same_table, o.same_classes) at none

  -- spans of which none begins a walk
  abbrev pub NoneBegins : Walker → Purpose → List ℕ → Spans → Type 0
  NoneBegins walker purpose signature spans = (span : Span) → Contains spans.list.items span → NoneAt walker purpose signature span

  -- a front that none begins has no finding
  pub none_begun : (n : ℕ) (front : List ℕ) (spans : Spans) → 0 < length front → ¬ (length front ≡ s.len) → HasSpans s front spans → spans.are_all ≡ true → NoneBegins s.among_models Front front spans → block_of s n front ≡ []
  none_begun n front spans some room have all none =
      none_begins (is_before s.order.now) s.mode s.len s.table.now s.among_kept.ground.flags.now s.among_models.ground.flags.now ready.kept ready.models n front
      (no_front_from s.mode (edges_of_table s.table.now) (classes_of s.table.now) s.among_models.ground.flags.now (as_long s.table.now) (is_before s.order.now) front some
      (λ i j e f chain.
      let has = have.each all i j e f chain (λ is. absurd (room is)) in
      among_models Front front e.held (none (span_of i j e f has.0) has.1 (λ other. absurd (other refl)))))

  -- nor has a signature of which none begins a round
  pub none_rounded : (signature : List ℕ) (spans : Spans) → 0 < length signature → HasSpans s signature spans → spans.are_all ≡ true → NoneBegins s.among_models Round signature spans → finding_of s signature ≡ []
  none_rounded signature spans some have all none =
      where_least (begins_least signature)
      (none_goes_round (is_before s.order.now) s.mode s.len s.table.now s.among_kept.ground.flags.now s.among_models.ground.flags.now ready.kept ready.models signature
      (no_round_from s.mode (edges_of_table s.table.now) (classes_of s.table.now) s.among_models.ground.flags.now (as_long s.table.now) (is_before s.order.now) signature some
      (λ i j e f chain leads.
      let has = have.each all i j e f chain (λ is. leads) in
      among_models Round signature e.held (none (span_of i j e f has.0) has.1 (λ other. leads)))))

  -- nor has one of which no ring begins where a chain does
  pub none_ringed : (signature : List ℕ) → 0 < length signature
      → ((i j : ℕ) (e f : Edge) → ChainOf signature i j e f → leads_to f e ≡ true → ¬ HasWalkFrom Turned (is_before s.order.now) s.mode (edges_of_table s.table.now) (classes_of s.table.now) s.among_kept.ground.flags.now signature e.held) → finding_of s signature ≡ []
  none_ringed signature some none =
      where_least (begins_least signature)
      (none_goes_ring (is_before s.order.now) s.mode s.len s.table.now s.among_kept.ground.flags.now s.among_models.ground.flags.now ready.kept ready.models signature
      (λ is.
      let edges = edges_of_table s.table.now in
      let has = chain_along s.mode edges (classes_of s.table.now) s.among_models.ground.flags.now (as_long s.table.now) signature is.model.places some is.model.flagged is.model.of_classes is.model.in_front in
      let one = first_alike (picked edges is.model.places) (picked edges is.positions) has.begins is.alike has.at_first in
      none has.first has.last has.begins has.ends has.chain (has.back is.model.round) (record { positions = is.positions; walk = is.ring; first = one.0; begins = one.1; holds = sym one.2 })))

  pub none_rung : (signature : List ℕ) (spans : Spans) → 0 < length signature → HasSpans s signature spans → spans.are_all ≡ true → NoneBegins s.among_kept Turned signature spans → finding_of s signature ≡ []
  none_rung signature spans some have all none =
      none_ringed signature some
      (λ i j e f chain leads.
      let has = have.each all i j e f chain (λ is. leads) in
      among_kept Turned signature e.held (none (span_of i j e f has.0) has.1 (λ other. leads)))

  -- none begins where no chain is due
  none_due : (signature : List ℕ) → 0 < length signature → length signature ≤ s.len → ((i j : ℕ) (e f : Edge) → ChainOf signature i j e f → IsDue s.len signature e f → ⊥) → block_of s (s.len - length signature) signature ≡ []
  none_due signature some short none =
      elim (cases_eq (length signature) s.len) [
        | inl full ↦
            let left : 0 ≡ s.len - length signature = omega (arith, full) in
            subst (λ n. block_of s n signature ≡ []) left
            (block-zero (is_before s.order.now) s.mode s.len s.table.now signature ∙ none_closed signature some (λ i j e f chain leads. none i j e f chain (λ is. leads)))
        | inr room ↦
            none_begins (is_before s.order.now) s.mode s.len s.table.now s.among_kept.ground.flags.now s.among_models.ground.flags.now ready.kept ready.models (s.len - length signature) signature
            (no_front s.mode (edges_of_table s.table.now) (classes_of s.table.now) s.among_models.ground.flags.now (as_long s.table.now) (is_before s.order.now) signature some (λ i j e f chain. none i j e f chain (λ is. absurd (room is))))
      ]

  -- so it is with a front that goes on with a class
  pub none_on : (front : List ℕ) (class : ℕ) → length front < s.len → ((i j : ℕ) (e f : Edge) → ChainOf (front ++ class ∷ []) i j e f → IsDue s.len (front ++ class ∷ []) e f → ⊥) → block_of s (s.len - length front - 1) (front ++ class ∷ []) ≡ []
  none_on front class short none =
      let long = length-append front (class ∷ []) in
      let left : s.len - length (front ++ class ∷ []) ≡ s.len - length front - 1 = omega (arith, long) in
      subst (λ n. block_of s n (front ++ class ∷ []) ≡ []) left (none_due (front ++ class ∷ []) (omega (arith, long)) (omega (arith, long, short)) none)
