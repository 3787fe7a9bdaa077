-- Edges to which none of a cycle is alike.
use Rattle.std.proofs.Common.{◌≡◌, ◌≢◌, ℕ, zero, suc, ◌+◌, ◌-◌, ◌<◌, ◌≤◌, ◌⊎◌, Bool, true, false, not, ◌&&◌, eqb, ltb, List, [], ◌∷◌, ◌++◌, length, get_or, set, Option, Some, None, sym, ap, subst, ◌∙◌, arith, inl, inr}
use Rattle.std.specs.Prelude.{slice_get, All}
use Rattle.std.proofs.lemmas.Bool.{and_parts, and_from, cases_Bool, cases_eq, false≢true, ltb-true, ltb-false}
use Rattle.std.proofs.lemmas.List.{length-map, length_push}
use Rattle.std.proofs.lemmas.Option.{slice_get-get_or, slice_get_within, get_or_from_slice_get, same_Some}
use Rattle.gl_event.specs.declared.events.Segment.{Segment}
use Rattle.gl_edges.specs.declared.edge.Edge.{Edge}
use Rattle.gl_edges.specs.declared.edge.Sample.{Sample}
use Rattle.gl_event.specs.Modes.{conflict}
use Rattle.gl_filters.specs.Cycle.{asks_guards, IsCycle}
use Rattle.gl_filters.specs.declared.query.Mode.{Mode}
use Rattle.gl_edges.specs.Clashes.{guards_clash}
use Rattle.gl_filters.specs.Test.{leads_to, goes_with, kinds_go_together}
use Rattle.gl_filters.proofs.Cycling.{leads_from, leads_same}
use Rattle.gl_filters.proofs.Round.{pair_goes, pair_goes_by_kind, leads_round}
use Rattle.gl_filters.specs.Picked.{edges_of_table}
use Rattle.gl_kinds.specs.bodies.Kinds.{AreAlike, may_meet, HasModel, AreModels, GoesThrough, LastLeadsTo, MayMeetAll, NoCycleThrough, CyclesHaveModels, AreTried}
use Rattle.gl_kinds.specs.declared.grains.Grain.{Grain}
use Rattle.gl_kinds.specs.declared.grains.Grain.TheVariants.{ByKind, ByThread, BySegment}
use Rattle.gl_index.specs.Listed.{IsNextWith}
use Rattle.gl_index.specs.Indexes.{held_lock}
use Rattle.gl_sought.specs.OffCycles.{IsOffCycles, KeepsCycles}
use Rattle.gl_sought.specs.Places.{place_after}
use Rattle.gl_sought.proofs.Back.{kept_at}
use Rattle.gl_sought.proofs.Places.{place_within, place_first, place_round, place_follows, places_differ}
use Rattle.gl_index.proofs.Lists.{set_here, push_before, push_at_end, element_at}
use Rattle.gl_index.proofs.Tables.{edge_at, AreWithin}

-- the edge at a flag that is set is a model
pub model_here : (grain : Grain) (table : List (Edge × Sample)) (flags : List Bool) (model : ℕ) (e : Edge) → length flags ≡ length table → model < length table
    → ((d : Edge) → slice_get (edges_of_table table) model ≡ Some d → AreAlike grain d e) → HasModel grain (edges_of_table table) (set flags model true) e
model_here grain table flags model e long within alike =
    let here = element_at (edges_of_table table) model (omega (arith, within, length-map table (λ pair. pair.0))) in
    record { place = model; model = here.0; stands = here.1; flagged = set_here flags model true (omega (arith, long, within)); alike = alike here.0 here.1 }

-- with more flags a model stays one
stays_model : (grain : Grain) (edges : List Edge) (flags more : List Bool) (e : Edge) → ((j : ℕ) → slice_get flags j ≡ Some true → slice_get more j ≡ Some true) → HasModel grain edges flags e → HasModel grain edges more e
stays_model grain edges flags more e stay had = record { place = had.place; model = had.model; stands = had.stands; flagged = stay had.place had.flagged; alike = had.alike }

-- models of one edge more
pub models_more : (grain : Grain) (edges : List Edge) (kept flags more : List Bool) (n : ℕ) → ((i : ℕ) (e : Edge) → i < n → slice_get edges i ≡ Some e → slice_get kept i ≡ Some true → HasModel grain edges flags e)
    → ((j : ℕ) → slice_get flags j ≡ Some true → slice_get more j ≡ Some true) → ((e : Edge) → slice_get edges n ≡ Some e → slice_get kept n ≡ Some true → HasModel grain edges more e)
    → (i : ℕ) (e : Edge) → i < n + 1 → slice_get edges i ≡ Some e → slice_get kept i ≡ Some true → HasModel grain edges more e
models_more grain edges kept flags more n had stay here i e below at keep =
    elim (cases_eq i n) [
      | inl same ↦ here e (sym (ap (slice_get edges) same) ∙ at) (sym (ap (slice_get kept) same) ∙ keep)
      | inr other ↦ stays_model grain edges flags more e stay (had i e (omega arith) at keep)
    ]

-- and of all
pub models_of_all : (grain : Grain) (table : List (Edge × Sample)) (kept flags : List Bool) (n : ℕ) → length table ≤ n
    → ((i : ℕ) (e : Edge) → i < n → slice_get (edges_of_table table) i ≡ Some e → slice_get kept i ≡ Some true → HasModel grain (edges_of_table table) flags e) → AreModels grain (edges_of_table table) kept flags
models_of_all grain table kept flags n whole each i e at keep =
    each i e (omega (arith, slice_get_within (edges_of_table table) i e at, length-map table (λ pair. pair.0), whole)) at keep

-- a position on a path
pub within_at : (edges : List Edge) (path : List ℕ) → AreWithin edges path → (m i : ℕ) → slice_get path m ≡ Some i → i < length edges
within_at edges path inside m i at = subst (λ j. j < length edges) (get_or_from_slice_get path m i 0 at) (inside m 0 (slice_get_within path m i at))

-- ---- edges that are alike

leads_alike : (grain : Grain) (d e f g : Edge) → AreAlike grain d f → AreAlike grain e g → leads_to f g ≡ true → leads_to d e ≡ true
leads_alike grain d e f g first second leads = (λ i. eqb (first.of_one_kind.wanted i) (second.of_one_kind.held i) && conflict (first.of_one_kind.wanted_mode i) (second.of_one_kind.held_mode i)) ∙ leads

-- edges with the same threads and segments are the same
same_edge : (d f : Edge) → AreAlike BySegment d f → d ≡ f
same_edge d f alike = λ i. record {
  thread = alike.made.0 i;
  held = alike.of_one_kind.held i;
  held_mode = alike.of_one_kind.held_mode i;
  wanted = alike.of_one_kind.wanted i;
  wanted_mode = alike.of_one_kind.wanted_mode i;
  first = alike.made.1.0 i;
  second = alike.made.1.1 i;
  guards = alike.of_one_kind.guards i;
}

kinds_alike : (mode : Mode) (grain : Grain) (d e f g : Edge) → AreAlike grain d f → AreAlike grain e g → kinds_go_together mode f g ≡ true → kinds_go_together mode d e ≡ true
unfolding kinds_go_together
kinds_alike mode grain d e f g first second goes = (λ i. not (eqb (first.of_one_kind.held i) (second.of_one_kind.held i)) && not (asks_guards mode && guards_clash (first.of_one_kind.guards i) (second.of_one_kind.guards i))) ∙ goes

-- edges that go together have different threads
threads_apart : (before : Segment → Segment → Bool) (mode : Mode) (e f : Edge) → goes_with before mode e f ≡ true → not (eqb e.thread f.thread) ≡ true
unfolding goes_with
threads_apart before mode e f goes = (and_parts (not (eqb e.held f.held)) _ (and_parts (not (eqb e.held f.held) && not (eqb e.thread f.thread)) _ goes).0).1

-- what is alike to edges that go together may meet
pub meet_alike : (before : Segment → Segment → Bool) (mode : Mode) (grain : Grain) (d e f g : Edge) → AreAlike grain d f → AreAlike grain e g
    → kinds_go_together mode f g ≡ true → goes_with before mode f g ≡ true → may_meet before mode grain d e ≡ true
meet_alike before mode ByKind d e f g first second kinds goes = kinds_alike mode ByKind d e f g first second kinds
meet_alike before mode ByThread d e f g first second kinds goes =
    and_from _ _ ((λ i. not (eqb (first.made i) (second.made i))) ∙ threads_apart before mode f g goes) (kinds_alike mode ByThread d e f g first second kinds)
meet_alike before mode BySegment d e f g first second kinds goes = (λ i. goes_with before mode (same_edge d f first i) (same_edge e g second i)) ∙ goes

module _ (before : Segment → Segment → Bool) (mode : Mode) (grain : Grain) (len : ℕ) (edges : List Edge) (cycle : List Edge) (is : IsCycle before mode len cycle) (k : ℕ) where
  -- what a path through the cycle leads on to
  leads_next : (path : List ℕ) → GoesThrough grain edges cycle k path → 0 < length path → (g f : Edge) → slice_get cycle (place_after (length cycle) k (length path)) ≡ Some g → AreAlike grain f g → LastLeadsTo edges path f
  leads_next path through some g f next alike i e at_i at_e =
      let m = length path - 1 in
      let here = element_at cycle (place_after (length cycle) k m) (place_within (length cycle) k m through.within (omega (arith, through.fits))) in
      let place : place_after (length cycle) k (m + 1) ≡ place_after (length cycle) k (length path) = (let e : m + 1 ≡ length path = omega arith in ap (place_after (length cycle) k) e) in
      let follows = place_follows (length cycle) k m through.within (omega (arith, through.fits)) in
      leads_alike grain e f here.0 g (through.alike m i e here.0 at_i at_e here.1) alike
      (leads_from here.0 g (leads_round before mode len cycle is (place_after (length cycle) k m) here.0 g here.1 (ap (slice_get cycle) (follows ∙ place) ∙ next)))

  -- and what goes with it
  goes_next : (path : List ℕ) → GoesThrough grain edges cycle k path → length path < length cycle → (g f : Edge) → slice_get cycle (place_after (length cycle) k (length path)) ≡ Some g → AreAlike grain f g → MayMeetAll before mode grain edges path f
  goes_next path through more g f next alike m i e at_i at_e =
      let below = slice_get_within path m i at_i in
      let here = element_at cycle (place_after (length cycle) k m) (place_within (length cycle) k m through.within (omega (arith, through.fits))) in
      let apart = places_differ (length cycle) k m (length path) through.within below more in
      meet_alike before mode grain e f here.0 g (through.alike m i e here.0 at_i at_e here.1) alike
      (pair_goes_by_kind before mode len cycle is (place_after (length cycle) k m) (place_after (length cycle) k (length path)) here.0 g apart here.1 next)
      (pair_goes before mode len cycle is (place_after (length cycle) k m) (place_after (length cycle) k (length path)) here.0 g apart here.1 next)

  -- a path through the whole cycle is closed
  pub closes : (path : List ℕ) → GoesThrough grain edges cycle k path → length path ≡ length cycle → (i : ℕ) (f : Edge) → slice_get path 0 ≡ Some i → slice_get edges i ≡ Some f → LastLeadsTo edges path f
  closes path through whole i f at_i at_f =
      let here = element_at cycle k through.within in
      let start = ap (slice_get cycle) (place_first (length cycle) k through.within) ∙ here.1 in
      let round : place_after (length cycle) k (length path) ≡ k = ap (place_after (length cycle) k) whole ∙ place_round (length cycle) k through.within in
      leads_next path through (omega (arith, whole, is.two_or_more)) here.0 f (ap (slice_get cycle) round ∙ here.1) (through.alike 0 i f here.0 at_i at_f start)

  -- one that goes on to a model
  pub through_more : (path : List ℕ) → GoesThrough grain edges cycle k path → length path < length cycle → (g d : Edge) (place : ℕ) → slice_get cycle (place_after (length cycle) k (length path)) ≡ Some g
      → slice_get edges place ≡ Some d → AreAlike grain d g → GoesThrough grain edges cycle k (path ++ place ∷ [])
  through_more path through more g d place next stands alike = record {
    within = through.within;
    fits = omega (arith, length_push path place);
    alike = λ m i e f at_i at_e at_f.
        elim (cases_eq m (length path)) [
          | inl same ↦
              let i_is : place ≡ i = same_Some place i (sym (push_at_end path place) ∙ ap (slice_get (path ++ place ∷ [])) (sym same) ∙ at_i) in
              let e_is : d ≡ e = same_Some d e (sym stands ∙ ap (slice_get edges) i_is ∙ at_e) in
              let f_is : g ≡ f = same_Some g f (sym next ∙ ap (λ o. slice_get cycle (place_after (length cycle) k o)) (sym same) ∙ at_f) in
              subst (λ x. AreAlike grain x f) e_is (subst (AreAlike grain d) f_is alike)
          | inr other ↦
              let below = slice_get_within (path ++ place ∷ []) m i at_i in
              through.alike m i e f (sym (push_before path place m (omega (arith, length_push path place))) ∙ at_i) at_e at_f
        ];
  }

  -- a path that goes on was gone as far
  through_less : (path : List ℕ) (place : ℕ) → GoesThrough grain edges cycle k (path ++ place ∷ []) → GoesThrough grain edges cycle k path
  through_less path place through = record {
    within = through.within;
    fits = omega (arith, length_push path place, through.fits);
    alike = λ m i e f at_i at_e at_f. through.alike m i e f (push_before path place m (slice_get_within path m i at_i) ∙ at_i) at_e at_f;
  }

  -- the model that a path goes on to can join it
  pub joins_leads : (path : List ℕ) (place : ℕ) (f : Edge) → 0 < length path → GoesThrough grain edges cycle k (path ++ place ∷ []) → slice_get edges place ≡ Some f → LastLeadsTo edges path f
  joins_leads path place f some through stands =
      let next = element_at cycle (place_after (length cycle) k (length path)) (place_within (length cycle) k (length path) through.within (omega (arith, length_push path place, through.fits))) in
      leads_next path (through_less path place through) some next.0 f next.1 (through.alike (length path) place f next.0 (push_at_end path place) stands next.1)

  pub joins_goes : (path : List ℕ) (place : ℕ) (f : Edge) → GoesThrough grain edges cycle k (path ++ place ∷ []) → slice_get edges place ≡ Some f → MayMeetAll before mode grain edges path f
  joins_goes path place f through stands =
      let next = element_at cycle (place_after (length cycle) k (length path)) (place_within (length cycle) k (length path) through.within (omega (arith, length_push path place, through.fits))) in
      goes_next path (through_less path place through) (omega (arith, length_push path place, through.fits)) next.0 f next.1 (through.alike (length path) place f next.0 (push_at_end path place) stands next.1)

  -- where all models that hold the lock which the last edge wants were tried, and the path isn't closed, the cycle doesn't go through it
  pub none_through : (flags : List Bool) (path : List ℕ) (last : ℕ) (e : Edge) → 0 < length path → slice_get path (length path - 1) ≡ Some last → slice_get edges last ≡ Some e
      → ((j : ℕ) (f : Edge) → slice_get cycle j ≡ Some f → HasModel grain edges flags f)
      → (2 ≤ length path → (i : ℕ) (f : Edge) → slice_get path 0 ≡ Some i → slice_get edges i ≡ Some f → ¬ LastLeadsTo edges path f)
      → ((i : ℕ) (d : Edge) → slice_get edges i ≡ Some d → slice_get flags i ≡ Some true → d.held ≡ e.wanted → ¬ GoesThrough grain edges cycle k (path ++ i ∷ []))
      → AreWithin edges path → ¬ GoesThrough grain edges cycle k path
  none_through flags path last e some at_last at_e models unclosed tried inside through =
      elim (cases_eq (length path) (length cycle)) [
        | inl whole ↦
            let first = element_at path 0 some in
            let start = element_at edges first.0 (within_at edges path inside 0 first.0 first.1) in
            unclosed (omega (arith, whole, is.two_or_more)) first.0 start.0 first.1 start.1 (closes path through whole first.0 start.0 first.1 start.1)
        | inr part ↦
            let next = element_at cycle (place_after (length cycle) k (length path)) (place_within (length cycle) k (length path) through.within through.fits) in
            let model = models (place_after (length cycle) k (length path)) next.0 next.1 in
            let leads = leads_next path through some next.0 model.model next.1 model.alike last e at_last at_e in
            tried model.place model.model model.stands model.flagged (sym (leads_same e model.model leads)) (through_more path through (omega (arith, through.fits, part)) next.0 model.model model.place next.1 model.stands model.alike)
      ]

module _ (before : Segment → Segment → Bool) (mode : Mode) (grain : Grain) (len : ℕ) (edges : List Edge) (flags : List Bool) where
  -- before the first model is tried
  pub tried_begin : (path : List ℕ) (lock : ℕ) (next : Option ℕ) → IsNextWith held_lock edges flags lock 0 next → AreTried before mode grain len edges flags path lock next
  tried_begin path lock next is = record {
    reaches = is.within;
    holds = is.holds;
    tried = λ i e below at flagged holds. passed_over i e (is.skipped i e (omega arith) below at) flagged holds;
  }
    where
      passed_over : (i : ℕ) (e : Edge) → (e.held ≢ lock) ⊎ (slice_get flags i ≡ Some false) → slice_get flags i ≡ Some true → e.held ≡ lock → NoCycleThrough before mode grain len edges (path ++ i ∷ [])
      passed_over i e (inl other) flagged holds = absurd (other holds)
      passed_over i e (inr unset) flagged holds = absurd (false≢true (same_Some false true (sym unset ∙ flagged)))

  -- and after one more
  pub tried_more : (path : List ℕ) (lock i : ℕ) (next : Option ℕ) → AreTried before mode grain len edges flags path lock (Some i) → NoCycleThrough before mode grain len edges (path ++ i ∷ []) → IsNextWith held_lock edges flags lock (i + 1) next
      → AreTried before mode grain len edges flags path lock next
  tried_more path lock i next had none is = record {
    reaches = is.within;
    holds = is.holds;
    tried = λ j e below at flagged holds.
        elim (cases_eq j i) [
          | inl same ↦ subst (λ m. NoCycleThrough before mode grain len edges (path ++ m ∷ [])) (sym same) none
          | inr other ↦
              elim (cases_Bool (ltb j i)) [
                | inl lower ↦ had.tried j e (ltb-true j i lower) at flagged holds
                | inr higher ↦ passed_over j e (is.skipped j e (omega (arith, ltb-false j i higher, other)) below at) flagged holds
              ]
        ];
  }
    where
      passed_over : (j : ℕ) (e : Edge) → (e.held ≢ lock) ⊎ (slice_get flags j ≡ Some false) → slice_get flags j ≡ Some true → e.held ≡ lock → NoCycleThrough before mode grain len edges (path ++ j ∷ [])
      passed_over j e (inl other) flagged holds = absurd (other holds)
      passed_over j e (inr unset) flagged holds = absurd (false≢true (same_Some false true (sym unset ∙ flagged)))

  -- where all were tried no cycle goes through the path
  pub none_after : (path : List ℕ) (last : ℕ) (e : Edge) → 0 < length path → AreWithin edges path → slice_get path (length path - 1) ≡ Some last → slice_get edges last ≡ Some e → CyclesHaveModels before mode grain len edges flags
      → (2 ≤ length path → (i : ℕ) (f : Edge) → slice_get path 0 ≡ Some i → slice_get edges i ≡ Some f → ¬ LastLeadsTo edges path f) → AreTried before mode grain len edges flags path e.wanted None
      → NoCycleThrough before mode grain len edges path
  none_after path last e some inside at_last at_e models unclosed had cycle k among is through =
      none_through before mode grain len edges cycle is k flags path last e some at_last at_e (λ j f at. models cycle j f among is at) unclosed
      (λ i d at flagged holds. had.tried i d (slice_get_within edges i d at) at flagged holds cycle k among is) inside through

  -- nor through one that is as long as a cycle may be, and not closed
  pub none_longer : (path : List ℕ) → AreWithin edges path → 0 < length path → len ≤ length path
      → (2 ≤ length path → (i : ℕ) (f : Edge) → slice_get path 0 ≡ Some i → slice_get edges i ≡ Some f → ¬ LastLeadsTo edges path f) → NoCycleThrough before mode grain len edges path
  none_longer path inside some long unclosed cycle k among is through =
      let first = element_at path 0 some in
      let start = element_at edges first.0 (within_at edges path inside 0 first.0 first.1) in
      let whole : length path ≡ length cycle = omega (arith, through.fits, is.not_too_long, long) in
      unclosed (omega (arith, whole, is.two_or_more)) first.0 start.0 first.1 start.1 (closes before mode grain len edges cycle is k path through whole first.0 start.0 first.1 start.1)

  -- nor through one whose last edge can't join the others
  pub none_joins : (path : List ℕ) (next : ℕ) (f : Edge) → 0 < length path → slice_get edges next ≡ Some f → (LastLeadsTo edges path f → ¬ MayMeetAll before mode grain edges path f) → NoCycleThrough before mode grain len edges (path ++ next ∷ [])
  none_joins path next f some at stray cycle k among is through =
      stray (joins_leads before mode grain len edges cycle is k path next f some through at) (joins_goes before mode grain len edges cycle is k path next f through at)

  -- so an edge is in no cycle where none goes through what is alike to it
  pub off_by_model : (i : ℕ) (d e : Edge) → slice_get edges i ≡ Some d → AreAlike grain d e → NoCycleThrough before mode grain len edges (i ∷ []) → IsOffCycles before mode len edges e
  off_by_model i d e stands alike none cycle among is in_it =
      let (k, below, same) = in_it in
      none cycle k among is (record { within = below; fits = omega (arith, is.two_or_more); alike = by k below same })
    where
      by : (k : ℕ) → k < length cycle → get_or cycle k e ≡ e → (m j : ℕ) (c f : Edge) → slice_get (i ∷ []) m ≡ Some j → slice_get edges j ≡ Some c → slice_get cycle (place_after (length cycle) k m) ≡ Some f → AreAlike grain c f
      by k below same zero j c f at_j at_c at_f =
          let c_is : d ≡ c = same_Some d c (sym stands ∙ ap (slice_get edges) (same_Some i j at_j) ∙ at_c) in
          let f_is : e ≡ f = same_Some e f (ap Some (sym same) ∙ sym (slice_get-get_or cycle k e below) ∙ ap (slice_get cycle) (sym (place_first (length cycle) k below)) ∙ at_f) in
          subst (λ x. AreAlike grain x f) c_is (subst (AreAlike grain d) f_is alike)
      by k below same (suc m) j c f at_j at_c at_f = absurd (cc)

  -- each edge of a cycle has a model where each edge that is kept has one
  pub cycles_have_models : (kept : List Bool) → KeepsCycles before mode len edges kept → AreModels grain edges kept flags → CyclesHaveModels before mode grain len edges flags
  cycles_have_models kept keeps models cycle j e among is at =
      let (i, there, flag) = kept_at before mode len edges kept keeps cycle among is j e at in
      models i e there flag

-- ---- what tests of a path by its table tell

-- a position on a path over a table
on_path : (table : List (Edge × Sample)) (path : List ℕ) (m : ℕ) (d : Edge × Sample) → All (λ i. i < length table) path → m < length path
    → (slice_get path m ≡ Some (get_or path m 0)) × (slice_get (edges_of_table table) (get_or path m 0) ≡ Some (get_or table (get_or path m 0) d).0)
on_path table path m d inside below = (slice_get-get_or path m 0 below, edge_at table (get_or path m 0) d (inside m 0 below))

pub last_tells : (table : List (Edge × Sample)) (path : List ℕ) (d : Edge × Sample) (f : Edge) → All (λ i. i < length table) path → 0 < length path → LastLeadsTo (edges_of_table table) path f
    → leads_to (get_or table (get_or path (length path - 1) 0) d).0 f ≡ true
last_tells table path d f inside some leads =
    let at = on_path table path (length path - 1) d inside (omega arith) in
    leads (get_or path (length path - 1) 0) (get_or table (get_or path (length path - 1) 0) d).0 at.0 at.1

pub meets_tell : (before : Segment → Segment → Bool) (mode : Mode) (grain : Grain) (table : List (Edge × Sample)) (path : List ℕ) (m : ℕ) (d : Edge × Sample) (f : Edge) → All (λ i. i < length table) path → m < length path → MayMeetAll before mode grain (edges_of_table table) path f
    → may_meet before mode grain (get_or table (get_or path m 0) d).0 f ≡ true
meets_tell before mode grain table path m d f inside below goes =
    let at = on_path table path m d inside below in
    goes m (get_or path m 0) (get_or table (get_or path m 0) d).0 at.0 at.1

-- the edge at the first position
pub first_is : (table : List (Edge × Sample)) (path : List ℕ) (d : Edge × Sample) (i : ℕ) (f : Edge) → All (λ i. i < length table) path → 0 < length path → slice_get path 0 ≡ Some i → slice_get (edges_of_table table) i ≡ Some f
    → f ≡ (get_or table (get_or path 0 0) d).0
first_is table path d i f inside some at_i at_f =
    let at = on_path table path 0 d inside some in
    let i_is : i ≡ get_or path 0 0 = same_Some i (get_or path 0 0) (sym at_i ∙ at.0) in
    same_Some f (get_or table (get_or path 0 0) d).0 (sym at_f ∙ ap (slice_get (edges_of_table table)) i_is ∙ at.1)

-- one flag more of what no cycle goes through
pub dead_more : (before : Segment → Segment → Bool) (mode : Mode) (grain : Grain) (len : ℕ) (edges : List Edge) (flags : List Bool) (n : ℕ) (flag : Bool) → length flags ≡ n
    → ((j : ℕ) → slice_get flags j ≡ Some true → NoCycleThrough before mode grain len edges (j ∷ [])) → (flag ≡ true → NoCycleThrough before mode grain len edges (n ∷ []))
    → (j : ℕ) → slice_get (flags ++ flag ∷ []) j ≡ Some true → NoCycleThrough before mode grain len edges (j ∷ [])
dead_more before mode grain len edges flags n flag long had here j at =
    elim (cases_eq j n) [
      | inl same ↦
          let set_here : flag ≡ true = same_Some flag true (sym (push_at_end flags flag) ∙ ap (slice_get (flags ++ flag ∷ [])) (long ∙ sym same) ∙ at) in
          subst (λ m. NoCycleThrough before mode grain len edges (m ∷ [])) (sym same) (here set_here)
      | inr other ↦
          let below = slice_get_within (flags ++ flag ∷ []) j true at in
          had j (sym (push_before flags flag j (omega (arith, length_push flags flag, long))) ∙ at)
    ]
