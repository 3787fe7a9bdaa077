-- Gaps that no cycle closes.
use Rattle.std.proofs.Common.{◌≡◌, ℕ, zero, suc, ◌+◌, ◌<◌, ◌≤◌, ◌⊎◌, Bool, true, false, ◌&&◌, eqb, List, [], ◌∷◌, length, get_or, Some, refl, sym, ap, subst, ◌∙◌, arith, inl, inr}
use Rattle.std.specs.Prelude.{slice_get, Contains}
use Rattle.std.proofs.lemmas.Bool.{and_from, cases_eq, eq-eqb, false≢true}
use Rattle.std.proofs.lemmas.Option.{slice_get-get_or, same_Some}
use Rattle.gl_event.specs.declared.events.Segment.{Segment}
use Rattle.gl_event.specs.Modes.{conflict}
use Rattle.gl_event.specs.declared.events.LockMode.{LockMode}
use Rattle.gl_edges.specs.declared.edge.Edge.{Edge}
use Rattle.gl_filters.specs.Cycle.{IsCycle, LeadsOn}
use Rattle.gl_filters.specs.declared.query.Mode.{Mode}
use Rattle.gl_filters.proofs.Round.{pair_goes, pair_goes_by_kind, leads_round}
use Rattle.gl_edges.specs.declared.edge.Sample.{Sample}
use Rattle.gl_filters.specs.Picked.{edges_of_table}
use Rattle.gl_kinds.specs.bodies.Kinds.{AreAlike, may_meet, GoesThrough, NoCycleThrough, CyclesHaveModels}
use Rattle.gl_sought.specs.Places.{place_after}
use Rattle.gl_kinds.specs.bodies.Gaps.{gap_of, gap_closes, gap_leads, gap_behind, IsKnown, IsNarrowed, HasFlagged, ClosesBy, IsHopeless, NoneBy, AreHopeless}
use Rattle.gl_kinds.specs.declared.dead_ends.DeadEnd.{DeadEnd}
use Rattle.gl_kinds.specs.declared.dead_ends.Gap.{Gap}
use Rattle.gl_kinds.specs.declared.grains.Grain.{Grain}
use Rattle.gl_kinds.proofs.ByKinds.{meet_alike}
use Rattle.gl_sought.proofs.Places.{place_first, place_round, place_within, place_follows, places_differ, edge_is}
use Rattle.gl_index.proofs.Lists.{element_at}

-- what leads on from one edge to another
leads_as : (wanted held : ℕ) (wanted_mode held_mode : LockMode) (e f : Edge) → LeadsOn e f → e.wanted ≡ wanted → e.wanted_mode ≡ wanted_mode → f.held ≡ held → f.held_mode ≡ held_mode
    → (eqb wanted held && conflict wanted_mode held_mode) ≡ true
leads_as wanted held wanted_mode held_mode e f leads is_wanted is_mode is_held is_held_mode =
    and_from _ _ (eq-eqb wanted held (sym is_wanted ∙ leads.same_lock ∙ is_held)) ((λ i. conflict (sym is_mode i) (sym is_held_mode i)) ∙ leads.in_conflict)

-- where a number stands
pub stands_there : (xs : List ℕ) (v : ℕ) (there : Contains xs v) → slice_get xs there.0 ≡ Some v
stands_there xs v there = slice_get-get_or xs there.0 v there.1 ∙ ap Some there.2

module _ (before : Segment → Segment → Bool) (mode : Mode) (grain : Grain) (len : ℕ) (edges : List Edge) (flags : List Bool) where
  module _ (gap : Gap) (rest : List ℕ) (cycle : List Edge) (k m : ℕ) (is : IsCycle before mode len cycle) (by : ClosesBy before mode grain len edges flags gap rest cycle k m) where
    -- the edge that the cycle has come to
    here : (e : Edge) × (slice_get cycle (place_after (length cycle) k m) ≡ Some e)
    here = element_at cycle (place_after (length cycle) k m) (let reached = by.reached in place_within (length cycle) k m by.within (omega arith))

    -- it leads on to the next
    leads_next : (f : Edge) → slice_get cycle (place_after (length cycle) k (m + 1)) ≡ Some f → LeadsOn here.0 f
    leads_next f at = leads_round before mode len cycle is (place_after (length cycle) k m) here.0 f here.1 (ap (slice_get cycle) (place_follows (length cycle) k m by.within by.reached) ∙ at)

    -- where no edge is left the gap is closed
    closed : m + 1 ≡ length cycle → gap_closes gap ≡ true
    closed last =
        let first = element_at cycle k by.within in
        let round : place_after (length cycle) k (m + 1) ≡ k = ap (place_after (length cycle) k) last ∙ place_round (length cycle) k by.within in
        let leads = leads_next first.0 (ap (slice_get cycle) round ∙ first.1) in
        let end = by.ends here.0 here.1 in
        let start = by.begins first.0 first.1 in
        leads_as gap.wanted gap.held gap.wanted_mode gap.held_mode here.0 first.0 leads end.0 end.1 start.0 start.1

    -- what is alike to the next edge may come next
    next_leads : (d f : Edge) → slice_get cycle (place_after (length cycle) k (m + 1)) ≡ Some f → AreAlike grain d f → gap_leads gap d ≡ true
    next_leads d f at alike =
        let end = by.ends here.0 here.1 in
        leads_as gap.wanted d.held gap.wanted_mode d.held_mode here.0 f (leads_next f at) end.0 end.1 (sym alike.of_one_kind.held) (sym alike.of_one_kind.held_mode)

    -- and behind it the cycle closes what is missing then, by the rest that may meet it
    goes_behind : (next : ℕ) (some : List ℕ) (d f : Edge) → m + 1 < length cycle → slice_get cycle (place_after (length cycle) k (m + 1)) ≡ Some f → slice_get edges next ≡ Some d → AreAlike grain d f
        → IsNarrowed before mode grain edges rest next some → ClosesBy before mode grain len edges flags (gap_behind gap d) some cycle k (m + 1)
    goes_behind next some d f more at stands alike narrowed = record {
      within = by.within;
      reached = more;
      short = let short = by.short in omega arith;
      begins = by.begins;
      ends = λ g at_g.
          let is_f : f ≡ g = same_Some f g (sym at ∙ at_g) in
          (ap (λ x. x.wanted) (sym is_f) ∙ sym alike.of_one_kind.wanted, ap (λ x. x.wanted_mode) (sym is_f) ∙ sym alike.of_one_kind.wanted_mode);
      among = λ o i e g later below at_g stands_e flagged alike_e.
          let apart = places_differ (length cycle) k (m + 1) o by.within later below in
          narrowed i e d (by.among o i e g (omega arith) below at_g stands_e flagged alike_e) stands_e stands
          (meet_alike before mode grain d e f g alike alike_e
          (pair_goes_by_kind before mode len cycle is (place_after (length cycle) k (m + 1)) (place_after (length cycle) k o) f g apart at at_g)
          (pair_goes before mode len cycle is (place_after (length cycle) k (m + 1)) (place_after (length cycle) k o) f g apart at at_g));
    }

  -- a model that can't come next
  pub none_stray : (gap : Gap) (rest : List ℕ) (next : ℕ) (d : Edge) → slice_get edges next ≡ Some d → gap_leads gap d ≡ false → NoneBy before mode grain len edges flags gap rest next
  none_stray gap rest next d stands stray cycle k m e f among is by more at stands_e alike =
      let is_d : d ≡ e = same_Some d e (sym stands ∙ stands_e) in
      false≢true (sym stray ∙ ap (gap_leads gap) is_d ∙ next_leads gap rest cycle k m is by e f at alike)

  -- a model behind which nothing closes the gap
  pub none_behind : (gap : Gap) (rest some : List ℕ) (next : ℕ) (d : Edge) → slice_get edges next ≡ Some d → IsNarrowed before mode grain edges rest next some
      → IsHopeless before mode grain len edges flags (gap_behind gap d) some → NoneBy before mode grain len edges flags gap rest next
  none_behind gap rest some next d stands narrowed none cycle k m e f among is by more at stands_e alike =
      let is_d : d ≡ e = same_Some d e (sym stands ∙ stands_e) in
      none cycle k (m + 1) among is (goes_behind gap rest cycle k m is by next some d f more at stands (subst (λ x. AreAlike grain x f) (sym is_d) alike) narrowed)

  -- no edge may come
  pub hopeless_short : (gap : Gap) (rest : List ℕ) → gap_closes gap ≡ false → gap.left ≡ 0 → IsHopeless before mode grain len edges flags gap rest
  hopeless_short gap rest unclosed none cycle k m among is by =
      let last : m + 1 ≡ length cycle = (let short = by.short in let reached = by.reached in omega arith) in
      false≢true (sym unclosed ∙ closed gap rest cycle k m is by last)

  -- each of the rest was tried
  pub hopeless_tried : CyclesHaveModels before mode grain len edges flags → (gap : Gap) (rest : List ℕ) → gap_closes gap ≡ false
      → ((p i : ℕ) → slice_get rest p ≡ Some i → NoneBy before mode grain len edges flags gap rest i) → IsHopeless before mode grain len edges flags gap rest
  hopeless_tried models gap rest unclosed tried cycle k m among is by =
      elim (cases_eq (m + 1) (length cycle)) [
        | inl last ↦ false≢true (sym unclosed ∙ closed gap rest cycle k m is by last)
        | inr more ↦
            let below : m + 1 < length cycle = (let reached = by.reached in omega (arith, more)) in
            let next = element_at cycle (place_after (length cycle) k (m + 1)) (place_within (length cycle) k (m + 1) by.within (omega arith)) in
            let model = models cycle (place_after (length cycle) k (m + 1)) next.0 among is next.1 in
            let there = by.among (m + 1) model.place model.model next.0 (omega arith) below next.1 model.stands model.flagged model.alike in
            tried there.0 model.place (stands_there rest model.place there) cycle k m model.model next.0 among is by below next.1 model.stands model.alike
      ]

  -- one more of the rest was tried
  pub tried_next : (gap : Gap) (rest : List ℕ) (n v : ℕ) → ((p i : ℕ) → p < n → slice_get rest p ≡ Some i → NoneBy before mode grain len edges flags gap rest i) → ((i : ℕ) → slice_get rest n ≡ Some i → v ≡ i)
      → NoneBy before mode grain len edges flags gap rest v → (p i : ℕ) → p < n + 1 → slice_get rest p ≡ Some i → NoneBy before mode grain len edges flags gap rest i
  tried_next gap rest n v had is none p i below at =
      elim (cases_eq p n) [
        | inl same ↦ subst (NoneBy before mode grain len edges flags gap rest) (is i (sym (ap (slice_get rest) same) ∙ at)) none
        | inr other ↦ had p i (omega arith) at
      ]

  -- what is known
  pub hopeless_known : (ends : List DeadEnd) (gap : Gap) (rest : List ℕ) → AreHopeless before mode grain len edges flags ends → IsKnown ends gap rest → IsHopeless before mode grain len edges flags gap rest
  hopeless_known ends gap rest each known =
      subst (λ g. IsHopeless before mode grain len edges flags g rest) known.same_gap
      (subst (λ r. IsHopeless before mode grain len edges flags known.end.gap r) known.same_rest (each known.place known.end known.stands))

  -- one more is known
  pub hopeless_more : (old new : List DeadEnd) (gap : Gap) (rest : List ℕ) → AreHopeless before mode grain len edges flags old → IsHopeless before mode grain len edges flags gap rest
      → ((i : ℕ) (end : DeadEnd) → slice_get new i ≡ Some end → (slice_get old i ≡ Some end) ⊎ ((end.gap ≡ gap) × (end.rest.items ≡ rest))) → AreHopeless before mode grain len edges flags new
  hopeless_more old new gap rest each here are i end at =
      elim (are i end at) [
        | inl before_it ↦ each i end before_it
        | inr added ↦ subst (λ g. IsHopeless before mode grain len edges flags g end.rest.items) (sym added.0) (subst (λ r. IsHopeless before mode grain len edges flags gap r) (sym added.1) here)
      ]

  -- where the gap behind a model alone is hopeless, no cycle goes through it
  pub none_from_gap : (models alive rest : List ℕ) (dead : List Bool) (root : ℕ) (r : Edge) → slice_get edges root ≡ Some r → HasFlagged flags models
      → ((j : ℕ) → slice_get dead j ≡ Some true → NoCycleThrough before mode grain len edges (j ∷ []))
      → ((i : ℕ) → Contains models i → ¬ (slice_get dead i ≡ Some true) → Contains alive i) → IsNarrowed before mode grain edges alive root rest
      → IsHopeless before mode grain len edges flags (gap_of r len) rest → NoCycleThrough before mode grain len edges (root ∷ [])
  none_from_gap models alive rest dead root r stands all are_dead stay narrowed none cycle k among is through =
      none cycle k 0 among is (record {
        within = through.within;
        reached = omega (arith, is.two_or_more);
        short = omega (arith, is.not_too_long);
        begins = λ f at. let alike = alike_root f at in (sym alike.of_one_kind.held, sym alike.of_one_kind.held_mode);
        ends = λ f at. let alike = alike_root f (ap (slice_get cycle) (sym (place_first (length cycle) k through.within)) ∙ at) in (sym alike.of_one_kind.wanted, sym alike.of_one_kind.wanted_mode);
        among = λ o i d f later below at stands_d flagged alike.
            let first = element_at cycle k through.within in
            let start = ap (slice_get cycle) (place_first (length cycle) k through.within) ∙ first.1 in
            let apart = places_differ (length cycle) k 0 o through.within later below in
            narrowed i d r (stay i (all i flagged) (λ is_dead. are_dead i is_dead cycle (place_after (length cycle) k o) among is (alone i d f o below at stands_d alike))) stands_d stands
            (meet_alike before mode grain r d first.0 f (alike_root first.0 first.1) alike
            (pair_goes_by_kind before mode len cycle is (place_after (length cycle) k 0) (place_after (length cycle) k o) first.0 f apart start at)
            (pair_goes before mode len cycle is (place_after (length cycle) k 0) (place_after (length cycle) k o) first.0 f apart start at));
      })
    where
      alike_root : (f : Edge) → slice_get cycle k ≡ Some f → AreAlike grain r f
      alike_root f at = through.alike 0 root r f refl stands (ap (slice_get cycle) (place_first (length cycle) k through.within) ∙ at)

      -- a cycle goes through each of its edges alone
      alone : (i : ℕ) (d f : Edge) (o : ℕ) → o < length cycle → slice_get cycle (place_after (length cycle) k o) ≡ Some f → slice_get edges i ≡ Some d → AreAlike grain d f → GoesThrough grain edges cycle (place_after (length cycle) k o) (i ∷ [])
      alone i d f o below at stands_d alike =
          let inside = place_within (length cycle) k o through.within (omega arith) in
          record { within = inside; fits = omega (arith, is.two_or_more); alike = by inside }
        where
          by : place_after (length cycle) k o < length cycle → (m j : ℕ) (c g : Edge) → slice_get (i ∷ []) m ≡ Some j → slice_get edges j ≡ Some c → slice_get cycle (place_after (length cycle) (place_after (length cycle) k o) m) ≡ Some g → AreAlike grain c g
          by inside zero j c g at_j at_c at_g =
              let c_is : d ≡ c = same_Some d c (sym stands_d ∙ ap (slice_get edges) (same_Some i j at_j) ∙ at_c) in
              let g_is : f ≡ g = same_Some f g (sym at ∙ ap (slice_get cycle) (sym (place_first (length cycle) (place_after (length cycle) k o) inside)) ∙ at_g) in
              subst (λ x. AreAlike grain x g) c_is (subst (AreAlike grain d) g_is alike)
          by inside (suc m) j c g at_j at_c at_g = absurd (cc)

module _ (before : Segment → Segment → Bool) (mode : Mode) (grain : Grain) (table : List (Edge × Sample)) (rest : List ℕ) where
  -- those of the rest before place n that may meet the edge are among these
  abbrev pub IsNarrowedBelow : ℕ → Edge → List ℕ → Type 0
  IsNarrowedBelow n f some = (p i : ℕ) (d : Edge) → p < n → slice_get rest p ≡ Some i → slice_get (edges_of_table table) i ≡ Some d → may_meet before mode grain f d ≡ true → Contains some i

  -- one place more
  pub narrowed_more : (n v : ℕ) (f : Edge) (old new : List ℕ) → IsNarrowedBelow n f old → ((j : ℕ) → Contains old j → Contains new j)
      → ((d : Edge) → slice_get (edges_of_table table) v ≡ Some d → may_meet before mode grain f d ≡ true → Contains new v) → ((i : ℕ) → slice_get rest n ≡ Some i → v ≡ i) → IsNarrowedBelow (n + 1) f new
  narrowed_more n v f old new had stay met is p i d below at stands meets =
      elim (cases_eq p n) [
        | inl same ↦
            let v_is : v ≡ i = is i (sym (ap (slice_get rest) same) ∙ at) in
            subst (Contains new) v_is (met d (ap (slice_get (edges_of_table table)) v_is ∙ stands) meets)
        | inr other ↦ stay i (had p i d (omega arith) at stands meets)
      ]

  -- all places
  pub narrowed_all : (next n : ℕ) (e : Edge × Sample) (some : List ℕ) → next < length table → length rest ≤ n → IsNarrowedBelow n (get_or table next e).0 some → IsNarrowed before mode grain (edges_of_table table) rest next some
  narrowed_all next n e some there whole had i d f among stands stands_f meets =
      let at = stands_there rest i among in
      had among.0 i d (omega (arith, among.1, whole)) at stands (ap (λ x. may_meet before mode grain x d) (sym (edge_is table e next f there stands_f)) ∙ meets)
