-- A cycle has no more edges than there are exclusions that have all edges between them.
use Rattle.std.proofs.Common.{◌≡◌, ℕ, ◌+◌, ◌-◌, ◌<◌, ◌≤◌, ◌⊎◌, inl, inr, Bool, List, length, get_or, Some, refl, sym, ap, subst, ◌∙◌, arith}
use Rattle.std.specs.Prelude.{◌≢◌, true, slice_get, Option, None, All, Contains}
use Rattle.std.specs.Option.{option_and_then}
use Rattle.std.proofs.lemmas.Bool.{cases_eq, cases_lt, cases_order, lt-ltb, or_left, or_right, false≢true}
use Rattle.std.proofs.lemmas.Option.{slice_get_within, get_or_from_slice_get, same_Some, none-some}
use Rattle.std_collections.proofs.IndexTableLemmas.Probe.{pigeonhole}
use Rattle.gl_event.specs.declared.events.LockMode.TheVariants.{Exclusive}
use Rattle.gl_segments.specs.Clocks.{Clocks, is_before}
use Rattle.gl_edges.specs.declared.edge.Edge.{Edge}
use Rattle.gl_filters.specs.Cycle.{asks_order, first_segment, second_segment, is_ordered, IsCycle}
use Rattle.gl_filters.specs.declared.query.Mode.{Mode}
use Rattle.gl_sought.specs.OffCycles.{KeepsCycles}
use Rattle.gl_exclusions.specs.Exclusions.{IsExcluded, IsOneOf, HaveAll}
use Rattle.gl_exclusions.specs.Turns.{chain_of, IsInTurn, TakeTurns}
use Rattle.gl_exclusions.specs.declared.exclusions.Exclusion.{Exclusion}
use Rattle.gl_exclusions.specs.declared.exclusions.Exclusion.TheVariants.{InTurn, UnderLock, Holding, Wanting}
use Rattle.gl_exclusions.specs.declared.turns.Turn.{Turn}
use Rattle.gl_index.proofs.Lists.{element_at}
use Rattle.gl_sought.proofs.Back.{kept_at}

turn_of : (o : Option Turn) (chain : ℕ) → option_and_then (λ turn. turn.chain) o ≡ Some chain → (turn : Turn) × (o ≡ Some turn) × (turn.chain ≡ Some chain)
turn_of (Some turn) chain is = (turn, refl, is)
turn_of None chain is = absurd (none-some chain is)

-- each edge of the cycle is in its turn, and one of the exclusions has it
pub record HaveCycle (clocks : Clocks) (mode : Mode) (turns : List Turn) (exclusions : List Exclusion) (cycle : List Edge) : Type 0 where
  pub one : (k : ℕ) (e : Edge) → slice_get cycle k ≡ Some e → IsOneOf mode turns exclusions e
  pub in_turn : (k : ℕ) (e : Edge) → slice_get cycle k ≡ Some e → IsInTurn mode clocks turns e

module _ (clocks : Clocks) (mode : Mode) (len : ℕ) (turns : List Turn) (exclusions : List Exclusion) (cycle : List Edge) (is : IsCycle (is_before clocks) mode len cycle)
    (have : HaveCycle clocks mode turns exclusions cycle) where
  -- the edge at a place of the cycle, and what has it
  record HasPlace (k j : ℕ) : Type 0 where
    edge : Edge
    exclusion : Exclusion
    at : slice_get cycle k ≡ Some edge
    there : slice_get exclusions j ≡ Some exclusion
    has : IsExcluded mode turns exclusion edge
    in_turn : IsInTurn mode clocks turns edge

  place_at : (k : ℕ) → k < length cycle → (j : ℕ) × HasPlace k j
  place_at k below =
      let e = element_at cycle k below in
      let one = have.one k e.0 e.1 in
      (one.place, record { edge = e.0; exclusion = one.exclusion; at = e.1; there = one.there; has = one.has; in_turn = have.in_turn k e.0 e.1 })

  place_by : (k : ℕ) → (k < length cycle) ⊎ (length cycle ≤ k) → ℕ
  place_by k (inl below) = (place_at k below).0
  place_by k (inr above) = 0

  place : ℕ → ℕ
  place k = place_by k (cases_lt k (length cycle))

  has_place : (k : ℕ) → k < length cycle → HasPlace k (place k)
  unfolding place_by place_at place
  has_place k below = by (cases_lt k (length cycle))
    where
      by : (o : (k < length cycle) ⊎ (length cycle ≤ k)) → HasPlace k (place_by k o)
      by (inl lower) = (place_at k lower).1
      by (inr above) = absurd (omega (arith, below, above))

  -- two edges of one chain, the first of which has the lower thread, are ordered
  ordered : (e f : Edge) (t : Turn) (chain : ℕ) → e.thread < f.thread → IsInTurn mode clocks turns e → IsInTurn mode clocks turns f
      → slice_get turns e.thread ≡ Some t → t.chain ≡ Some chain → chain_of turns f.thread ≡ Some chain → (asks_order mode ≡ true) × (is_before clocks (second_segment e) (first_segment f) ≡ true)
  ordered e f t chain lower in_e in_f at_e of_e at_f =
      let over = in_f.behind.each e.thread chain lower at_f t at_e of_e in
      let ends = in_e.over t at_e in
      (ap asks_order over.0, lt-ltb _ _ (omega (arith, ends, over.1)))

  -- so they aren't both in the cycle
  not_both : (i j : ℕ) (e f : Edge) → i < j → slice_get cycle i ≡ Some e → slice_get cycle j ≡ Some f → asks_order mode ≡ true → is_ordered (is_before clocks) e f ≡ true → ⊥
  not_both i j e f lower at_e at_f asks ordered_e_f =
      let below = slice_get_within cycle j f at_f in
      let same_e : get_or cycle i e ≡ e = get_or_from_slice_get cycle i e e at_e in
      let same_f : get_or cycle j e ≡ f = get_or_from_slice_get cycle j f e at_f in
      let free = is.unordered asks i j e lower below in
      false≢true (sym free ∙ (λ k. is_ordered (is_before clocks) (same_e k) (same_f k)) ∙ ordered_e_f)

  differ : (i j : ℕ) (e f : Edge) → i < j → slice_get cycle i ≡ Some e → slice_get cycle j ≡ Some f → e.thread ≢ f.thread
  differ i j e f lower at_e at_f = λ same.
      let below = slice_get_within cycle j f at_f in
      let same_e : get_or cycle i e ≡ e = get_or_from_slice_get cycle i e e at_e in
      let same_f : get_or cycle j e ≡ f = get_or_from_slice_get cycle j f e at_f in
      absurd (is.threads_differ i j e lower below (ap (λ d. d.thread) same_e ∙ same ∙ ap (λ d. d.thread) (sym same_f)))

  in_one_chain : (i j chain : ℕ) (e f : Edge) → i < j → slice_get cycle i ≡ Some e → slice_get cycle j ≡ Some f → IsInTurn mode clocks turns e → IsInTurn mode clocks turns f
      → chain_of turns e.thread ≡ Some chain → chain_of turns f.thread ≡ Some chain → ⊥
  in_one_chain i j chain e f lower at_e at_f in_e in_f of_e of_f =
      elim (cases_order e.thread f.thread) [
        | inl is ↦ absurd (differ i j e f lower at_e at_f is)
        | inr other ↦ elim other [
          | inl below ↦
              let (t, at, is) = turn_of (slice_get turns e.thread) chain of_e in
              let by = ordered e f t chain below in_e in_f at is of_f in
              not_both i j e f lower at_e at_f by.0 (or_left _ _ by.1)
          | inr above ↦
              let (t, at, is) = turn_of (slice_get turns f.thread) chain of_f in
              let by = ordered f e t chain above in_f in_e at is of_e in
              not_both i j e f lower at_e at_f by.0 (or_right _ _ by.1)
        ]
      ]

  -- two edges of the cycle hold different locks
  held_apart : (i j : ℕ) (e f : Edge) → i < j → slice_get cycle i ≡ Some e → slice_get cycle j ≡ Some f → e.held ≢ f.held
  held_apart i j e f lower at_e at_f = λ same.
      let below = slice_get_within cycle j f at_f in
      let same_e : get_or cycle i e ≡ e = get_or_from_slice_get cycle i e e at_e in
      let same_f : get_or cycle j e ≡ f = get_or_from_slice_get cycle j f e at_f in
      absurd (is.locks_differ i j e lower below (ap (λ d. d.held) same_e ∙ same ∙ ap (λ d. d.held) (sym same_f)))

  -- and want different ones: those that the edges behind them hold
  wanted_apart : (i j : ℕ) (e f : Edge) → i < j → slice_get cycle i ≡ Some e → slice_get cycle j ≡ Some f → e.wanted ≢ f.wanted
  wanted_apart i j e f lower at_e at_f = λ same.
      let below = slice_get_within cycle j f at_f in
      let next = element_at cycle (i + 1) (omega (arith, lower, below)) in
      let onward = (is.leads_on i e next.0 at_e next.1).same_lock in
      elim (cases_eq (j + 1) (length cycle)) [
        | inl last ↦
            let first = element_at cycle 0 (omega (arith, below)) in
            let at_last : slice_get cycle (length cycle - 1) ≡ Some f = ap (slice_get cycle) (omega (arith, last)) ∙ at_f in
            let back = (is.leads_back f first.0 at_last first.1).same_lock in
            absurd (held_apart 0 (i + 1) first.0 next.0 (omega arith) first.1 next.1 (sym back ∙ sym same ∙ onward))
        | inr more ↦
            let later = element_at cycle (j + 1) (omega (arith, below, more)) in
            let on = (is.leads_on j f later.0 at_f later.1).same_lock in
            absurd (held_apart (i + 1) (j + 1) next.0 later.0 (omega (arith, lower)) next.1 later.1 (sym onward ∙ same ∙ on))
      ]

  -- no exclusion has two edges of the cycle
  apart : (i j : ℕ) (e f : Edge) (x : Exclusion) → i < j → slice_get cycle i ≡ Some e → slice_get cycle j ≡ Some f → IsInTurn mode clocks turns e → IsInTurn mode clocks turns f
      → IsExcluded mode turns x e → IsExcluded mode turns x f → ⊥
  apart i j e f (InTurn chain) lower at_e at_f in_e in_f has_e has_f = in_one_chain i j chain e f lower at_e at_f in_e in_f has_e has_f
  apart i j e f (UnderLock lock) lower at_e at_f in_e in_f has_e has_f =
      let below = slice_get_within cycle j f at_f in
      let same_e : get_or cycle i e ≡ e = get_or_from_slice_get cycle i e e at_e in
      let same_f : get_or cycle j e ≡ f = get_or_from_slice_get cycle j f e at_f in
      let in_e = subst (λ d. Contains d.guards (record { lock = lock; mode = Exclusive })) (sym same_e) has_e.1 in
      let in_f = subst (λ d. Contains d.guards (record { lock = lock; mode = Exclusive })) (sym same_f) has_f.1 in
      absurd (is.apart has_e.0 i j e lower below lock (record { one = Exclusive; other = Exclusive; in_one = in_e; in_other = in_f; in_conflict = refl }))
  apart i j e f (Holding lock) lower at_e at_f in_e in_f has_e has_f = absurd (held_apart i j e f lower at_e at_f (has_e ∙ sym has_f))
  apart i j e f (Wanting lock) lower at_e at_f in_e in_f has_e has_f = absurd (wanted_apart i j e f lower at_e at_f (has_e ∙ sym has_f))

  one_place : (i j : ℕ) → i < j → HasPlace i (place i) → HasPlace j (place j) → place i ≡ place j → ⊥
  one_place i j lower p q same =
      let x : p.exclusion ≡ q.exclusion = same_Some p.exclusion q.exclusion (sym p.there ∙ ap (slice_get exclusions) same ∙ q.there) in
      apart i j p.edge q.edge p.exclusion lower p.at q.at p.in_turn q.in_turn p.has (subst (λ y. IsExcluded mode turns y q.edge) (sym x) q.has)

  pub no_more : length cycle ≤ length exclusions
  no_more =
      pigeonhole (length cycle) (length exclusions) place
      (λ k below. let p = has_place k below in slice_get_within exclusions (place k) p.exclusion p.there)
      (λ i j below_i below_j same.
      elim (cases_order i j) [
        | inl is ↦ is
        | inr other ↦ elim other [
          | inl lower ↦ absurd (one_place i j lower (has_place i below_i) (has_place j below_j) same)
          | inr higher ↦ absurd (one_place j i higher (has_place j below_j) (has_place i below_i) (sym same))
        ]
      ])

pub not_longer : (clocks : Clocks) (mode : Mode) (len : ℕ) (edges : List Edge) (kept : List Bool) → KeepsCycles (is_before clocks) mode len edges kept
    → (turns : List Turn) (exclusions : List Exclusion) → HaveAll mode turns exclusions edges kept → TakeTurns mode clocks turns edges kept
    → (cycle : List Edge) → All (Contains edges) cycle → IsCycle (is_before clocks) mode len cycle → length cycle ≤ length exclusions
not_longer clocks mode len edges kept keeps turns exclusions have take cycle among is =
    no_more clocks mode len turns exclusions cycle is (record {
      one = λ k e at. let (i, there, flag) = kept_at (is_before clocks) mode len edges kept keeps cycle among is k e at in have i e there flag;
      in_turn = λ k e at. let (i, there, flag) = kept_at (is_before clocks) mode len edges kept keeps cycle among is k e at in take i e there flag;
    })
