-- An edge without a way back is in no cycle.
use Rattle.std.proofs.Common.{◌≡◌, ◌≢◌, ℕ, zero, suc, ◌+◌, ◌-◌, ◌<◌, ◌≤◌, Bool, true, false, List, [], ◌∷◌, length, map, get_or, set, Some, refl, sym, ap, subst, ◌∙◌, arith, inl, inr}
use Rattle.std.specs.Prelude.{slice_get, All, Contains}
use Rattle.std.specs.Option.{option_map}
use Rattle.std.proofs.lemmas.Bool.{cases_eq}
use Rattle.std.proofs.lemmas.List.{length-set, get_or-set_other}
use Rattle.std.proofs.lemmas.Option.{slice_get-get_or, slice_get_within, get_or_from_slice_get, slice_get-map, same_Some}
use Rattle.gl_event.specs.declared.events.Segment.{Segment}
use Rattle.gl_edges.specs.declared.edge.Edge.{Edge}
use Rattle.gl_filters.specs.Cycle.{IsCycle}
use Rattle.gl_filters.specs.declared.query.Mode.{Mode}
use Rattle.gl_filters.proofs.Round.{pair_goes}
use Rattle.gl_edges.specs.declared.edge.Sample.{Sample}
use Rattle.gl_filters.specs.Picked.{edges_of_table}
use Rattle.gl_sought.specs.OffCycles.{IsOffCycles, KeepsCycles}
use Rattle.gl_sought.specs.Walks.{ends_in, AreEnds, label_at, ShowsNoWay}
use Rattle.gl_sought.specs.declared.numbers.Ends.{Ends}
use Rattle.gl_index.proofs.Lists.{element_at}

-- the numbers of the locks of edges with samples
pub ends_of_pairs : (number : ℕ → ℕ) (table : List (Edge × Sample)) → map (λ pair. ends_in number pair.0) table ≡ map (ends_in number) (edges_of_table table)
ends_of_pairs number [] = refl
ends_of_pairs number (pair ∷ table) = ap (λ l. ends_in number pair.0 ∷ l) (ends_of_pairs number table)

module _ (before : Segment → Segment → Bool) (mode : Mode) (len : ℕ) (edges : List Edge) (kept : List Bool) (keeps : KeepsCycles before mode len edges kept) where
  module _ (cycle : List Edge) (among : All (Contains edges) cycle) (is : IsCycle before mode len cycle) where
    -- each edge of a cycle is kept
    pub kept_at : (j : ℕ) (e : Edge) → slice_get cycle j ≡ Some e → (i : ℕ) × (slice_get edges i ≡ Some e) × (slice_get kept i ≡ Some true)
    kept_at j e at =
        let below = slice_get_within cycle j e at in
        let is_e = get_or_from_slice_get cycle j e e at in
        let (i, within, same) = subst (Contains edges) is_e (among j e below) in
        let there : slice_get edges i ≡ Some e = slice_get-get_or edges i e within ∙ ap Some same in
        let flag = element_at kept i (omega (arith, within, keeps.long)) in
        (i, there, by i there flag.0 flag.1 below is_e)
      where
        by : (i : ℕ) → slice_get edges i ≡ Some e → (b : Bool) → slice_get kept i ≡ Some b → j < length cycle → get_or cycle j e ≡ e → slice_get kept i ≡ Some true
        by i there true flag below is_e = flag
        by i there false flag below is_e = absurd (keeps.left_out i e there flag cycle among is (j, below, is_e))

    module _ (number : ℕ → ℕ) (ends : List Ends) (are : AreEnds number edges ends) (labels : List ℕ) (x : ℕ) (shows : ShowsNoWay before mode len edges kept ends labels x)
        (f : Edge) (at : slice_get edges x ≡ Some f) (k : ℕ) (here : slice_get cycle k ≡ Some f) where
      abbrev L : ℕ → ℕ
      L lock = label_at labels (number lock)

      ends_at : (i : ℕ) (e : Edge) → slice_get edges i ≡ Some e → slice_get ends i ≡ Some (ends_in number e)
      ends_at i e there = ap (λ l. slice_get l i) are ∙ slice_get-map (ends_in number) edges i ∙ ap (option_map (ends_in number)) there

      -- along each other edge of the cycle the label grows by one at the most
      step : (j : ℕ) (e : Edge) → j ≢ k → slice_get cycle j ≡ Some e → L e.wanted ≤ L e.held + 1
      step j e other at_j =
          let (i, there, flag) = kept_at j e at_j in
          shows.near i e f (ends_in number e) there flag (ends_at i e there) at (pair_goes before mode len cycle is j k e f other at_j here)

      -- from one edge to the next
      link : (j : ℕ) (d e : Edge) → slice_get cycle j ≡ Some d → slice_get cycle (j + 1) ≡ Some e → L d.wanted ≡ L e.held
      link j d e at_j next = ap L (is.leads_on j d e at_j next).same_lock

      -- behind the edge
      after : (m : ℕ) (e : Edge) → slice_get cycle (k + 1 + m) ≡ Some e → L e.wanted ≤ L f.wanted + (m + 1)
      after zero e at_e =
          let next : slice_get cycle (k + 1) ≡ Some e = (let same : k + 1 ≡ k + 1 + 0 = omega arith in ap (slice_get cycle) same ∙ at_e) in
          omega (arith, link k f e here next, step (k + 1) e (λ same. absurd (omega arith)) next)
      after (suc m) e at_e =
          let within = slice_get_within cycle (k + 1 + suc m) e at_e in
          let d = element_at cycle (k + 1 + m) (omega arith) in
          let next : slice_get cycle (k + 1 + m + 1) ≡ Some e = (let same : k + 1 + m + 1 ≡ k + 1 + suc m = omega arith in ap (slice_get cycle) same ∙ at_e) in
          omega (arith, after m d.0 d.1, link (k + 1 + m) d.0 e d.1 next, step (k + 1 + m + 1) e (λ same. absurd (omega arith)) next)

      -- up to the last edge
      last : (e : Edge) → slice_get cycle (length cycle - 1) ≡ Some e → L e.wanted + k + 1 ≤ L f.wanted + length cycle
      last e at_e =
          let within = slice_get_within cycle k f here in
          elim (cases_eq k (length cycle - 1)) [
            | inl same ↦ let is_f : f ≡ e = same_Some f e (sym here ∙ ap (slice_get cycle) same ∙ at_e) in omega (arith, ap (λ d. L d.wanted) is_f)
            | inr other ↦
                let place : k + 1 + (length cycle - 2 - k) ≡ length cycle - 1 = omega (arith, is.two_or_more) in
                omega (arith, after (length cycle - 2 - k) e (ap (slice_get cycle) place ∙ at_e))
          ]

      -- and from the first edge on
      front : (j : ℕ) (e : Edge) → j < k → slice_get cycle j ≡ Some e → L e.wanted + k ≤ L f.wanted + length cycle + j
      front zero e lower at_e =
          let end = element_at cycle (length cycle - 1) (omega (arith, is.two_or_more)) in
          let back : L end.0.wanted ≡ L e.held = ap L (is.leads_back end.0 e end.1 at_e).same_lock in
          omega (arith, last end.0 end.1, back, step 0 e (λ same. absurd (omega arith)) at_e)
      front (suc j) e lower at_e =
          let within = slice_get_within cycle (suc j) e at_e in
          let d = element_at cycle j (omega arith) in
          let next : slice_get cycle (j + 1) ≡ Some e = (let same : j + 1 ≡ suc j = omega arith in ap (slice_get cycle) same ∙ at_e) in
          omega (arith, front j d.0 (omega arith) d.1, link j d.0 e d.1 next, step (suc j) e (λ same. absurd (omega arith)) at_e)

      -- the label doesn't grow enough to come back
      no_way : ⊥
      no_way = by k refl
        where
          far : L f.wanted + len ≤ L f.held
          far = shows.far (ends_in number f) (ends_at x f at)

          by : (n : ℕ) → n ≡ k → ⊥
          by zero first =
              let end = element_at cycle (length cycle - 1) (omega (arith, is.two_or_more)) in
              let at_first : slice_get cycle 0 ≡ Some f = ap (slice_get cycle) first ∙ here in
              let back : L end.0.wanted ≡ L f.held = ap L (is.leads_back end.0 f end.1 at_first).same_lock in
              absurd (omega (arith, last end.0 end.1, back, far, is.not_too_long, is.two_or_more))
          by (suc j) later =
              let within = slice_get_within cycle k f here in
              let d = element_at cycle j (omega arith) in
              let at_next : slice_get cycle (j + 1) ≡ Some f = (let same : j + 1 ≡ k = omega arith in ap (slice_get cycle) same ∙ here) in
              absurd (omega (arith, front j d.0 (omega arith) d.1, link j d.0 f d.1 at_next, far, is.not_too_long, is.two_or_more))

  -- so it may be left out
  pub off_without_way : (number : ℕ → ℕ) (ends : List Ends) → AreEnds number edges ends → (labels : List ℕ) (x : ℕ) → ShowsNoWay before mode len edges kept ends labels x
      → (f : Edge) → slice_get edges x ≡ Some f → IsOffCycles before mode len edges f
  off_without_way number ends are labels x shows f at = λ cycle among is in_it.
      let (k, below, same) = in_it in
      no_way cycle among is number ends are labels x shows f at k (slice_get-get_or cycle k f below ∙ ap Some same)

  -- one flag more
  pub keeps_more : (x : ℕ) → x < length kept → ((f : Edge) → slice_get edges x ≡ Some f → IsOffCycles before mode len edges f) → KeepsCycles before mode len edges (set kept x false)
  keeps_more x within off = record {
    long = length-set kept x false ∙ keeps.long;
    left_out = λ i e at out.
        elim (cases_eq i x) [
          | inl same ↦ off e (sym (ap (slice_get edges) same) ∙ at)
          | inr other ↦
              let below : i < length kept = omega (arith, slice_get_within edges i e at, keeps.long) in
              keeps.left_out i e at
              (slice_get-get_or kept i false below ∙ ap Some (sym (get_or-set_other kept x i false false other)) ∙ sym (slice_get-get_or (set kept x false) i false (omega (arith, length-set kept x false))) ∙ out)
        ];
  }
