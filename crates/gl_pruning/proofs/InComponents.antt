-- All edges of a cycle lie in one component, and there are no more of them than exclusions that have all edges of it.
use Rattle.std.proofs.Common.{◌≡◌, ℕ, zero, suc, ◌+◌, ◌<◌, ◌≤◌, inl, inr, Bool, List, [], ◌∷◌, ◌++◌, length, get_or, Some, sym, ap, subst, ◌∙◌, arith}
use Rattle.std.specs.Prelude.{true, slice_get, All, Contains}
use Rattle.std.specs.Global.{Vec}
use Rattle.std.specs.Option.{option_map}
use Rattle.std.proofs.lemmas.Bool.{cases_lt}
use Rattle.std.proofs.lemmas.List.{length_push}
use Rattle.std.proofs.lemmas.List.Elements.{All-contains_itself}
use Rattle.std.proofs.lemmas.Option.{slice_get-get_or, slice_get_within, get_or_from_slice_get, slice_get-map, same_Some}
use Rattle.gl_segments.specs.Clocks.{is_before}
use Rattle.gl_edges.specs.declared.edge.Edge.{Edge}
use Rattle.gl_filters.specs.Cycle.{IsCycle}
use Rattle.gl_filters.specs.Picked.{edges_of_table}
use Rattle.gl_filters.proofs.Cycling.{test_from_cycle}
use Rattle.gl_index.proofs.Lists.{element_at, push_before, push_at_end}
use Rattle.gl_sought.specs.Components.{AreComponents}
use Rattle.gl_pruning.specs.bodies.Covers.{AreChecked}
use Rattle.gl_exclusions.specs.Exclusions.{IsOneOf}
use Rattle.gl_sought.specs.Walks.{ends_in, label_at}
use Rattle.gl_exclusions.specs.declared.exclusions.Exclusion.{Exclusion}
use Rattle.gl_pruning.specs.declared.limits.Covered.{Covered}
use Rattle.gl_sought.specs.declared.numbers.Ends.{Ends}
use Rattle.gl_sought.specs.declared.sought.Sought.{Sought}
use Rattle.gl_exclusions.specs.declared.turns.Turn.{Turn}
use Rattle.gl_sought.proofs.Back.{kept_at}
use Rattle.gl_loops.proofs.Level.{loop_is_level}
use Rattle.gl_exclusions.proofs.NotLonger.{no_more}
use Rattle.gl_loops.proofs.Off.{loop_from_cycle}

module _ (s : Sought) (labels : List ℕ) (ends : List Ends) (kept : List Bool) (components : AreComponents s labels ends kept) where
  -- the ends of an edge
  pub ends_at : (i : ℕ) (e : Edge) → slice_get (edges_of_table s.table.now) i ≡ Some e → slice_get ends i ≡ Some (ends_in components.numbered.0 e)
  ends_at i e there =
      ap (λ l. slice_get l i) components.numbered.1 ∙ slice_get-map (ends_in components.numbered.0) (edges_of_table s.table.now) i ∙ ap (option_map (ends_in components.numbered.0)) there

  -- the component of a lock
  abbrev pub component : ℕ → ℕ
  component lock = label_at labels (components.numbered.0 lock)

  module _ (cycle : List Edge) (among : All (Contains (edges_of_table s.table.now)) cycle) (is : IsCycle (is_before s.order.now) s.mode s.len cycle) where
    pub kept_in : (k : ℕ) (e : Edge) → slice_get cycle k ≡ Some e → (i : ℕ) × (slice_get (edges_of_table s.table.now) i ≡ Some e) × (slice_get kept i ≡ Some true)
    kept_in k e at = kept_at (is_before s.order.now) s.mode s.len (edges_of_table s.table.now) kept components.keeps cycle among is k e at

    -- both locks of an edge of the cycle lie in one component
    pub inside : (k : ℕ) (e : Edge) → slice_get cycle k ≡ Some e → component e.held ≡ component e.wanted
    inside k e at =
        let loop = loop_from_cycle (is_before s.order.now) s.mode (edges_of_table s.table.now) cycle among (test_from_cycle (is_before s.order.now) s.mode s.len cycle is) in
        let level = loop_is_level component cycle cycle
        (λ j d below. let f = get_or cycle j d in let (i, there, flag) = kept_in j f (slice_get-get_or cycle j d below) in components.onward i (ends_in components.numbered.0 f) flag (ends_at i f there))
        (record { among = All-contains_itself cycle; leads_on = loop.leads_on; leads_back = loop.leads_back }) in
        subst (λ d. component d.held ≡ component d.wanted) (get_or_from_slice_get cycle k e e at) (level k e (slice_get_within cycle k e at))

    -- which is that of the first one
    as_first : (k : ℕ) (e f : Edge) → slice_get cycle k ≡ Some e → slice_get cycle 0 ≡ Some f → component e.held ≡ component f.held
    as_first zero e f at first = ap (λ d. component d.held) (same_Some e f (sym at ∙ first))
    as_first (suc k) e f at first =
        let below = slice_get_within cycle (suc k) e at in
        let d = element_at cycle k (omega (arith, below)) in
        let next : slice_get cycle (k + 1) ≡ Some e = ap (slice_get cycle) (omega arith) ∙ at in
        sym (ap component (is.leads_on k d.0 e d.1 next).same_lock) ∙ sym (inside k d.0 d.1) ∙ as_first k d.0 f d.1 first

    -- so it is the same of any two
    pub same_component : (j k : ℕ) (d e : Edge) → slice_get cycle j ≡ Some d → slice_get cycle k ≡ Some e → component d.held ≡ component e.held
    same_component j k d e at_j at_k =
        let below = slice_get_within cycle k e at_k in
        let first = element_at cycle 0 (omega (arith, below)) in
        as_first j d first.0 at_j first.1 ∙ sym (as_first k e first.0 at_k first.1)

module _ (s : Sought) (turns : List Turn) (covered : Covered) (ends : List Ends) (kept : List Bool) (checked : AreChecked s turns covered ends kept) where
  abbrev L : List ℕ
  L = covered.labels.items

  -- there are no more edges in a cycle than there are exclusions of the component of one of them
  pub no_longer : (cycle : List Edge) → All (Contains (edges_of_table s.table.now)) cycle → IsCycle (is_before s.order.now) s.mode s.len cycle
      → (k : ℕ) (e : Edge) → slice_get cycle k ≡ Some e → (exclusions : Vec Exclusion) → slice_get covered.exclusions.items (component s L ends kept checked.components e.held) ≡ Some exclusions → 0 < length exclusions.items
      → length cycle ≤ length exclusions.items
  no_longer cycle among is k e at exclusions there some =
      no_more s.order.now s.mode s.len turns exclusions.items cycle is (record { one = one; in_turn = λ j d at_j. let (i, at_i, flag) = kept_in s L ends kept checked.components cycle among is j d at_j in checked.in_turn i d at_i flag })
    where
      one : (j : ℕ) (d : Edge) → slice_get cycle j ≡ Some d → IsOneOf s.mode turns exclusions.items d
      one j d at_j =
          let (i, at_i, flag) = kept_in s L ends kept checked.components cycle among is j d at_j in
          (checked.have i d (ends_in checked.components.numbered.0 d) at_i (ends_at s L ends kept checked.components i d at_i) flag (inside s L ends kept checked.components cycle among is j d at_j)).have exclusions
          (ap (slice_get covered.exclusions.items) (same_component s L ends kept checked.components cycle among is j k d e at_j at) ∙ there) some

-- what holds of each element of a list and of one more holds of all
pub push_each : {X : Type 0} (P : ℕ → X → Type 0) (xs : List X) (x : X) → ((i : ℕ) (y : X) → slice_get xs i ≡ Some y → P i y) → P (length xs) x
    → (i : ℕ) (y : X) → slice_get (xs ++ x ∷ []) i ≡ Some y → P i y
push_each P xs x each last i y at =
    elim (cases_lt i (length xs)) [
      | inl below ↦ each i y (sym (push_before xs x i below) ∙ at)
      | inr above ↦
          let within = slice_get_within (xs ++ x ∷ []) i y at in
          let same : i ≡ length xs = omega (arith, above, within, length_push xs x) in
          let is : x ≡ y = same_Some x y (sym (push_at_end xs x) ∙ sym (ap (slice_get (xs ++ x ∷ [])) same) ∙ at) in
          subst (λ n. P n y) (sym same) (subst (P (length xs)) is last)
    ]
