-- An edge along which the rank of its epoch rises is in no cycle.
use Rattle.std.proofs.Common.{◌≡◌, ◌≢◌, ℕ, ◌+◌, ◌<◌, ◌≤◌, Bool, true, false, List, get_or, Some, sym, ap, subst, ◌∙◌, arith, inl, inr}
use Rattle.std.specs.Prelude.{slice_get, All, Contains}
use Rattle.std.proofs.lemmas.Bool.{cases_eq, false≢true}
use Rattle.std.proofs.lemmas.Option.{slice_get-get_or, same_Some}
use Rattle.gl_event.specs.declared.events.LockMode.{LockMode}
use Rattle.gl_event.specs.declared.events.Segment.{Segment}
use Rattle.gl_edges.specs.declared.edge.Edge.{Edge}
use Rattle.gl_filters.specs.Cycle.{IsCycle}
use Rattle.gl_filters.specs.declared.query.Mode.{Mode}
use Rattle.gl_filters.proofs.Cycling.{test_from_cycle}
use Rattle.gl_filters.proofs.Round.{pair_goes}
use Rattle.gl_sought.specs.OffCycles.{IsOffCycles, KeepsCycles}
use Rattle.gl_sought.specs.Sought.{StayLeftOut}
use Rattle.gl_loops.specs.bodies.Epochs.{AreCut}
use Rattle.gl_loops.specs.bodies.Loops.{held_rank, wanted_rank, NoneFallsAmong}
use Rattle.gl_sought.proofs.Back.{kept_at}
use Rattle.gl_loops.proofs.Level.{uneven_off}
use Rattle.gl_loops.proofs.Off.{loop_from_cycle}

module _ (before : Segment → Segment → Bool) (mode : Mode) (len : ℕ) (edges : List Edge) (kept : List Bool) (rank : ℕ → ℕ → LockMode → ℕ) (epoch : ℕ → ℕ)
    (keeps : KeepsCycles before mode len edges kept) (cut : AreCut before mode epoch edges kept) (certified : NoneFallsAmong rank epoch edges kept)
    (x : ℕ) (e : Edge) (here : slice_get edges x ≡ Some e) (stays : ¬ (slice_get kept x ≡ Some false)) where
  -- by the ranks of an edge's epoch, along no edge of its cycle the rank falls: all are of that epoch
  falls_not : (cycle : List Edge) → All (Contains edges) cycle → IsCycle before mode len cycle → (k : ℕ) → slice_get cycle k ≡ Some e
      → (j : ℕ) (f : Edge) → slice_get cycle j ≡ Some f → held_rank (rank (epoch x)) f ≤ wanted_rank (rank (epoch x)) f
  falls_not cycle among is k at_k j f at_j =
      elim (cases_eq j k) [
        | inl same ↦
            let is_e : e ≡ f = same_Some e f (sym at_k ∙ sym (ap (slice_get cycle) same) ∙ at_j) in
            subst (λ d. held_rank (rank (epoch x)) d ≤ wanted_rank (rank (epoch x)) d) is_e (certified x e here stays)
        | inr other ↦
            let (i, there, flag) = kept_at before mode len edges kept keeps cycle among is j f at_j in
            let is_kept : ¬ (slice_get kept i ≡ Some false) = λ out. false≢true (same_Some false true (sym out ∙ flag)) in
            elim (cases_eq (epoch i) (epoch x)) [
              | inl one ↦ subst (λ n. held_rank (rank n) f ≤ wanted_rank (rank n) f) one (certified i f there is_kept)
              | inr differ ↦ absurd (false≢true (sym (cut i x f e there here is_kept stays differ) ∙ pair_goes before mode len cycle is j k f e other at_j at_k))
            ]
      ]

  pub rising_off : held_rank (rank (epoch x)) e ≢ wanted_rank (rank (epoch x)) e → IsOffCycles before mode len edges e
  rising_off uneven = λ cycle among is in_it.
      let loop = loop_from_cycle before mode edges cycle among (test_from_cycle before mode len cycle is) in
      let (k, below, same) = in_it in
      let at_k = slice_get-get_or cycle k e below ∙ ap Some same in
      uneven_off (rank (epoch x)) cycle e loop.leads_on loop.leads_back
      (λ j d below. falls_not cycle among is k at_k j (get_or cycle j d) (slice_get-get_or cycle j d below))
      uneven in_it

-- where the rank falls along none of these edges, it falls along none of fewer
pub none_falls_later : (edges : List Edge) (before now : List Bool) (rank : ℕ → ℕ → LockMode → ℕ) (epoch : ℕ → ℕ) → StayLeftOut before now → NoneFallsAmong rank epoch edges before → NoneFallsAmong rank epoch edges now
none_falls_later edges before now rank epoch stay certified i e at kept = certified i e at (λ out. kept (stay i out))

-- nor along one edge more
pub none_falls_more : (edges : List Edge) (kept : List Bool) (rank : ℕ → ℕ → LockMode → ℕ) (epoch : ℕ → ℕ) (n : ℕ)
    → ((i : ℕ) (e : Edge) → i < n → slice_get edges i ≡ Some e → ¬ (slice_get kept i ≡ Some false) → held_rank (rank (epoch i)) e ≤ wanted_rank (rank (epoch i)) e)
    → ((e : Edge) → slice_get edges n ≡ Some e → ¬ (slice_get kept n ≡ Some false) → held_rank (rank (epoch n)) e ≤ wanted_rank (rank (epoch n)) e)
    → (i : ℕ) (e : Edge) → i < n + 1 → slice_get edges i ≡ Some e → ¬ (slice_get kept i ≡ Some false) → held_rank (rank (epoch i)) e ≤ wanted_rank (rank (epoch i)) e
none_falls_more edges kept rank epoch n so_far here i e below at stays =
    elim (cases_eq i n) [
      | inl same ↦ subst (λ m. held_rank (rank (epoch m)) e ≤ wanted_rank (rank (epoch m)) e) (sym same) (here e (sym (ap (slice_get edges) same) ∙ at) (λ out. stays (ap (slice_get kept) same ∙ out)))
      | inr other ↦ so_far i e (omega (arith, below, other)) at stays
    ]
