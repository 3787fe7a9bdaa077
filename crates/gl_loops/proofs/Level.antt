-- Going round a loop, a number that never falls stays the same.
use Rattle.std.proofs.Common.{◌≡◌, ◌≢◌, ℕ, ◌+◌, ◌<◌, ◌≤◌, Bool, true, false, List, [], ◌∷◌, ◌++◌, length, map, take, get_or, sym, ap, subst, ◌∙◌, arith, inl, inr}
use Rattle.std.specs.Prelude.{slice_get, All, Contains}
use Rattle.std.proofs.lemmas.Bool.{eq-eqb, and_parts, false≢true}
use Rattle.std.proofs.lemmas.List.Elements.{All-get_or, All-head, All-tail, All-weaker, All-contains, All-contains_itself, All-push}
use Rattle.gl_edges.specs.declared.edge.Edge.{Edge}
use Rattle.gl_edges.proofs.Membership.{contains_cases, contains_none}
use Rattle.gl_filters.proofs.Cycling.{leads_same}
use Rattle.gl_filters.specs.Test.{lead_on, leads_back, leads_to, last_of}
use Rattle.gl_event.specs.Modes.{conflict}
use Rattle.gl_event.specs.declared.events.LockMode.{LockMode}
use Rattle.gl_event.specs.declared.events.LockMode.TheVariants.{Exclusive, Shared}
use Rattle.std.specs.Option.{option_map}
use Rattle.std.proofs.lemmas.Option.{slice_get-map, same_Some}
use Rattle.std.proofs.lemmas.List.{get_or-map, length-map, map-append, take_more}
use Rattle.gl_edges.specs.declared.edge.Sample.{Sample}
use Rattle.gl_filters.specs.Picked.{edges_of_table}
use Rattle.gl_loops.specs.Loops.{IsLoop, IsOffLoops, KeepsLoops, IsNeverFalling}
use Rattle.gl_loops.specs.bodies.Loops.{least, held_rank, wanted_rank, NoneFalls, is_level}

-- numbers of edges that don't fall from one edge to another that it leads on to
module _ (from to : Edge → ℕ) (onward : (e f : Edge) → leads_to e f ≡ true → to e ≤ from f) where
  -- the number doesn't fall along this edge
  abbrev rises : Edge → Type 0
  rises e = from e ≤ to e

  -- along edges that lead on, it doesn't fall from the first edge to the last
  to_last : (e : Edge) (es : List Edge) → lead_on (e ∷ es) ≡ true → All rises (e ∷ es) → to e ≤ to (last_of e es)
  to_last e [] leads up = omega arith
  to_last e (f ∷ es) leads up =
      let parts = and_parts _ _ leads in
      let next = onward e f parts.0 in
      let rest = All-tail rises e (f ∷ es) up in
      let here = All-head rises f es rest in
      let later = to_last f es parts.1 rest in
      omega arith

  -- nor from the first edge to any other, and from there to the last one
  through : (d e : Edge) (es : List Edge) → lead_on (e ∷ es) ≡ true → All rises (e ∷ es) → Contains (e ∷ es) d → (from e ≤ from d) × (to d ≤ to (last_of e es))
  through d e [] leads up among =
      elim (contains_cases e d [] among) [
        | inl same ↦ let held : from e ≡ from d = ap from same in let wanted : to e ≡ to d = ap to same in (omega arith, omega arith)
        | inr none ↦ absurd (contains_none d none)
      ]
  through d e (f ∷ es) leads up among =
      let parts = and_parts _ _ leads in
      let next = onward e f parts.0 in
      let first = All-head rises e (f ∷ es) up in
      let rest = All-tail rises e (f ∷ es) up in
      elim (contains_cases e d (f ∷ es) among) [
        | inl is ↦
            let last = to_last e (f ∷ es) leads up in
            let held : from e ≡ from d = ap from is in
            let wanted : to e ≡ to d = ap to is in
            (omega arith, omega arith)
        | inr later ↦ let on = through d f es parts.1 rest later in let up_to = on.0 in (omega arith, on.1)
      ]

  -- so along all edges of a loop it stays the same
  round : (loop : List Edge) (d : Edge) → lead_on loop ≡ true → leads_back loop ≡ true → All rises loop → Contains loop d → from d ≡ to d
  round [] d leads back up among = absurd (contains_none d among)
  round (e ∷ es) d leads back up among =
      let on = through d e es leads up among in
      let before = on.0 in
      let after = on.1 in
      let closed = onward (last_of e es) e back in
      let here = All-contains rises (e ∷ es) d up among in
      omega arith

  all_round : (edges loop : List Edge) → All rises edges → IsLoop edges loop → All (λ e. from e ≡ to e) loop
  all_round edges loop certified is =
      All-weaker (Contains loop) (λ e. from e ≡ to e)
      (λ d among. round loop d is.leads_on is.leads_back (All-weaker (Contains edges) rises (λ e. All-contains rises edges e certified) loop is.among) among)
      loop (All-contains_itself loop)

module _ (rank : ℕ → ℕ) where
  -- all edges of a loop are level, by ranks of locks that never fall
  pub loop_is_level : (edges loop : List Edge) → IsNeverFalling rank edges → IsLoop edges loop → All (λ e. rank e.held ≡ rank e.wanted) loop
  loop_is_level = all_round (λ e. rank e.held) (λ e. rank e.wanted) (λ e f leads. let same : rank e.wanted ≡ rank f.held = ap rank (leads_same e f leads) in omega arith)

module _ (rank : ℕ → LockMode → ℕ) where
  -- who waits for a holder has no lower rank than the least of those for whom it may wait
  least_of : (wanted held : LockMode) (lock : ℕ) → conflict wanted held ≡ true → least rank lock wanted ≤ rank lock held
  least_of Exclusive Exclusive lock waits = omega arith
  least_of Exclusive Shared lock waits = omega arith
  least_of Shared Exclusive lock waits = omega arith
  least_of Shared Shared lock waits = absurd (false≢true waits)

  least_next : (e f : Edge) → leads_to e f ≡ true → wanted_rank rank e ≤ held_rank rank f
  least_next e f leads =
      let same = ap (λ lock. rank lock f.held_mode) (leads_same e f leads) in
      omega (arith, least_of e.wanted_mode f.held_mode e.wanted (and_parts _ _ leads).1, same)

  -- an edge that isn't level lies on no loop
  pub off_loops : (edges : List Edge) (e : Edge) → NoneFalls rank edges → is_level rank e ≡ false → IsOffLoops edges e
  off_loops edges e certified uneven = λ loop is among.
      let level = All-contains (λ d. held_rank rank d ≡ wanted_rank rank d) loop e (all_round (held_rank rank) (wanted_rank rank) least_next edges loop certified is) among in
      false≢true (sym uneven ∙ eq-eqb _ _ level)

  abbrev falls_not : Edge → Type 0
  falls_not e = held_rank rank e ≤ wanted_rank rank e

  -- an edge that isn't level is on no loop of edges along which the rank doesn't fall
  pub uneven_off : (loop : List Edge) (e : Edge) → lead_on loop ≡ true → leads_back loop ≡ true → All falls_not loop → held_rank rank e ≢ wanted_rank rank e → ¬ Contains loop e
  uneven_off loop e leads back up uneven among = uneven (round (held_rank rank) (wanted_rank rank) least_next loop e leads back up among)

  -- flags of the level edges leave out only edges that lie on no loop
  pub level_keeps : (edges : List Edge) (flags : List Bool) → NoneFalls rank edges → flags ≡ map (is_level rank) edges → KeepsLoops edges flags
  level_keeps edges flags certified are = record {
    long = ap length are ∙ length-map edges (is_level rank);
    left_out = λ i e at out.
        off_loops edges e certified (same_Some _ _ (sym (ap (λ l. slice_get l i) are ∙ slice_get-map (is_level rank) edges i ∙ ap (option_map (is_level rank)) at) ∙ out));
  }

  module _ (table : List (Edge × Sample)) (i : ℕ) (d : Edge × Sample) (within : i < length table) where
    one_more : edges_of_table (take (i + 1) table) ≡ edges_of_table (take i table) ++ (get_or table i d).0 ∷ []
    one_more = ap edges_of_table (take_more table i d within) ∙ map-append (λ pair. pair.0) (take i table) (get_or table i d ∷ [])

    -- where the rank falls along no edge, it doesn't along this one
    pub rises_at : NoneFalls rank (edges_of_table table) → falls_not (get_or table i d).0
    rises_at certified =
        subst falls_not (get_or-map (λ pair. pair.0) table i d d.0 within) (All-get_or falls_not (edges_of_table table) i d.0 (omega (arith, within, length-map table (λ pair. pair.0))) certified)

    -- the rank doesn't fall along one more edge
    pub rises_more : NoneFalls rank (edges_of_table (take i table)) → falls_not (get_or table i d).0 → NoneFalls rank (edges_of_table (take (i + 1) table))
    rises_more before here = subst (All falls_not) (sym one_more) (All-push falls_not (edges_of_table (take i table)) (get_or table i d).0 before here)

    -- the flag of one more edge
    pub level_more : (flags : List Bool) (flag : Bool) → flags ≡ map (is_level rank) (edges_of_table (take i table)) → flag ≡ is_level rank (get_or table i d).0
        → flags ++ flag ∷ [] ≡ map (is_level rank) (edges_of_table (take (i + 1) table))
    level_more flags flag before here =
        (λ k. before k ++ here k ∷ []) ∙ sym (map-append (is_level rank) (edges_of_table (take i table)) ((get_or table i d).0 ∷ [])) ∙ ap (map (is_level rank)) (sym one_more)
