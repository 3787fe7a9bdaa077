-- Edges of one thread don't stand in a cycle together: beside each edge stand those of other threads.
use Rattle.std.proofs.Common.{◌≡◌, ◌≢◌, ℕ, ◌+◌, ◌-◌, Bool, true, false, not, ◌&&◌, eqb, List, length, Some, sym, ap, ◌∙◌, arith}
use Rattle.std.specs.Prelude.{slice_get}
use Rattle.std.proofs.lemmas.Bool.{and_parts, eq-eqb, false≢true, false_from_ne_true}
use Rattle.std.proofs.lemmas.Option.{slice_get_within}
use Rattle.gl_event.specs.declared.events.Segment.{Segment}
use Rattle.gl_edges.specs.declared.edge.Edge.{Edge}
use Rattle.gl_filters.specs.declared.query.Mode.{Mode}
use Rattle.gl_filters.specs.Cycle.{IsCycle}
use Rattle.gl_filters.specs.Verdicts.{following}
use Rattle.gl_filters.specs.Test.{leads_to, goes_with, is_clear, is_compatible}
use Rattle.gl_filters.proofs.Cycling.{leads_same}
use Rattle.gl_filters.proofs.Round.{compatible_round}
use Rattle.gl_index.proofs.Lists.{element_at}
use Rattle.gl_sought.specs.Places.{place_after}
use Rattle.gl_sought.proofs.Places.{from_not_true, place_within, place_first, place_round, place_follows}

-- an edge that may follow another one holds the lock which that wants, and has another thread
pub beside : (before : Segment → Segment → Bool) (mode : Mode) (e f : Edge) → is_compatible before mode e f ≡ true → (e.wanted ≡ f.held) × (e.thread ≢ f.thread)
unfolding is_compatible
beside before mode e f fits =
    let parts = and_parts (leads_to e f) _ (and_parts (leads_to e f && not (eqb e.thread f.thread)) (is_clear before mode e f) fits).0 in
    (leads_same e f parts.0, λ same. false≢true (sym (from_not_true (eqb e.thread f.thread) parts.1) ∙ eq-eqb e.thread f.thread same))

module _ (before : Segment → Segment → Bool) (mode : Mode) (len : ℕ) (cycle : List Edge) (is : IsCycle before mode len cycle) (k : ℕ) (e : Edge) (at : slice_get cycle k ≡ Some e) where
  -- the next edge
  pub next_edge : (j : ℕ) × (f : Edge) × (slice_get cycle j ≡ Some f) × (is_compatible before mode e f ≡ true)
  next_edge =
      let n = length cycle in
      let below = slice_get_within cycle k e at in
      let j = place_after n k 1 in
      let f = element_at cycle j (place_within n k 1 below (omega (arith, is.two_or_more))) in
      let next : following n k ≡ j = ap (following n) (sym (place_first n k below)) ∙ place_follows n k 0 below (omega (arith, is.two_or_more)) in
      (j, f.0, f.1, compatible_round before mode len cycle is k e f.0 at (ap (slice_get cycle) next ∙ f.1))

  pub follower : (j : ℕ) × (f : Edge) × (slice_get cycle j ≡ Some f) × (e.wanted ≡ f.held) × (e.thread ≢ f.thread)
  follower =
      let (j, f, there, compatible) = next_edge in
      let fits = beside before mode e f compatible in
      (j, f, there, fits.0, fits.1)

  -- and the one before
  pub edge_before : (j : ℕ) × (f : Edge) × (slice_get cycle j ≡ Some f) × (is_compatible before mode f e ≡ true)
  edge_before =
      let n = length cycle in
      let below = slice_get_within cycle k e at in
      let j = place_after n k (n - 1) in
      let f = element_at cycle j (place_within n k (n - 1) below (omega arith)) in
      let whole : n - 1 + 1 ≡ n = omega (arith, is.two_or_more) in
      let next : following n j ≡ k = place_follows n k (n - 1) below (omega (arith, is.two_or_more)) ∙ ap (place_after n k) whole ∙ place_round n k below in
      (j, f.0, f.1, compatible_round before mode len cycle is j f.0 e f.1 (ap (slice_get cycle) next ∙ at))

  pub leader : (j : ℕ) × (f : Edge) × (slice_get cycle j ≡ Some f) × (f.wanted ≡ e.held) × (f.thread ≢ e.thread)
  leader =
      let (j, f, there, compatible) = edge_before in
      let fits = beside before mode f e compatible in
      (j, f, there, fits.0, fits.1)

module _ (before : Segment → Segment → Bool) (mode : Mode) (e f : Edge) where
  -- two edges of one thread don't go with each other
  pub apart_in_thread : e.thread ≡ f.thread → goes_with before mode e f ≡ false
  unfolding goes_with
  apart_in_thread same = false_from_ne_true _ (λ goes.
      let parts = and_parts (not (eqb e.held f.held) && not (eqb e.thread f.thread)) _ goes in
      let differ = (and_parts (not (eqb e.held f.held)) _ parts.0).1 in
      false≢true (ap not (sym (eq-eqb e.thread f.thread same)) ∙ differ))
