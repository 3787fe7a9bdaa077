-- Where no cycle with an edge has more edges than a limit, those that begin with it are found by paths of so many.
use Rattle.std.proofs.Common.{◌≡◌, ℕ, ◌-◌, ◌<◌, ◌≤◌, Bool, true, false, List, [], ◌∷◌, length, refl, sym, subst, arith}
use Rattle.std.specs.Prelude.{Contains}
use Rattle.std.specs.List.{cons_option}
use Rattle.std.proofs.lemmas.List.{length-map}
use Rattle.std.proofs.lemmas.List.Elements.{All-cons}
use Rattle.gl_event.specs.declared.events.Segment.{Segment}
use Rattle.gl_edges.specs.declared.edge.Edge.{Edge}
use Rattle.gl_edges.proofs.Membership.{contains_here}
use Rattle.gl_segments.specs.Clocks.{is_before}
use Rattle.gl_filters.specs.Cycle.{IsCycle}
use Rattle.gl_filters.specs.Picked.{edges_of_table, picked}
use Rattle.gl_filters.specs.Test.{is_cycle}
use Rattle.gl_filters.proofs.Cycling.{cycle_from_test}
use Rattle.gl_index.proofs.Lists.{element_at}
use Rattle.gl_cycles.specs.bodies.Searching.{IsReady, HasLimit, all_from, limited, sought_by}
use Rattle.gl_cycles.specs.declared.paths.Searcher.{Searcher}
use Rattle.gl_cycles.proofs.CyclesAreLevel.{picked_among}
use Rattle.gl_cycles.proofs.EdgesOfPaths.{length-picked}
use Rattle.gl_cycles.proofs.NoLonger.{Within, block-shorter}

module _ (s : Searcher) (limit : ℕ) where
  -- a cycle of no more edges than a limit has no more than the search asks for
  longer_allowed : (cycle : List Edge) → limit ≤ s.len → IsCycle (is_before s.order.now) s.mode limit cycle → IsCycle (is_before s.order.now) s.mode s.len cycle
  longer_allowed cycle short is = record {
    two_or_more = is.two_or_more;
    not_too_long = omega (arith, short, is.not_too_long);
    leads_on = is.leads_on;
    leads_back = is.leads_back;
    locks_differ = is.locks_differ;
    threads_differ = is.threads_differ;
    least_first = is.least_first;
    apart = is.apart;
    unordered = is.unordered;
  }

  -- the search for cycles of no more edges than a limit can begin
  pub limited_ready : limit ≤ s.len → IsReady s → IsReady (limited s limit)
  limited_ready short ready = record {
    fits = omega (arith, short, ready.fits);
    kept = record {
      long = ready.kept.long;
      left_out = λ i e at out cycle among is. ready.kept.left_out i e at out cycle among (longer_allowed cycle short is);
    };
    indexed = ready.indexed;
    limits = tt;
  }

  module _ (root : ℕ) (there : root < length s.table.now) (known : HasLimit (sought_by s) root limit) where
    abbrev edges : List Edge
    edges = edges_of_table s.table.now

    abbrev before : Segment → Segment → Bool
    before = is_before s.order.now

    none_longer : (rest : List ℕ) → length rest ≤ s.len - 1 → Within before s.mode edges rest → limit - 1 < length rest → (b : Bool)
        → is_cycle before s.mode (picked edges (root ∷ rest)) ≡ b → is_cycle before s.mode (picked edges (root ∷ rest)) ≡ false
    none_longer rest fits within longer true is =
        let here = element_at edges root (omega (arith, there, length-map s.table.now (λ pair. pair.0))) in
        let long = length-picked edges (root ∷ rest) (All-cons (λ k. k < length edges) root rest (omega (arith, there, length-map s.table.now (λ pair. pair.0))) within) in
        let cycle = cycle_from_test before s.mode s.len (picked edges (root ∷ rest)) (omega (arith, fits, long, longer)) is in
        let has : Contains (picked edges (root ∷ rest)) here.0 = subst (λ o. Contains (cons_option o (picked edges rest)) here.0) (sym here.1) (contains_here here.0 (picked edges rest)) in
        absurd (omega (arith, longer, long, known.longest here.0 here.1 (picked edges (root ∷ rest)) (picked_among edges (root ∷ rest)) cycle has))
    none_longer rest fits within longer false is = is

    -- it finds all cycles that begin with the edge
    pub all_within : all_from (limited s limit) (root ∷ []) ≡ all_from s (root ∷ [])
    all_within =
        sym (block-shorter before s.mode edges (limit - 1) (s.len - 1) (root ∷ []) (omega (arith, known.short))
        (λ rest fits within longer. none_longer rest fits within longer (is_cycle before s.mode (picked edges (root ∷ rest))) refl))
