-- Where no cycle has more than so many edges, all are found by paths of so many.
use Rattle.std.proofs.Common.{◌≡◌, ℕ, zero, suc, ◌+◌, ◌<◌, ◌≤◌, Bool, true, false, cond, List, [], ◌∷◌, ◌++◌, length, take, refl, sym, ap, ◌∙◌, arith}
use Rattle.std.specs.Prelude.{All, Contains}
use Rattle.std.proofs.lemmas.List.{append_assoc, append-nil}
use Rattle.std.proofs.lemmas.List.Elements.{All-cons}
use Rattle.gl_event.specs.declared.events.Segment.{Segment}
use Rattle.gl_edges.specs.declared.edge.Edge.{Edge}
use Rattle.gl_filters.specs.Cycle.{IsCycle}
use Rattle.gl_filters.specs.declared.query.Mode.{Mode}
use Rattle.gl_filters.specs.Test.{is_cycle}
use Rattle.gl_filters.specs.Picked.{picked, edges_of_table}
use Rattle.gl_filters.proofs.Cycling.{cycle_from_test}
use Rattle.gl_segments.specs.Clocks.{is_before}
use Rattle.gl_sought.specs.declared.sought.Sought.{Sought}
use Rattle.gl_cycles.specs.AllCycles.{lists_below, all_cycles}
use Rattle.gl_cycles.specs.bodies.Blocks.{block, upto}
use Rattle.gl_cycles.proofs.AmongAllCycles.{lists_from}
use Rattle.gl_cycles.proofs.BelowFronts.{all_cycles-block, block-zero, block-suc}
use Rattle.gl_cycles.proofs.CyclesAreLevel.{picked_among}
use Rattle.gl_cycles.proofs.EdgesOfPaths.{length-picked}
use Rattle.gl_cycles.proofs.EdgesOffCycles.{filter-none_of}
use Rattle.gl_cycles.proofs.ListsOfPositions.{upto-more, upto-until}

-- functions that give the same below n
upto-each : (f g : ℕ → List (List ℕ)) (n : ℕ) → ((i : ℕ) → i < n → f i ≡ g i) → upto f n ≡ upto g n
upto-each f g zero same = refl
upto-each f g (suc n) same =
    let e : suc n ≡ n + 1 = omega arith in
    ap (upto f) e ∙ upto-more f n ∙ ap (λ l. l ++ f n) (upto-each f g n (λ i below. same i (omega (arith, below)))) ∙ ap (λ l. upto g n ++ l) (same n (omega arith))
    ∙ sym (ap (upto g) e ∙ upto-more g n)

module _ (before : Segment → Segment → Bool) (mode : Mode) (edges : List Edge) where
  abbrev pub Within : List ℕ → Type 0
  Within rest = All (λ i. i < length edges) rest

  -- no cycle begins so
  abbrev pub NoneFrom : ℕ → ℕ → List ℕ → Type 0
  NoneFrom m n front = (rest : List ℕ) → length rest ≤ n → Within rest → m < length rest → is_cycle before mode (picked edges (front ++ rest)) ≡ false

  -- one position more
  none-suc : (m n : ℕ) (front : List ℕ) (i : ℕ) → i < length edges → NoneFrom (suc m) (suc n) front → NoneFrom m n (front ++ i ∷ [])
  none-suc m n front i below none rest fits within longer =
      ap (λ l. is_cycle before mode (picked edges l)) (append_assoc front (i ∷ []) rest)
      ∙ none (i ∷ rest) (omega (arith, fits)) (All-cons (λ k. k < length edges) i rest below within) (omega (arith, longer))

  block-none : (n : ℕ) (front : List ℕ) → ((rest : List ℕ) → length rest ≤ n → Within rest → is_cycle before mode (picked edges (front ++ rest)) ≡ false) → block before mode edges n front ≡ []
  unfolding block
  block-none n front none =
      filter-none_of (λ positions. is_cycle before mode (picked edges positions)) front (lists_below (length edges) n)
      (λ rest there. let from = lists_from (length edges) n rest there in none rest from.0 from.1)

  -- what is too long for a cycle needn't be looked at
  pub block-shorter : (m n : ℕ) (front : List ℕ) → m ≤ n → NoneFrom m n front → block before mode edges n front ≡ block before mode edges m front
  block-shorter zero zero front le none = refl
  block-shorter zero (suc n) front le none =
      block-suc before mode edges n front
      ∙ ap (λ l. cond (is_cycle before mode (picked edges front)) (front ∷ []) [] ++ l)
      (upto-until (λ i. block before mode edges n (front ++ i ∷ [])) 0 (length edges) (omega arith)
      (λ i from below. block-none n (front ++ i ∷ [])
      (λ rest fits within. ap (λ l. is_cycle before mode (picked edges l)) (append_assoc front (i ∷ []) rest)
      ∙ none (i ∷ rest) (omega (arith, fits)) (All-cons (λ k. k < length edges) i rest below within) (omega arith))))
      ∙ append-nil (cond (is_cycle before mode (picked edges front)) (front ∷ []) [])
      ∙ sym (block-zero before mode edges front)
  block-shorter (suc m) zero front le none = absurd (omega (arith, le))
  block-shorter (suc m) (suc n) front le none =
      block-suc before mode edges n front
      ∙ ap (λ l. cond (is_cycle before mode (picked edges front)) (front ∷ []) [] ++ l)
      (upto-each (λ i. block before mode edges n (front ++ i ∷ [])) (λ i. block before mode edges m (front ++ i ∷ [])) (length edges)
      (λ i below. block-shorter m n (front ++ i ∷ []) (omega (arith, le)) (none-suc m n front i below none)))
      ∙ sym (block-suc before mode edges m front)

  -- all cycles are those of the lesser length
  pub all_shorter : (len short : ℕ) → short ≤ len → ((cycle : List Edge) → All (Contains edges) cycle → IsCycle before mode len cycle → length cycle ≤ short)
      → all_cycles before mode len edges ≡ all_cycles before mode short edges
  all_shorter len short le all =
      all_cycles-block before mode edges len ∙ block-shorter short len [] le (λ rest fits within longer. by rest fits within longer (is_cycle before mode (picked edges rest)) refl)
      ∙ sym (all_cycles-block before mode edges short)
    where
      by : (rest : List ℕ) → length rest ≤ len → Within rest → short < length rest → (b : Bool) → is_cycle before mode (picked edges rest) ≡ b → is_cycle before mode (picked edges rest) ≡ false
      by rest fits within longer true is =
          let same = length-picked edges rest within in
          let cycle = cycle_from_test before mode len (picked edges rest) (omega (arith, fits, same)) is in
          absurd (omega (arith, longer, same, all (picked edges rest) (picked_among edges rest) cycle))
      by rest fits within longer false is = is

-- these are the first of the cycles that are sought
abbrev pub AreFirst : Sought → ℕ → List (List ℕ) → Type 0
AreFirst sought cap found = found ≡ take cap (all_cycles (is_before sought.order.now) sought.mode sought.len (edges_of_table sought.table.now))

-- and so are the first of those that are no longer than these can be
pub first_of_shorter : (sought shorter : Sought) (cap : ℕ) (found : List (List ℕ)) → shorter.table.now ≡ sought.table.now → shorter.order.now ≡ sought.order.now → shorter.mode ≡ sought.mode → shorter.len ≤ sought.len
    → ((cycle : List Edge) → All (Contains (edges_of_table sought.table.now)) cycle → IsCycle (is_before sought.order.now) sought.mode sought.len cycle → length cycle ≤ shorter.len)
    → AreFirst shorter cap found → AreFirst sought cap found
first_of_shorter sought shorter cap found table order mode short all are =
    are
    ∙ ap (take cap)
    ((λ i. all_cycles (is_before (order i)) (mode i) shorter.len (edges_of_table (table i)))
    ∙ sym (all_shorter (is_before sought.order.now) sought.mode (edges_of_table sought.table.now) sought.len shorter.len short all))
