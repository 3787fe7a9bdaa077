-- Where no cycle has more than so many edges, the findings are those of cycles of so many.
use Rattle.std.proofs.Common.{◌≡◌, ℕ, zero, suc, ◌<◌, ◌≤◌, Bool, true, false, cond, List, [], ◌∷◌, ◌++◌, length, map, filter, take, Some, refl, sym, ap, ◌∙◌, arith}
use Rattle.std.specs.Prelude.{All, Contains, slice_get}
use Rattle.std.specs.List.{flat_map, range_with_len}
use Rattle.std.proofs.lemmas.Bool.{false_from_ne_true}
use Rattle.std.proofs.lemmas.List.{append-nil, append_assoc, length-map}
use Rattle.gl_event.specs.declared.events.Segment.{Segment}
use Rattle.gl_edges.specs.declared.edge.Edge.{Edge}
use Rattle.gl_edges.specs.declared.edge.Sample.{Sample}
use Rattle.gl_filters.specs.Cycle.{IsCycle}
use Rattle.gl_filters.specs.Picked.{edges_of_table, picked}
use Rattle.gl_filters.specs.declared.query.Mode.{Mode}
use Rattle.gl_cycles.specs.AllCycles.{lists_below, all_cycles}
use Rattle.gl_cycles.specs.Laws.{IsCycleAt}
use Rattle.gl_cycles.proofs.AmongAllCycles.{there_is_cycle}
use Rattle.gl_cycles.proofs.CyclesAreLevel.{picked_among}
use Rattle.gl_cycles.proofs.EdgesOfPaths.{length-picked}
use Rattle.gl_cycles.proofs.ListsOfPositions.{upto-until}
use Rattle.gl_cycles.proofs.NoLonger.{all_shorter}
use Rattle.gl_grounds.specs.Classes.{class_of, classes_of}
use Rattle.gl_findings.specs.Findings.{signature_of, is_turn, begins_least, findings}
use Rattle.gl_findings.specs.bodies.Growing.{finding, block}
use Rattle.gl_findings.proofs.Below.{block-zero, block-suc, block-none, findings-block}
use Rattle.gl_findings.proofs.Cutting.{classes_told, filter-nothing}
use Rattle.gl_findings.proofs.LeastTurns.{turn_tells, length-turned}

either_nothing : {X : Type 0} (b : Bool) → ◌≡◌ {A = List X} (cond b [] []) []
either_nothing true = refl
either_nothing false = refl

pub take_nothing : (n : ℕ) → ◌≡◌ {A = List (List ℕ)} [] (take n [])
take_nothing zero = refl
take_nothing (suc n) = refl

-- a list that has no first element has none
pub nothing_first : (l : List (List ℕ)) → length (take 1 l) ≡ 0 → l ≡ []
nothing_first [] is = refl
nothing_first (x ∷ xs) is = absurd (omega (arith, is))

module _ (before : Segment → Segment → Bool) (mode : Mode) (len : ℕ) (table : List (Edge × Sample)) where
  abbrev found : List ℕ → List (List ℕ)
  found signature = finding before mode len table signature

  -- where there is no cycle, there are no findings
  pub no_findings : all_cycles before mode len (edges_of_table table) ≡ [] → findings before mode len table ≡ []
  no_findings none =
      findings-block before mode len table
      ∙ block-none before mode len table len []
      (λ rest. ap (λ l. cond (begins_least rest) (take 1 (filter (λ positions. is_turn rest (signature_of table positions)) l)) []) none ∙ either_nothing (begins_least rest))

  -- no signature begins so that has more than m classes behind
  abbrev NoneFrom : ℕ → List ℕ → Type 0
  NoneFrom m front = (rest : List ℕ) → m < length rest → found (front ++ rest) ≡ []

  none-suc : (m : ℕ) (front : List ℕ) (i : ℕ) → NoneFrom (suc m) front → NoneFrom m (front ++ i ∷ [])
  none-suc m front i none rest longer = ap found (append_assoc front (i ∷ []) rest) ∙ none (i ∷ rest) (omega (arith, longer))

  -- what is too long for a signature needn't be looked at
  block-shorter : (m n : ℕ) (front : List ℕ) → m ≤ n → NoneFrom m front → block before mode len table n front ≡ block before mode len table m front
  block-shorter zero zero front le none = refl
  block-shorter zero (suc n) front le none =
      block-suc before mode len table n front
      ∙ ap (λ l. found front ++ l)
      (upto-until (λ i. block before mode len table n (front ++ i ∷ [])) 0 (length table) (omega arith)
      (λ i from below. block-none before mode len table n (front ++ i ∷ []) (λ rest. ap found (append_assoc front (i ∷ []) rest) ∙ none (i ∷ rest) (omega arith))))
      ∙ append-nil (found front)
      ∙ sym (block-zero before mode len table front)
  block-shorter (suc m) zero front le none = absurd (omega (arith, le))
  block-shorter (suc m) (suc n) front le none =
      let each = λ (i : ℕ). block-shorter m n (front ++ i ∷ []) (omega (arith, le)) (none-suc m front i none) in
      block-suc before mode len table n front
      ∙ (λ k. found front ++ flat_map (λ i. each i k) (range_with_len 0 (length table)))
      ∙ sym (block-suc before mode len table m front)

  module _ (short : ℕ) (le : short ≤ len) (all : (cycle : List Edge) → All (Contains (edges_of_table table)) cycle → IsCycle before mode len cycle → length cycle ≤ short) where
    -- no cycle has a signature that is longer
    no_turn : (signature positions : List ℕ) → short < length signature → IsCycleAt before mode len (edges_of_table table) positions → is_turn signature (signature_of table positions) ≡ true → ⊥
    no_turn signature positions longer is turn =
        let told = turn_tells signature (signature_of table positions) turn in
        let within : All (λ i. i < length (classes_of table)) positions = λ m d below. omega (arith, is.within m d below, length-map table (λ pair. pair.0), length-map table (class_of table)) in
        let as_long : length positions ≡ length (signature_of table positions) = sym (length-map positions (slice_get (classes_of table))) ∙ ap length (classes_told (classes_of table) positions within) ∙ length-map (signature_of table positions) Some in
        let short_cycle = all (picked (edges_of_table table) positions) (picked_among (edges_of_table table) positions) is.cycle in
        absurd (omega (arith, longer, as_long, sym (length-turned told.0 signature) ∙ ap length told.2, short_cycle, length-picked (edges_of_table table) positions is.within))

    none_longer : (signature : List ℕ) → short < length signature → found signature ≡ []
    none_longer signature longer =
        ap (λ l. cond (begins_least signature) (take 1 l) [])
        (filter-nothing (λ positions. is_turn signature (signature_of table positions)) (all_cycles before mode len (edges_of_table table))
        (λ positions at. false_from_ne_true _ (no_turn signature positions longer (there_is_cycle before mode len (edges_of_table table) positions at))))
        ∙ either_nothing (begins_least signature)

    -- so the findings are those of the lesser length
    pub findings_shorter : findings before mode len table ≡ findings before mode short table
    unfolding block
    findings_shorter =
        let same = all_shorter before mode (edges_of_table table) len short le all in
        findings-block before mode len table
        ∙ block-shorter short len [] le none_longer
        ∙ (λ k. flat_map (λ signature. cond (begins_least signature) (take 1 (filter (λ positions. is_turn signature (signature_of table positions)) (same k))) []) (map (λ rest. [] ++ rest) (lists_below (length table) short)))
        ∙ sym (findings-block before mode short table)
