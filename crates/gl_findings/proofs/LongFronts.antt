-- A front that has as many classes as a cycle with an edge of its first one has edges goes on to no finding.
use Rattle.std.proofs.Common.{◌≡◌, ℕ, ◌<◌, ◌≤◌, Bool, true, List, [], ◌∷◌, ◌++◌, length, map, take, drop, Some, sym, ap, subst, ◌∙◌, arith}
use Rattle.std.specs.Prelude.{slice_get, All, Contains, nat_eq}
use Rattle.std.specs.List.{range_with_len}
use Rattle.std.specs.Cmp.Lexicographic.{pointwise, same_text}
use Rattle.std.proofs.lemmas.Bool.{false_from_ne_true}
use Rattle.std.proofs.lemmas.List.{length-append, length-map, length_push, map-append}
use Rattle.std.proofs.lemmas.List.Folds.{Any-from_list_any}
use Rattle.std.proofs.lemmas.Option.{slice_get_within, get_or_from_slice_get}
use Rattle.gl_event.proofs.Depths.{slice_get_before}
use Rattle.gl_event.specs.declared.events.Segment.{Segment}
use Rattle.gl_edges.specs.declared.edge.Edge.{Edge}
use Rattle.gl_edges.specs.declared.edge.Sample.{Sample}
use Rattle.gl_filters.specs.declared.query.Mode.{Mode}
use Rattle.gl_filters.specs.Picked.{edges_of_table, picked}
use Rattle.gl_cycles.specs.AllCycles.{all_cycles}
use Rattle.gl_cycles.specs.Laws.{IsCycleAt}
use Rattle.gl_cycles.proofs.AmongAllCycles.{there_is_cycle}
use Rattle.gl_cycles.proofs.CyclesAreLevel.{picked_among}
use Rattle.gl_cycles.proofs.EdgesOfPaths.{length-picked}
use Rattle.gl_index.proofs.Lists.{element_at}
use Rattle.gl_grounds.specs.Classes.{class_of, classes_of}
use Rattle.gl_findings.specs.Findings.{signature_of, turned, is_turn, first_with}
use Rattle.gl_findings.specs.bodies.Growing.{block}
use Rattle.gl_pruning.specs.Limits.{AreLimits}
use Rattle.gl_findings.specs.bodies.Lengths.{AreGreatest, AreLongest, IsAtMost, IsFull}
use Rattle.gl_findings.proofs.Below.{block-without}
use Rattle.gl_findings.proofs.Cutting.{classes_told, filter-nothing, split, turned_back}
use Rattle.gl_findings.proofs.RunTwice.{mapped_at, picked_here}
use Rattle.gl_findings.proofs.Turning.{home}

module _ (before : Segment → Segment → Bool) (mode : Mode) (len : ℕ) (table : List (Edge × Sample)) (longest : List ℕ) (are : AreLongest before mode len (edges_of_table table) (classes_of table) longest) where
  -- a cycle that has an edge of a class has no more edges than that one's number
  no_longer : (positions : List ℕ) → IsCycleAt before mode len (edges_of_table table) positions → (place p class most : ℕ) → slice_get positions place ≡ Some p → slice_get (classes_of table) p ≡ Some class → slice_get longest class ≡ Some most
      → length positions ≤ most
  no_longer positions is place p class most at of_class known =
      let edges = edges_of_table table in
      let below = slice_get_within positions place p at in
      let here = get_or_from_slice_get positions place p 0 at in
      let within : p < length edges = subst (λ (q : ℕ). q < length edges) here (is.within place 0 below) in
      let edge = element_at edges p within in
      let stands = picked_here edges positions is.within place p edge.0 at edge.1 in
      let has : Contains (picked edges positions) edge.0 = (place, slice_get_within (picked edges positions) place edge.0 stands, get_or_from_slice_get (picked edges positions) place edge.0 edge.0 stands) in
      let short = are.each p class most edge.0 of_class edge.1 known (picked edges positions) (picked_among edges positions) is.cycle has in
      omega (arith, short, length-picked edges positions is.within)

  -- no cycle has a signature that begins so and is longer
  none_longer : (front rest : List ℕ) (class most : ℕ) → slice_get front 0 ≡ Some class → slice_get longest class ≡ Some most → most < length front → first_with before mode len table (front ++ rest) ≡ []
  none_longer front rest class most first known long =
      ap (take 1) (filter-nothing _ (all_cycles before mode len (edges_of_table table))
      (λ positions at. false_from_ne_true _ (no_turn positions (there_is_cycle before mode len (edges_of_table table) positions at))))
    where
      no_turn : (positions : List ℕ) → IsCycleAt before mode len (edges_of_table table) positions → is_turn (front ++ rest) (signature_of table positions) ≡ true → ⊥
      no_turn positions is turn =
          let told_by = slice_get (classes_of table) in
          let whole = front ++ rest in
          let (j, k, j_in, k_is, passes) = Any-from_list_any (λ k. pointwise nat_eq (turned k whole) (signature_of table positions)) (range_with_len 0 (length whole)) turn in
          let within : All (λ i. i < length (classes_of table)) positions = λ m d below. omega (arith, is.within m d below, length-map table (λ pair. pair.0), length-map table (class_of table)) in
          let told : map told_by positions ≡ map Some (drop k whole) ++ map Some (take k whole) =
          classes_told (classes_of table) positions within ∙ ap (map Some) (sym (same_text (turned k whole) (signature_of table positions) (sym passes))) ∙ map-append Some (drop k whole) (take k whole) in
          let halves = split told_by positions (map Some (drop k whole)) (map Some (take k whole)) told in
          let as_told = turned_back told_by halves.front halves.back whole k halves.of_front halves.of_back in
          let one = mapped_at told_by (halves.back ++ halves.front) whole as_told 0 class (slice_get_before front rest 0 (slice_get_within front 0 class first) ∙ first) in
          let a = home halves.front halves.back 0 one.0 one.1 in
          let short = no_longer positions is a.place one.0 class most (ap (λ l. slice_get l a.place) (sym halves.whole) ∙ a.stands) one.2 known in
          let as_many : length (halves.back ++ halves.front) ≡ length whole = sym (length-map (halves.back ++ halves.front) told_by) ∙ ap length as_told ∙ length-map whole Some in
          absurd (omega (arith, short, long, as_many, length-append halves.back halves.front, length-append halves.front halves.back, ap length halves.whole, length-append front rest))

  -- so no finding goes on from a front that is full
  pub none_after_full : (n : ℕ) (front : List ℕ) (i : ℕ) → IsFull longest front → block before mode len table n (front ++ i ∷ []) ≡ []
  none_after_full n front i full =
      let below = slice_get_within front 0 full.class full.first in
      block-without before mode len table n (front ++ i ∷ [])
      (λ rest. none_longer (front ++ i ∷ []) rest full.class full.most (slice_get_before front (i ∷ []) 0 below ∙ full.first) full.known (omega (arith, full.full, length_push front i)))

-- where no cycle is longer than the numbers of its edges, none is longer than the greatest ones of their classes
pub longest_from : (before : Segment → Segment → Bool) (mode : Mode) (len : ℕ) (edges : List Edge) (classes limits longest : List ℕ) → AreLimits before mode len edges limits → AreGreatest classes limits longest → AreLongest before mode len edges classes longest
longest_from before mode len edges classes limits longest are greatest = record {
  each = λ i class most e of_class at known cycle among is has.
      let limit = element_at limits i (omega (arith, are.long, slice_get_within edges i e at)) in
      let within : limit.0 ≤ most = subst (IsAtMost limit.0) known (greatest.each i class limit.0 of_class limit.1) in
      omega (arith, within, (are.each i limit.0 limit.1).longest e at cycle among is has);
}
