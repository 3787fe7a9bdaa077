-- A front of which one thread alone runs two classes begins no finding.
use Rattle.std.proofs.Common.{◌≡◌, ◌≢◌, ℕ, zero, suc, ◌<◌, Bool, true, not, ◌&&◌, eqb, List, [], ◌∷◌, ◌++◌, length, map, take, drop, get_or, Option, Some, refl, sym, ap, subst, ◌∙◌, arith}
use Rattle.std.specs.Prelude.{slice_get, All, nat_eq}
use Rattle.std.specs.List.{cons_option, range_with_len}
use Rattle.std.specs.Cmp.Lexicographic.{pointwise, same_text}
use Rattle.std.proofs.lemmas.Bool.{false_from_ne_true, false≢true, and_parts, eq-eqb}
use Rattle.std.proofs.lemmas.List.{length-map, map-append}
use Rattle.std.proofs.lemmas.List.Elements.{All-head, All-tail}
use Rattle.std.proofs.lemmas.List.Folds.{Any-from_list_any}
use Rattle.std.proofs.lemmas.Option.{same_Some, slice_get_within, get_or_from_slice_get}
use Rattle.gl_event.proofs.Depths.{slice_get_before}
use Rattle.gl_event.specs.declared.events.Segment.{Segment}
use Rattle.gl_edges.specs.declared.edge.Edge.{Edge}
use Rattle.gl_edges.specs.declared.edge.Sample.{Sample}
use Rattle.gl_filters.specs.declared.query.Mode.{Mode}
use Rattle.gl_filters.specs.Picked.{edges_of_table, picked}
use Rattle.gl_filters.specs.Test.{goes_with}
use Rattle.gl_filters.proofs.Round.{pair_goes}
use Rattle.gl_cycles.specs.AllCycles.{all_cycles}
use Rattle.gl_cycles.specs.Laws.{IsCycleAt}
use Rattle.gl_sought.specs.OffCycles.{KeepsCycles}
use Rattle.gl_index.proofs.Lists.{element_at}
use Rattle.gl_cycles.proofs.AmongAllCycles.{there_is_cycle}
use Rattle.gl_grounds.specs.Classes.{class_of, classes_of}
use Rattle.gl_findings.specs.Findings.{signature_of, turned, is_turn, first_with}
use Rattle.gl_findings.specs.bodies.Growing.{block}
use Rattle.gl_grounds.specs.Running.{AreRunners, IsRunBy, IsRunTwice}
use Rattle.gl_grounds.specs.declared.runners.Runner.{Runner}
use Rattle.gl_grounds.specs.declared.runners.Runner.TheVariants.{One}
use Rattle.gl_findings.proofs.Below.{block-without}
use Rattle.gl_findings.proofs.Cutting.{classes_told, cycle_is_kept, filter-nothing, split, turned_back}
use Rattle.gl_findings.proofs.Turning.{home, homes_differ}

-- the position that has a class
pub mapped_at : (f : ℕ → Option ℕ) (positions classes : List ℕ) → map f positions ≡ map Some classes → (k class : ℕ) → slice_get classes k ≡ Some class → (p : ℕ) × (slice_get positions k ≡ Some p) × (f p ≡ Some class)
mapped_at f positions [] same k class at = absurd (let below = slice_get_within [] k class at in omega arith)
mapped_at f [] (c ∷ cs) same k class at = absurd (cc)
mapped_at f (p ∷ ps) (c ∷ cs) same zero class at = (p, refl, ap (λ l. get_or l 0 (Some c)) same ∙ at)
mapped_at f (p ∷ ps) (c ∷ cs) same (suc k) class at = mapped_at f ps cs (ap (drop 1) same) k class at

-- the edge at one of the positions stands at the same place among those that are picked
pub picked_here : (edges : List Edge) (positions : List ℕ) → All (λ i. i < length edges) positions → (k p : ℕ) (e : Edge) → slice_get positions k ≡ Some p → slice_get edges p ≡ Some e → slice_get (picked edges positions) k ≡ Some e
picked_here edges [] within k p e at there = absurd (let below = slice_get_within [] k p at in omega arith)
picked_here edges (i ∷ is) within zero p e at there = ap (λ o. slice_get (cons_option o (picked edges is)) 0) (ap (slice_get edges) (same_Some i p at) ∙ there)
picked_here edges (i ∷ is) within (suc k) p e at there =
    let first = element_at edges i (All-head (λ i. i < length edges) i is within) in
    ap (λ o. slice_get (cons_option o (picked edges is)) (suc k)) first.1 ∙ picked_here edges is (All-tail (λ i. i < length edges) i is within) k p e at there

-- the edges at two places of a cycle are of two threads
threads_apart : (before : Segment → Segment → Bool) (mode : Mode) (e f : Edge) → goes_with before mode e f ≡ true → e.thread ≢ f.thread
unfolding goes_with
threads_apart before mode e f goes same =
    let parts = and_parts (not (eqb e.held f.held) && not (eqb e.thread f.thread)) _ goes in
    let apart = (and_parts (not (eqb e.held f.held)) _ parts.0).1 in
    false≢true (sym (ap not (eq-eqb e.thread f.thread same)) ∙ apart)

module _ (before : Segment → Segment → Bool) (mode : Mode) (len : ℕ) (table : List (Edge × Sample)) (kept : List Bool) (runners : List Runner) (keeps : KeepsCycles before mode len (edges_of_table table) kept) (run : AreRunners (edges_of_table table) (classes_of table) kept runners) where
  -- the edge at a place of a cycle that has a class which one thread alone runs is of this thread
  of_thread : (positions : List ℕ) → IsCycleAt before mode len (edges_of_table table) positions → (place p class thread : ℕ) → slice_get positions place ≡ Some p → slice_get (classes_of table) p ≡ Some class → slice_get runners class ≡ Some (One thread)
      → (e : Edge) × (slice_get (picked (edges_of_table table) positions) place ≡ Some e) × (e.thread ≡ thread)
  of_thread positions is place p class thread at of_class by =
      let below = slice_get_within positions place p at in
      let here = get_or_from_slice_get positions place p 0 at in
      let within : p < length (edges_of_table table) = subst (λ (q : ℕ). q < length (edges_of_table table)) here (is.within place 0 below) in
      let edge = element_at (edges_of_table table) p within in
      let keep = subst (λ (q : ℕ). slice_get kept q ≡ Some true) here (cycle_is_kept before mode len table kept [] keeps positions is place 0 below) in
      (edge.0, picked_here (edges_of_table table) positions is.within place p edge.0 at edge.1, subst (IsRunBy edge.0.thread) by (run.each p class edge.0 keep of_class edge.1))

  -- no cycle has a signature that begins so
  none_twice : (front rest : List ℕ) → IsRunTwice runners front → first_with before mode len table (front ++ rest) ≡ []
  none_twice front rest twice =
      ap (take 1) (filter-nothing _ (all_cycles before mode len (edges_of_table table))
      (λ positions at. false_from_ne_true _ (no_turn positions (there_is_cycle before mode len (edges_of_table table) positions at))))
    where
      no_turn : (positions : List ℕ) → IsCycleAt before mode len (edges_of_table table) positions → is_turn (front ++ rest) (signature_of table positions) ≡ true → ⊥
      no_turn positions is turn =
          let told_by = slice_get (classes_of table) in
          let whole = front ++ rest in
          let (j, k, j_in, k_is, passes) = Any-from_list_any (λ k. pointwise nat_eq (turned k whole) (signature_of table positions)) (range_with_len 0 (length whole)) turn in
          let within : All (λ i. i < length (classes_of table)) positions = λ m d below. omega (arith, is.within m d below, length-map table (λ pair. pair.0), length-map table (class_of table)) in
          let told : map told_by positions ≡ map Some (drop k whole) ++ map Some (take k whole) =
          classes_told (classes_of table) positions within ∙ ap (map Some) (sym (same_text (turned k whole) (signature_of table positions) (sym passes))) ∙ map-append Some (drop k whole) (take k whole) in
          let halves = split told_by positions (map Some (drop k whole)) (map Some (take k whole)) told in
          let as_told = turned_back told_by halves.front halves.back whole k halves.of_front halves.of_back in
          let one = mapped_at told_by (halves.back ++ halves.front) whole as_told twice.early twice.one (slice_get_before front rest twice.early (slice_get_within front twice.early twice.one twice.one_at) ∙ twice.one_at) in
          let other = mapped_at told_by (halves.back ++ halves.front) whole as_told twice.late twice.other (slice_get_before front rest twice.late (slice_get_within front twice.late twice.other twice.other_at) ∙ twice.other_at) in
          let a = home halves.front halves.back twice.early one.0 one.1 in
          let b = home halves.front halves.back twice.late other.0 other.1 in
          let e = of_thread positions is a.place one.0 twice.one twice.both.thread (ap (λ l. slice_get l a.place) (sym halves.whole) ∙ a.stands) one.2 twice.both.of_one in
          let f = of_thread positions is b.place other.0 twice.other twice.both.thread (ap (λ l. slice_get l b.place) (sym halves.whole) ∙ b.stands) other.2 twice.both.of_other in
          threads_apart before mode e.0 f.0 (pair_goes before mode len (picked (edges_of_table table) positions) is.cycle a.place b.place e.0 f.0 (homes_differ halves.front halves.back twice.early twice.late one.0 other.0 twice.lower a b) e.1 f.1)
          (e.2 ∙ sym f.2)

  -- so no finding begins so
  pub none_by_one : (n : ℕ) (front : List ℕ) → IsRunTwice runners front → block before mode len table n front ≡ []
  none_by_one n front twice = block-without before mode len table n front (λ rest. none_twice front rest twice)
