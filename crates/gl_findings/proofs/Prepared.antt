-- What a search that can begin knows of the classes that it passes over.
use Rattle.std.proofs.Common.{◌≡◌, ℕ, suc, ◌+◌, ◌-◌, ◌<◌, ◌≤◌, Bool, true, false, cond, List, [], ◌∷◌, ◌++◌, length, take, get_or, Option, Some, None, refl, sym, ap, subst, ◌∙◌, arith, inl, inr}
use Rattle.std.specs.Prelude.{slice_get, is_some, MatchOption}
use Rattle.std.proofs.lemmas.Bool.{cases_lt, false≢true}
use Rattle.std.proofs.lemmas.List.{append-nil, append_assoc, length-append, length-map, take_all}
use Rattle.std.proofs.lemmas.Option.{slice_get-get_or}
use Rattle.gl_segments.specs.Clocks.{is_before}
use Rattle.gl_filters.specs.Picked.{edges_of_table}
use Rattle.gl_edges.specs.declared.edge.Edge.{Edge}
use Rattle.gl_edges.specs.declared.edge.Sample.{Sample}
use Rattle.gl_walks.specs.declared.purpose.Purpose.TheVariants.{Front, Round}
use Rattle.gl_walks.specs.Walks.{NoWalk}
use Rattle.gl_grounds.specs.Classes.{class_of, classes_of}
use Rattle.gl_findings.specs.Findings.{begins_least, first_with, is_turn}
use Rattle.gl_findings.specs.bodies.Finding.{IsReady, block_of, below_of, finding_of}
use Rattle.gl_findings.specs.declared.finder.Finder.{Finder}
use Rattle.gl_findings.proofs.Below.{HasGrown, grow_begin, grow_step, grow_alone, grow_whole, block-lower, block-zero}
use Rattle.gl_findings.proofs.ByPassages.{last_one, no_walk_by}
use Rattle.gl_findings.proofs.Choosing.{none_of_one}
use Rattle.gl_findings.proofs.Cutting.{none_goes_round, none_with_turned}
use Rattle.gl_findings.proofs.LeastTurns.{turn_of_last}
use Rattle.gl_findings.proofs.LongFronts.{none_after_full}
use Rattle.gl_findings.specs.bodies.Lengths.{IsFull}
use Rattle.gl_grounds.specs.Passing.{may_pass}
use Rattle.gl_grounds.specs.Running.{IsRunTwice}
use Rattle.gl_findings.proofs.Passed.{none_begins, none_through}
use Rattle.gl_findings.proofs.RunTwice.{none_by_one}

-- what holds where there is nothing
pub where_none : {V : Type 0} (o : Option V) (N : Type 0) (P : V → Type 0) → MatchOption o N P → is_some o ≡ false → N
where_none None N P is none = is
where_none (Some v) N P is none = absurd (false≢true (sym none))

-- each edge has its class
pub as_long : (table : List (Edge × Sample)) → length (classes_of table) ≡ length (edges_of_table table)
as_long table = length-map table (class_of table) ∙ sym (length-map table (λ pair. pair.0))

-- what is nothing is so wherever a signature begins
pub where_least : {X : Type 0} {l : List X} (b : Bool) → l ≡ [] → cond b l [] ≡ []
where_least true none = none
where_least false none = refl

module _ (s : Finder) (ready : IsReady s) where
  -- a front that models show no walk for begins no finding
  pub none_below : (n : ℕ) (front : List ℕ) → NoWalk Front (is_before s.among_models.ground.order.now) s.among_models.ground.mode (edges_of_table s.among_models.ground.table.now) s.among_models.ground.classes.now s.among_models.ground.flags.now front → block_of s n front ≡ []
  none_below n front none =
      let f = ready.over_models in
      none_begins (is_before s.order.now) s.mode s.len s.table.now s.among_kept.ground.flags.now s.among_models.ground.flags.now ready.kept ready.models n front
      (rw (f.same_order, f.same_mode, f.same_table, f.same_classes) at none)

  -- nor does one of which one thread alone runs two classes
  pub none_run_twice : (n : ℕ) (front : List ℕ) → IsRunTwice s.runners.now front → block_of s n front ≡ []
  none_run_twice n front twice = none_by_one (is_before s.order.now) s.mode s.len s.table.now s.among_kept.ground.flags.now s.runners.now ready.kept ready.run n front twice

  -- nor does one that goes on with a class to which its last one doesn't lead on
  pub none_passed : (n : ℕ) (front : List ℕ) (class : ℕ) → 0 < length front → may_pass s.passages.now (get_or front (length front - 1) 0) class ≡ false → block_of s n (front ++ class ∷ []) ≡ []
  none_passed n [] class some not = absurd (omega (arith, some))
  none_passed n (x ∷ l) class some not =
      let at_last : length l ≡ length (x ∷ l) - 1 = omega arith in
      let last = get_or (x ∷ l) (length l) 0 in
      let whole : x ∷ l ++ class ∷ [] ≡ take (length l) (x ∷ l) ++ last ∷ class ∷ [] = ap (λ k. k ++ class ∷ []) (last_one x l) ∙ append_assoc (take (length l) (x ∷ l)) (last ∷ []) (class ∷ []) in
      none_begins (is_before s.order.now) s.mode s.len s.table.now s.among_kept.ground.flags.now s.among_models.ground.flags.now ready.kept ready.models n (x ∷ l ++ class ∷ [])
      (subst (NoWalk Front (is_before s.order.now) s.mode (edges_of_table s.table.now) (classes_of s.table.now) s.among_models.ground.flags.now) (sym whole)
      (no_walk_by (edges_of_table s.table.now) (classes_of s.table.now) s.among_models.ground.flags.now s.passages.now (as_long s.table.now) ready.pass (is_before s.order.now) s.mode
      (take (length l) (x ∷ l)) last class
      ((λ i. may_pass s.passages.now (get_or (x ∷ l) (at_last i) 0) class) ∙ not)))

  -- and no cycle has a signature whose last class doesn't lead back to its first
  pub none_round : (signature : List ℕ) → 2 ≤ length signature → may_pass s.passages.now (get_or signature (length signature - 1) 0) (get_or signature 0 0) ≡ false → finding_of s signature ≡ []
  none_round [] two not = absurd (omega (arith, two))
  none_round (x ∷ []) two not = absurd (omega (arith, two))
  none_round (x ∷ y ∷ l) two not =
      let at_last : suc (length l) ≡ length (x ∷ y ∷ l) - 1 = omega arith in
      let last = get_or (x ∷ y ∷ l) (suc (length l)) 0 in
      let rest = take (length l) (y ∷ l) in
      let none = no_walk_by (edges_of_table s.table.now) (classes_of s.table.now) s.among_models.ground.flags.now s.passages.now (as_long s.table.now) ready.pass (is_before s.order.now) s.mode [] last x ((λ i. may_pass s.passages.now (get_or (x ∷ y ∷ l) (at_last i) 0) x) ∙ not) in
      where_least (begins_least (x ∷ y ∷ l))
      (none_with_turned (is_before s.order.now) s.mode s.len s.table.now s.among_kept.ground.flags.now s.among_models.ground.flags.now ready.kept ready.models (last ∷ x ∷ []) rest none (x ∷ y ∷ l)
      (λ other turn. turn_of_last (x ∷ rest) last other (subst (λ l. is_turn l other ≡ true) (last_one x (y ∷ l)) turn)))

  -- nor one with whose classes no models go round
  pub none_around : (signature : List ℕ) → NoWalk Round (is_before s.among_models.ground.order.now) s.among_models.ground.mode (edges_of_table s.among_models.ground.table.now) s.among_models.ground.classes.now s.among_models.ground.flags.now signature → finding_of s signature ≡ []
  none_around signature none =
      let r = ready.over_models in
      where_least (begins_least signature)
      (none_goes_round (is_before s.order.now) s.mode s.len s.table.now s.among_kept.ground.flags.now s.among_models.ground.flags.now ready.kept ready.models signature
      (rw (r.same_order, r.same_mode, r.same_table, r.same_classes) at none))

  -- nor does anything go on from one that may be no longer
  pub none_open : (signature : List ℕ) → length signature ≡ s.len → finding_of s signature ≡ [] → block_of s (s.len - length signature) signature ≡ []
  none_open signature full none =
      let left : 0 ≡ s.len - length signature = omega (arith, full) in
      subst (λ n. block_of s n signature ≡ []) left (block-zero (is_before s.order.now) s.mode s.len s.table.now signature ∙ none)

  -- and what holds of a signature with one class more
  pub none_longer : (signature longer : List ℕ) (class : ℕ) → longer ≡ signature ++ class ∷ [] → block_of s (s.len - length longer) longer ≡ [] → block_of s (s.len - length signature - 1) (signature ++ class ∷ []) ≡ []
  none_longer signature longer class is none =
      let long = length-append signature (class ∷ []) in
      let left : s.len - length (signature ++ class ∷ []) ≡ s.len - length signature - 1 = omega (arith, long) in
      subst (λ n. block_of s n (signature ++ class ∷ []) ≡ []) left (subst (λ l. block_of s (s.len - length l) l ≡ []) is none)

  -- what has room stays as it is where there is nothing more
  pub nothing_more : (old more : List (List ℕ)) → length old ≤ s.cap → more ≡ [] → old ≡ take s.cap (old ++ more)
  nothing_more old more room none = sym (ap (λ l. take s.cap (old ++ l)) none ∙ ap (take s.cap) (append-nil old) ∙ take_all s.cap old room)

  -- classes that are passed over
  pub skipped : (n : ℕ) (front : List ℕ) (m next i : ℕ) → slice_get s.next.now m ≡ Some next → m ≤ i → i < next → block_of s n (front ++ i ∷ []) ≡ []
  skipped n front m next i at from below =
      none_through (is_before s.order.now) s.mode s.len s.table.now s.among_kept.ground.flags.now s.among_models.ground.flags.now ready.kept ready.models n front i (ready.next.skipped m next i at from below)

  -- what has grown before the next class
  abbrev pub Grown : ℕ → List ℕ → List (List ℕ) → List (List ℕ) → ℕ → Type 0
  Grown n front old now next = HasGrown (is_before s.order.now) s.mode s.len s.table.now n front s.cap old now next

  pub begin : (n : ℕ) (front : List ℕ) (from next : ℕ) (old : List (List ℕ)) → length old ≤ s.cap → next ≤ length s.table.now → ((i : ℕ) → i < from → block_of s n (front ++ i ∷ []) ≡ [])
      → ((i : ℕ) → from ≤ i → i < next → block_of s n (front ++ i ∷ []) ≡ []) → Grown n front old old next
  begin n front from next old room reached none passed =
      grow_begin (is_before s.order.now) s.mode s.len s.table.now n front s.cap old next room reached
      (λ i low below. elim (cases_lt i from) [ inl before ↦ none i before | inr not_before ↦ passed i not_before below ])

  pub step : (n : ℕ) (front : List ℕ) (old now more : List (List ℕ)) (i next : ℕ) → Grown n front old now i → more ≡ take s.cap (now ++ block_of s n (front ++ i ∷ [])) → i + 1 ≤ next → next ≤ length s.table.now
      → ((j : ℕ) → i + 1 ≤ j → j < next → block_of s n (front ++ j ∷ []) ≡ []) → Grown n front old more next
  step n front old now more i next had grown along reached passed =
      grow_step (is_before s.order.now) s.mode s.len s.table.now n front s.cap old now more i next had grown along reached passed

  -- a signature that goes on with a class below its first one is told from there
  pub lower : (n : ℕ) (signature : List ℕ) (i : ℕ) → 0 < length signature → i < get_or signature 0 0 → block_of s n (signature ++ i ∷ []) ≡ []
  lower n [] i some below = absurd (omega (arith, some))
  lower n (first ∷ front) i some below = block-lower (is_before s.order.now) s.mode s.len s.table.now n first i front below

  pub alone : (signature : List ℕ) (old now : List (List ℕ)) → length old < s.cap → length signature ≡ s.len → now ≡ old ++ finding_of s signature → now ≡ take s.cap (old ++ block_of s (s.len - length signature) signature)
  alone signature old now room long is =
      let none : 0 ≡ s.len - length signature = omega arith in
      subst (λ n. now ≡ take s.cap (old ++ block_of s n signature)) none (grow_alone (is_before s.order.now) s.mode s.len s.table.now signature s.cap old now room is)

  pub whole : (signature : List ℕ) (old own now : List (List ℕ)) → length signature < s.len → own ≡ old ++ finding_of s signature → now ≡ take s.cap (own ++ below_of s (s.len - length signature - 1) signature (length s.table.now))
      → now ≡ take s.cap (old ++ block_of s (s.len - length signature) signature)
  whole signature old own now short is grown =
      let left : suc (s.len - length signature - 1) ≡ s.len - length signature = omega arith in
      subst (λ n. now ≡ take s.cap (old ++ block_of s n signature)) left (grow_whole (is_before s.order.now) s.mode s.len s.table.now (s.len - length signature - 1) signature s.cap old own now is grown)

  -- nothing goes on from a signature that has as many classes as its cycles have edges at most
  pub full : (signature : List ℕ) (old own : List (List ℕ)) → length signature < s.len → length own ≤ s.cap → IsFull s.longest.now signature → own ≡ old ++ finding_of s signature
      → own ≡ take s.cap (old ++ block_of s (s.len - length signature) signature)
  full signature old own short room is shown =
      let n = s.len - length signature - 1 in
      let none = λ (i : ℕ) (below : i < length s.table.now). none_after_full (is_before s.order.now) s.mode s.len s.table.now s.longest.now ready.longest n signature i is in
      whole signature old own own short shown (begin n signature (length s.table.now) (length s.table.now) own room (omega arith) none (λ i low below. absurd (omega (arith, low, below)))).grown

  -- the next class stands behind
  pub later : (i : ℕ) → i < length s.table.now → (get_or s.next.now (i + 1) 0 ≤ length s.table.now) × (i < get_or s.next.now (i + 1) 0)
  later i below =
      let long = ready.next.long in
      let along = ready.next.from (i + 1) (get_or s.next.now (i + 1) 0) (slice_get-get_or s.next.now (i + 1) 0 (omega arith)) in
      (along.1, omega (arith, along.0))

  pub next_at : (i : ℕ) → i ≤ length s.table.now → slice_get s.next.now i ≡ Some (get_or s.next.now i 0)
  next_at i below = let long = ready.next.long in slice_get-get_or s.next.now i 0 (omega arith)

-- a signature of one class adds nothing
pub too_short : (s : Finder) (signature : List ℕ) (old : List (List ℕ)) → length signature < 2 → old ≡ old ++ finding_of s signature
too_short s signature old short = sym (ap (λ l. old ++ l) (by (begins_least signature) (none_of_one (is_before s.order.now) s.mode s.len s.table.now signature short)) ∙ append-nil old)
  where
    by : (b : Bool) → first_with (is_before s.order.now) s.mode s.len s.table.now signature ≡ [] → cond b (first_with (is_before s.order.now) s.mode s.len s.table.now signature) [] ≡ []
    by true none = none
    by false none = refl
