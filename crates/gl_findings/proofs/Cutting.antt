-- A front that no walk has begins no finding.
use Rattle.std.proofs.Common.{◌≡◌, ℕ, zero, suc, ◌<◌, Bool, true, false, List, [], ◌∷◌, ◌++◌, length, map, filter, take, drop, get_or, Option, Some, None, refl, sym, ap, subst, ◌∙◌, arith}
use Rattle.std.specs.Prelude.{slice_get, All, Contains, nat_eq}
use Rattle.std.specs.List.{cons_option, filter_map, range_with_len}
use Rattle.std.specs.Cmp.Lexicographic.{pointwise, same_text}
use Rattle.std.proofs.lemmas.Bool.{and_from, false_from_ne_true}
use Rattle.std.proofs.lemmas.List.{length-map, map-append, take-append-drop}
use Rattle.std.proofs.lemmas.List.Elements.{All-append, All-cons, All-head, All-tail}
use Rattle.std.proofs.lemmas.List.Folds.{Any-from_list_any}
use Rattle.gl_event.specs.declared.events.Segment.{Segment}
use Rattle.gl_edges.specs.declared.edge.Edge.{Edge}
use Rattle.gl_edges.specs.declared.edge.Sample.{Sample}
use Rattle.gl_edges.proofs.Membership.{contains_here, contains_later}
use Rattle.gl_filters.specs.declared.query.Mode.{Mode}
use Rattle.gl_filters.specs.Cycle.{IsCycle}
use Rattle.gl_filters.specs.Picked.{edges_of_table, picked}
use Rattle.gl_filters.specs.Test.{leads_back}
use Rattle.gl_cycles.specs.AllCycles.{all_cycles}
use Rattle.gl_cycles.specs.Laws.{IsCycleAt}
use Rattle.gl_sought.specs.OffCycles.{KeepsCycles}
use Rattle.gl_cycles.proofs.BelowFronts.{picked-append}
use Rattle.gl_index.proofs.Lists.{element_at}
use Rattle.gl_cycles.proofs.CyclesAreLevel.{picked_among}
use Rattle.gl_cycles.proofs.AmongAllCycles.{there_is_cycle}
use Rattle.gl_walks.specs.declared.purpose.Purpose.TheVariants.{Front, Round, Turned}
use Rattle.gl_walks.specs.Walks.{is_front, is_chain, IsWalk, NoWalk}
use Rattle.gl_grounds.specs.Classes.{class_of, classes_of}
use Rattle.gl_findings.specs.Findings.{signature_of, turned, is_turn, first_with}
use Rattle.gl_grounds.specs.Models.{AreModels}
use Rattle.gl_findings.proofs.Modelled.{AllAlike, alike_front, alike_round, models_of}
use Rattle.gl_findings.proofs.Turning.{turned_front, turned_chain, turned_round, front_of_front}

-- nothing is left where nothing passes
pub filter-nothing : {X : Type 0} (p : X → Bool) (xs : List X) → ((x : X) → Contains xs x → p x ≡ false) → filter p xs ≡ []
filter-nothing p [] none = refl
filter-nothing p (x ∷ xs) none = rw (none x (contains_here x xs)) (filter-nothing p xs (λ y at. none y (contains_later x y xs at)))

-- what holds of each of a list holds of each of its parts
pub All-left : {X : Type 0} (P : X → Type 0) (xs ys : List X) → All P (xs ++ ys) → All P xs
All-left P [] ys all = λ k d below. absurd (omega arith)
All-left P (x ∷ xs) ys all = All-cons P x xs (All-head P x (xs ++ ys) all) (All-left P xs ys (All-tail P x (xs ++ ys) all))

pub All-right : {X : Type 0} (P : X → Type 0) (xs ys : List X) → All P (xs ++ ys) → All P ys
All-right P [] ys all = all
All-right P (x ∷ xs) ys all = All-right P xs ys (All-tail P x (xs ++ ys) all)

-- positions within a list have what stands there
pub classes_told : (classes positions : List ℕ) → All (λ i. i < length classes) positions → map (slice_get classes) positions ≡ map Some (filter_map (slice_get classes) positions)
classes_told classes [] within = refl
classes_told classes (i ∷ is) within =
    let here = element_at classes i (All-head (λ i. i < length classes) i is within) in
    let rest = classes_told classes is (All-tail (λ i. i < length classes) i is within) in
    (λ j. here.1 j ∷ rest j) ∙ sym (ap (λ o. map Some (cons_option o (filter_map (slice_get classes) is))) here.1)

-- two lists that map to the parts of a list
pub record IsSplit {X Y : Type 0} (f : X → Y) (xs : List X) (us vs : List Y) : Type 0 where
  pub front : List X
  pub back : List X
  pub whole : front ++ back ≡ xs
  pub of_front : map f front ≡ us
  pub of_back : map f back ≡ vs

pub split : {X Y : Type 0} (f : X → Y) (xs : List X) (us vs : List Y) → map f xs ≡ us ++ vs → IsSplit f xs us vs
split f xs [] vs is = record { front = []; back = xs; whole = refl; of_front = refl; of_back = is }
split f [] (u ∷ us) vs is = absurd (cc)
split f (x ∷ xs) (u ∷ us) vs is =
    let head : f x ≡ u = ap (λ l. get_or l 0 u) is in
    let rest = split f xs us vs (ap (drop 1) is) in
    record {
      front = x ∷ rest.front;
      back = rest.back;
      whole = ap (λ l. x ∷ l) rest.whole;
      of_front = λ j. head j ∷ rest.of_front j;
      of_back = rest.of_back;
    }

-- an edge at one of the positions is among those that are picked
picked_has : (edges : List Edge) (positions : List ℕ) (k d : ℕ) (e : Edge) → k < length positions → slice_get edges (get_or positions k d) ≡ Some e → Contains (picked edges positions) e
picked_has edges [] k d e below at = absurd (omega arith)
picked_has edges (i ∷ is) zero d e below at = subst (λ o. Contains (cons_option o (picked edges is)) e) (sym at) (contains_here e (picked edges is))
picked_has edges (i ∷ is) (suc k) d e below at = behind (slice_get edges i) (picked_has edges is k d e (omega arith) at)
  where
    behind : (o : Option Edge) → Contains (picked edges is) e → Contains (cons_option o (picked edges is)) e
    behind (Some f) there = contains_later f e (picked edges is) there
    behind None there = there

-- models with the classes of a signature, each of which leads on to the next, and the last one to the first
pub record IsModelRound (mode : Mode) (edges : List Edge) (classes : List ℕ) (models : List Bool) (signature : List ℕ) : Type 0 where
  pub places : List ℕ
  pub flagged : All (λ i. slice_get models i ≡ Some true) places
  pub of_classes : map (slice_get classes) places ≡ map Some signature
  pub in_front : is_front mode (picked edges places) ≡ true
  pub round : leads_back (picked edges places) ≡ true

-- and edges that are kept, which they are models of, and go round, too
pub record IsRingWith (before : Segment → Segment → Bool) (mode : Mode) (edges : List Edge) (classes : List ℕ) (kept models : List Bool) (signature : List ℕ) : Type 0 where
  pub model : IsModelRound mode edges classes models signature
  pub positions : List ℕ
  pub ring : IsWalk Turned before mode edges classes kept signature positions
  pub alike : AllAlike (picked edges model.places) (picked edges positions)

-- they begin with a walk among the models with the classes of a front that the signature begins with
walk_begins : (before : Segment → Segment → Bool) (mode : Mode) (edges : List Edge) (classes : List ℕ) (models : List Bool) (front rest : List ℕ) → IsModelRound mode edges classes models (front ++ rest)
    → NoWalk Front before mode edges classes models front → ⊥
walk_begins before mode edges classes models front rest is none =
    let parts = split (slice_get classes) is.places (map Some front) (map Some rest) (is.of_classes ∙ map-append Some front rest) in
    none parts.front (record {
      flagged = All-left (λ i. slice_get models i ≡ Some true) parts.front parts.back (subst (All (λ i. slice_get models i ≡ Some true)) (sym parts.whole) is.flagged);
      of_classes = parts.of_front;
      fitting = front_of_front mode (picked edges parts.front) (picked edges parts.back) (ap (is_front mode) (sym (picked-append edges parts.front parts.back) ∙ ap (picked edges) parts.whole) ∙ is.in_front);
    })

-- where positions have the classes of a turned signature, they have those of the signature itself when turned back
pub turned_back : (f : ℕ → Option ℕ) (front back signature : List ℕ) (k : ℕ) → map f front ≡ map Some (drop k signature) → map f back ≡ map Some (take k signature) → map f (back ++ front) ≡ map Some signature
turned_back f front back signature k of_front of_back =
    map-append f back front ∙ (λ i. of_back i ++ of_front i) ∙ sym (map-append Some (take k signature) (drop k signature)) ∙ ap (map Some) (take-append-drop k signature)

module _ (before : Segment → Segment → Bool) (mode : Mode) (len : ℕ) (table : List (Edge × Sample)) (kept models : List Bool) where
  -- each edge of a cycle is kept
  pub cycle_is_kept : KeepsCycles before mode len (edges_of_table table) kept → (positions : List ℕ) → IsCycleAt before mode len (edges_of_table table) positions → All (λ i. slice_get kept i ≡ Some true) positions
  cycle_is_kept keeps positions is k d below =
      let edge = element_at (edges_of_table table) (get_or positions k d) (is.within k d below) in
      let flag = element_at kept (get_or positions k d) (omega (arith, is.within k d below, keeps.long)) in
      by flag.0 flag.1 edge.0 edge.1
    where
      by : (b : Bool) → slice_get kept (get_or positions k d) ≡ Some b → (e : Edge) → slice_get (edges_of_table table) (get_or positions k d) ≡ Some e → slice_get kept (get_or positions k d) ≡ Some true
      by true at e stands = at
      by false at e stands =
          absurd (keeps.left_out (get_or positions k d) e stands at (picked (edges_of_table table) positions) (picked_among (edges_of_table table) positions) is.cycle (picked_has (edges_of_table table) positions k d e below stands))

  -- a cycle of a signature has its models
  ring_with : KeepsCycles before mode len (edges_of_table table) kept → AreModels (edges_of_table table) (classes_of table) kept models
      → (signature positions : List ℕ) → IsCycleAt before mode len (edges_of_table table) positions → is_turn signature (signature_of table positions) ≡ true → IsRingWith before mode (edges_of_table table) (classes_of table) kept models signature
  ring_with keeps have signature positions is turn =
      let edges = edges_of_table table in
      let told_by = slice_get (classes_of table) in
      let (j, k, j_in, k_is, passes) = Any-from_list_any (λ k. pointwise nat_eq (turned k signature) (signature_of table positions)) (range_with_len 0 (length signature)) turn in
      let within : All (λ i. i < length (classes_of table)) positions = λ m d below. omega (arith, is.within m d below, length-map table (λ pair. pair.0), length-map table (class_of table)) in
      let told : map told_by positions ≡ map Some (drop k signature) ++ map Some (take k signature) =
      classes_told (classes_of table) positions within ∙ ap (map Some) (sym (same_text (turned k signature) (signature_of table positions) (sym passes))) ∙ map-append Some (drop k signature) (take k signature) in
      let halves = split told_by positions (map Some (drop k signature)) (map Some (take k signature)) told in
      let cycle : IsCycle before mode len (picked edges halves.front ++ picked edges halves.back) = subst (IsCycle before mode len) (ap (picked edges) (sym halves.whole) ∙ picked-append edges halves.front halves.back) is.cycle in
      let P = λ (i : ℕ). slice_get kept i ≡ Some true in
      let all : All P (halves.front ++ halves.back) = subst (All P) (sym halves.whole) (cycle_is_kept keeps positions is) in
      let turned_all : All P (halves.back ++ halves.front) = All-append P halves.back halves.front (All-right P halves.front halves.back all) (All-left P halves.front halves.back all) in
      let found = models_of edges (classes_of table) kept models have (halves.back ++ halves.front) turned_all in
      let joined = picked-append edges halves.back halves.front in
      let told_back = turned_back told_by halves.front halves.back signature k halves.of_front halves.of_back in
      let back = ap leads_back joined ∙ turned_round before mode len (picked edges halves.front) (picked edges halves.back) cycle in
      record {
        model = record {
          places = found.places;
          flagged = found.flagged;
          of_classes = found.same_classes ∙ told_back;
          in_front = alike_front mode (picked edges found.places) _ found.alike ∙ ap (is_front mode) joined ∙ turned_front before mode len (picked edges halves.front) (picked edges halves.back) cycle;
          round = alike_round mode (picked edges found.places) _ found.alike ∙ back;
        };
        positions = halves.back ++ halves.front;
        ring = record {
          flagged = turned_all;
          of_classes = told_back;
          fitting = and_from _ _ (ap (is_chain before mode) joined ∙ turned_chain before mode len (picked edges halves.front) (picked edges halves.back) cycle) back;
        };
        alike = found.alike;
      }

  pub model_round : KeepsCycles before mode len (edges_of_table table) kept → AreModels (edges_of_table table) (classes_of table) kept models
      → (signature positions : List ℕ) → IsCycleAt before mode len (edges_of_table table) positions → is_turn signature (signature_of table positions) ≡ true → IsModelRound mode (edges_of_table table) (classes_of table) models signature
  model_round keeps have signature positions is turn = (ring_with keeps have signature positions is turn).model

  -- where there is no such ring, no cycle has the signature
  pub none_goes_ring : KeepsCycles before mode len (edges_of_table table) kept → AreModels (edges_of_table table) (classes_of table) kept models
      → (signature : List ℕ) → ¬ IsRingWith before mode (edges_of_table table) (classes_of table) kept models signature → first_with before mode len table signature ≡ []
  none_goes_ring keeps have signature none =
      ap (take 1) (filter-nothing _ (all_cycles before mode len (edges_of_table table))
      (λ positions at. false_from_ne_true _ (λ turn. none (ring_with keeps have signature positions (there_is_cycle before mode len (edges_of_table table) positions at) turn))))

  -- where no walk among the models has the classes of a front, no cycle has a signature that begins with it
  pub none_turned : KeepsCycles before mode len (edges_of_table table) kept → AreModels (edges_of_table table) (classes_of table) kept models
      → (front rest : List ℕ) → NoWalk Front before mode (edges_of_table table) (classes_of table) models front
      → (positions : List ℕ) → IsCycleAt before mode len (edges_of_table table) positions → is_turn (front ++ rest) (signature_of table positions) ≡ true → ⊥
  none_turned keeps have front rest none positions is turn =
      walk_begins before mode (edges_of_table table) (classes_of table) models front rest (model_round keeps have (front ++ rest) positions is turn) none

  -- where none goes round with the classes of a signature, no cycle has it
  pub none_goes_round : KeepsCycles before mode len (edges_of_table table) kept → AreModels (edges_of_table table) (classes_of table) kept models
      → (signature : List ℕ) → NoWalk Round before mode (edges_of_table table) (classes_of table) models signature → first_with before mode len table signature ≡ []
  none_goes_round keeps have signature none =
      ap (take 1) (filter-nothing _ (all_cycles before mode len (edges_of_table table))
      (λ positions at. false_from_ne_true _ (λ turn.
      let is = model_round keeps have signature positions (there_is_cycle before mode len (edges_of_table table) positions at) turn in
      none is.places (record { flagged = is.flagged; of_classes = is.of_classes; fitting = and_from _ _ is.in_front is.round }))))

  -- and so no signature that is turned to begin so
  pub none_with_turned : KeepsCycles before mode len (edges_of_table table) kept → AreModels (edges_of_table table) (classes_of table) kept models
      → (front rest : List ℕ) → NoWalk Front before mode (edges_of_table table) (classes_of table) models front
      → (signature : List ℕ) → ((other : List ℕ) → is_turn signature other ≡ true → is_turn (front ++ rest) other ≡ true) → first_with before mode len table signature ≡ []
  none_with_turned keeps have front rest none signature turns =
      ap (take 1) (filter-nothing _ (all_cycles before mode len (edges_of_table table))
      (λ positions at. false_from_ne_true _ (λ turn. none_turned keeps have front rest none positions (there_is_cycle before mode len (edges_of_table table) positions at) (turns (signature_of table positions) turn))))

  -- none that begins with it has a cycle
  pub none_with : KeepsCycles before mode len (edges_of_table table) kept → AreModels (edges_of_table table) (classes_of table) kept models
      → (front rest : List ℕ) → NoWalk Front before mode (edges_of_table table) (classes_of table) models front → first_with before mode len table (front ++ rest) ≡ []
  none_with keeps have front rest none = none_with_turned keeps have front rest none (front ++ rest) (λ other turn. turn)
