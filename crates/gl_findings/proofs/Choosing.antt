-- The first cycle of a signature: of the first walks for its turns the least.
use Rattle.std.proofs.Common.{◌≡◌, ℕ, ◌+◌, ◌<◌, ◌≤◌, ◌⊎◌, Bool, true, false, cond, List, [], ◌∷◌, length, map, filter, take, drop, get_or, Option, Some, None, refl, sym, ap, subst, ◌∙◌, arith, inl, inr}
use Rattle.std.specs.Prelude.{slice_get, All, Contains, MatchOption, nat_eq}
use Rattle.std.specs.Option.{option_map}
use Rattle.std.specs.List.{AllByRecursion, cons_option, filter_map, range_with_len}
use Rattle.std.specs.List.Sorted.{IsStrictlySortedBy}
use Rattle.std.specs.Cmp.{IsTotalOrder}
use Rattle.std.specs.Cmp.Lexicographic.{pointwise, slice_cmp, same_text, bytes_decides, nat_list_cmp_total}
use Rattle.std.specs.Ordering.{nat_cmp, is_le, ordering_reverse}
use Rattle.std.specs.declared.cmp.Ordering.{Ordering}
use Rattle.std.specs.declared.cmp.Ordering.TheVariants.{Less}
use Rattle.std.proofs.lemmas.Bool.{cases_lt, false≢true}
use Rattle.std.proofs.lemmas.List.{length-map, length-append, length-take, length-drop}
use Rattle.std.proofs.lemmas.List.Elements.{All-nil, All-cons, All-head, All-tail, All-contains_itself}
use Rattle.std.proofs.lemmas.List.Folds.{Any-from_list_any, list_any-from_Any}
use Rattle.std.proofs.lemmas.Option.{slice_get_within}
use Rattle.gl_event.specs.declared.events.Segment.{Segment}
use Rattle.gl_edges.specs.declared.edge.Edge.{Edge}
use Rattle.gl_edges.specs.declared.edge.Sample.{Sample}
use Rattle.gl_edges.proofs.Membership.{contains_here, contains_later, contains_cases, contains_none, contains_range, contains_range_from}
use Rattle.gl_filters.specs.declared.query.Mode.{Mode}
use Rattle.gl_filters.specs.Picked.{edges_of_table, picked}
use Rattle.gl_filters.proofs.Cycling.{cycle_from_test, test_from_cycle}
use Rattle.gl_cycles.specs.AllCycles.{all_cycles}
use Rattle.gl_sought.specs.OffCycles.{KeepsCycles}
use Rattle.gl_cycles.specs.Laws.{IsCycleAt}
use Rattle.gl_cycles.proofs.CyclesAscend.{cycles_ascend}
use Rattle.gl_index.proofs.Lists.{element_at}
use Rattle.gl_cycles.proofs.EdgesOfPaths.{length-picked, picked-cons}
use Rattle.gl_cycles.proofs.CyclesAreLevel.{picked_among}
use Rattle.gl_cycles.proofs.AmongAllCycles.{cycle_is_there, there_is_cycle}
use Rattle.gl_walks.specs.declared.purpose.Purpose.{Purpose}
use Rattle.gl_walks.specs.declared.purpose.Purpose.TheVariants.{Cycle}
use Rattle.gl_walks.specs.Walks.{IsWalk, NoWalk, IsFirstWalk}
use Rattle.gl_grounds.specs.Classes.{classes_of}
use Rattle.gl_findings.specs.Findings.{first_with, is_turn, signature_of, turned}
use Rattle.gl_findings.specs.bodies.Lesser.{lesser}
use Rattle.gl_findings.proofs.Compared.{le_trans, le_other}

each_by_recursion : {X : Type 0} (P : X → Type 0) (xs : List X) (y : X) → AllByRecursion P xs → Contains xs y → P y
each_by_recursion P [] y all at = absurd (contains_none y at)
each_by_recursion P (x ∷ xs) y all at = elim (contains_cases x y xs at) [ inl is ↦ subst P is all.0 | inr later ↦ each_by_recursion P xs y all.1 later ]

module _ {X : Type 0} (c : X → X → Ordering) (total : IsTotalOrder c) (p : X → Bool) where
  not_before : (x y : X) → c x y ≡ Less → is_le (c y x) ≡ true → ⊥
  not_before x y less le = false≢true (ap is_le (sym (total.antisymm y x ∙ ap ordering_reverse less)) ∙ le)

  -- in a list that ascends the first one that passes is the least
  first_of : (q : X) (xs : List X) → IsStrictlySortedBy c xs → Contains xs q → p q ≡ true → ((y : X) → Contains xs y → p y ≡ true → is_le (c q y) ≡ true) → take 1 (filter p xs) ≡ q ∷ []
  unfolding IsStrictlySortedBy
  first_of q [] sorted at passes least = absurd (contains_none q at)
  first_of q (x ∷ xs) sorted at passes least =
      by (p x) refl (contains_cases x q xs at) (λ later. first_of q xs sorted.1 later passes (λ y there. least y (contains_later x y xs there))) (λ later. each_by_recursion (λ y. c x y ≡ Less) xs q sorted.0 later)
    where
      by : (b : Bool) → p x ≡ b → (x ≡ q) ⊎ Contains xs q → (Contains xs q → take 1 (filter p xs) ≡ q ∷ []) → (Contains xs q → c x q ≡ Less) → take 1 (cond b (x ∷ filter p xs) (filter p xs)) ≡ q ∷ []
      by true is (inl same) rest above = ap (λ y. y ∷ []) same
      by true is (inr later) rest above = absurd (not_before x q (above later) (least x (contains_here x xs) is))
      by false is (inl same) rest above = absurd (false≢true (sym is ∙ ap p same ∙ passes))
      by false is (inr later) rest above = rest later

  none_of : (xs : List X) → ((y : X) → Contains xs y → p y ≡ true → ⊥) → take 1 (filter p xs) ≡ []
  none_of [] none = refl
  none_of (x ∷ xs) none = by (p x) refl (none_of xs (λ y there. none y (contains_later x y xs there)))
    where
      by : (b : Bool) → p x ≡ b → take 1 (filter p xs) ≡ [] → take 1 (cond b (x ∷ filter p xs) (filter p xs)) ≡ []
      by true is rest = absurd (none x (contains_here x xs) is)
      by false is rest = rest

-- the edge at one of the positions is picked
picked_has : (edges : List Edge) (positions : List ℕ) (i : ℕ) (e : Edge) → All (λ i. i < length edges) positions → Contains positions i → slice_get edges i ≡ Some e → Contains (picked edges positions) e
picked_has edges [] i e within at there = absurd (contains_none i at)
picked_has edges (j ∷ positions) i e within at there =
    let here = element_at edges j (All-head (λ i. i < length edges) j positions within) in
    elim (contains_cases j i positions at) [
      | inl is ↦ subst (λ es. Contains es e) (sym (picked-cons edges j positions e (ap (slice_get edges) is ∙ there))) (contains_here e (picked edges positions))
      | inr later ↦
          subst (λ es. Contains es e) (sym (picked-cons edges j positions here.0 here.1))
          (contains_later here.0 e (picked edges positions) (picked_has edges positions i e (All-tail (λ i. i < length edges) j positions within) later there))
    ]

-- the classes at positions that are there
classes_at : (classes positions : List ℕ) → All (λ i. i < length classes) positions → map (slice_get classes) positions ≡ map Some (filter_map (slice_get classes) positions)
classes_at classes [] within = refl
classes_at classes (i ∷ positions) within =
    let here = element_at classes i (All-head (λ i. i < length classes) i positions within) in
    (λ j. here.1 j ∷ classes_at classes positions (All-tail (λ i. i < length classes) i positions within) j)
    ∙ ap (λ o. map Some (cons_option o (filter_map (slice_get classes) positions))) (sym here.1)

abbrev head : List (Option ℕ) → Option ℕ
head [] = None
head (x ∷ xs) = x

abbrev tail : List (Option ℕ) → List (Option ℕ)
tail [] = []
tail (x ∷ xs) = xs

-- and what they tell of the positions
record AreClasses (classes positions pattern : List ℕ) : Type 0 where
  within : All (λ i. i < length classes) positions
  picks : filter_map (slice_get classes) positions ≡ pattern

classes_from : (classes positions pattern : List ℕ) → map (slice_get classes) positions ≡ map Some pattern → AreClasses classes positions pattern
classes_from classes [] [] same = record { within = All-nil (λ i. i < length classes); picks = refl }
classes_from classes [] (c ∷ pattern) same = absurd (omega (arith, ap length same))
classes_from classes (i ∷ positions) [] same = absurd (omega (arith, ap length same))
classes_from classes (i ∷ positions) (c ∷ pattern) same =
    let rest = classes_from classes positions pattern (ap tail same) in
    record {
      within = All-cons (λ i. i < length classes) i positions (slice_get_within classes i c (ap head same)) rest.within;
      picks = ap (λ o. cons_option o (filter_map (slice_get classes) positions)) (ap head same) ∙ ap (λ l. c ∷ l) rest.picks;
    }

-- there are as many classes as edges
same_long : (table : List (Edge × Sample)) → length (classes_of table) ≡ length (edges_of_table table)
same_long table = length-map table _ ∙ sym (length-map table (λ pair. pair.0))

turned_long : (signature : List ℕ) (k : ℕ) → k ≤ length signature → length (turned k signature) ≡ length signature
turned_long signature k within = omega (arith, length-append (drop k signature) (take k signature), length-drop k signature, length-take k signature)

module _ (before : Segment → Segment → Bool) (mode : Mode) (len : ℕ) (table : List (Edge × Sample)) (signature positions : List ℕ) where
  -- a cycle of the signature: from where it is told, and its classes
  record IsOfSignature : Type 0 where
    is : IsCycleAt before mode len (edges_of_table table) positions
    place : ℕ
    below : place < length signature
    classes : map (slice_get (classes_of table)) positions ≡ map Some (turned place signature)

  of_signature : Contains (all_cycles before mode len (edges_of_table table)) positions → is_turn signature (signature_of table positions) ≡ true → IsOfSignature
  of_signature at turn =
      let cycle = there_is_cycle before mode len (edges_of_table table) positions at in
      let (j, k, within, got, same) = Any-from_list_any (λ k. pointwise nat_eq (turned k signature) (signature_of table positions)) (range_with_len 0 (length signature)) turn in
      let ranged = contains_range_from 0 (length signature) k (j, within, got) in
      let inside : All (λ i. i < length (classes_of table)) positions = λ m d under. omega (arith, cycle.within m d under, same_long table) in
      record {
        is = cycle;
        place = k;
        below = omega (arith, ranged.1);
        classes = classes_at (classes_of table) positions inside ∙ ap (map Some) (sym (same_text (turned k signature) (signature_of table positions) (sym same)));
      }

-- a signature of one class has no cycle
pub none_of_one : (before : Segment → Segment → Bool) (mode : Mode) (len : ℕ) (table : List (Edge × Sample)) (signature : List ℕ) → length signature < 2 → first_with before mode len table signature ≡ []
none_of_one before mode len table signature short =
    none_of (slice_cmp nat_cmp) nat_list_cmp_total (λ positions. is_turn signature (signature_of table positions)) (all_cycles before mode len (edges_of_table table))
    (λ y there turn.
    let of = of_signature before mode len table signature y there turn in
    let long : length y ≡ length signature = sym (length-map y (slice_get (classes_of table))) ∙ ap length of.classes ∙ length-map (turned of.place signature) Some ∙ turned_long signature of.place (omega (arith, of.below)) in
    absurd (omega (arith, of.is.cycle.two_or_more, length-picked (edges_of_table table) y of.is.within, long, short)))

module _ (before : Segment → Segment → Bool) (mode : Mode) (table : List (Edge × Sample)) (flags : List Bool) (signature : List ℕ) where
  module _ (purpose : Purpose) (classes : List ℕ) where
    -- a walk for the signature told from its place k on
    abbrev pub IsTurnWalk : ℕ → List ℕ → Type 0
    IsTurnWalk k positions = IsWalk purpose before mode (edges_of_table table) classes flags (turned k signature) positions

    -- no turn so far has a walk
    abbrev pub NoneSoFar : ℕ → Type 0
    NoneSoFar k = (j : ℕ) (others : List ℕ) → j < k → ¬ IsTurnWalk j others

    -- the least walk for a turn so far
    pub record IsLeast (k : ℕ) (positions : List ℕ) : Type 0 where
      pub place : ℕ
      pub lower : place < k
      pub walk : IsTurnWalk place positions
      pub least : (j : ℕ) (others : List ℕ) → j < k → IsTurnWalk j others → is_le (slice_cmp nat_cmp positions others) ≡ true

    -- what was found for the turns so far
    abbrev pub IsBest : ℕ → Option (List ℕ) → Type 0
    IsBest k None = NoneSoFar k
    IsBest k (Some positions) = IsLeast k positions

    -- what a walker answers for a pattern
    abbrev pub IsAnswer : List ℕ → Option (List ℕ) → Type 0
    IsAnswer pattern None = NoWalk purpose before mode (edges_of_table table) classes flags pattern
    IsAnswer pattern (Some positions) = IsFirstWalk purpose before mode (edges_of_table table) classes flags pattern positions

    pub answer : {V : Type 0} (items : V → List ℕ) (pattern : List ℕ) (found : Option V)
        → MatchOption found (NoWalk purpose before mode (edges_of_table table) classes flags pattern) (λ walk. IsFirstWalk purpose before mode (edges_of_table table) classes flags pattern (items walk))
        → IsAnswer pattern (option_map items found)
    answer items pattern None is = is
    answer items pattern (Some walk) is = is

    pub best_begin : IsBest 0 None
    best_begin = λ j others below. absurd (omega (arith, below))

    -- the walk is one for the turn k, or for one before
    which : (k j : ℕ) → j < k + 1 → (j < k) ⊎ (j ≡ k)
    which k j below = elim (cases_lt j k) [ inl lower ↦ inl lower | inr not_lower ↦ inr (omega arith) ]

    pub best_more : (k : ℕ) (best found : Option (List ℕ)) → IsBest k best → IsAnswer (turned k signature) found → IsBest (k + 1) (lesser best found)
    best_more k None None none none_here = λ j others below walk.
        elim (which k j below) [ inl lower ↦ none j others lower walk | inr is ↦ none_here others (subst (λ j. IsTurnWalk j others) is walk) ]
    best_more k None (Some w) none first =
        record {
          place = k;
          lower = omega arith;
          walk = first.walk;
          least = λ j others below walk. elim (which k j below) [ inl lower ↦ absurd (none j others lower walk) | inr is ↦ first.least others (subst (λ j. IsTurnWalk j others) is walk) ];
        }
    best_more k (Some a) None had none_here =
        let lower = had.lower in
        record {
          place = had.place;
          lower = omega arith;
          walk = had.walk;
          least = λ j others below walk. elim (which k j below) [ inl lower ↦ had.least j others lower walk | inr is ↦ absurd (none_here others (subst (λ j. IsTurnWalk j others) is walk)) ];
        }
    best_more k (Some a) (Some w) had first = by (is_le (slice_cmp nat_cmp a w)) refl
      where
        by : (b : Bool) → is_le (slice_cmp nat_cmp a w) ≡ b → IsBest (k + 1) (cond b (Some a) (Some w))
        by true le =
            let lower = had.lower in
            record {
              place = had.place;
              lower = omega arith;
              walk = had.walk;
              least = λ j others below walk. elim (which k j below) [ inl lower ↦ had.least j others lower walk | inr is ↦ le_trans a w others le (first.least others (subst (λ j. IsTurnWalk j others) is walk)) ];
            }
        by false above =
            record {
              place = k;
              lower = omega arith;
              walk = first.walk;
              least = λ j others below walk. elim (which k j below) [ inl lower ↦ le_trans w a others (le_other a w above) (had.least j others lower walk) | inr is ↦ first.least others (subst (λ j. IsTurnWalk j others) is walk) ];
            }

  module _ (len : ℕ) (keeps : KeepsCycles before mode len (edges_of_table table) flags) (short : length signature ≤ len) where
    abbrev passes : List ℕ → Bool
    passes positions = is_turn signature (signature_of table positions)

    abbrev IsCycleWalk : ℕ → List ℕ → Type 0
    IsCycleWalk k positions = IsTurnWalk Cycle (classes_of table) k positions

    abbrev edges : List Edge
    edges = edges_of_table table

    -- each edge of a cycle is kept
    all_flagged : (positions : List ℕ) → IsCycleAt before mode len edges positions → All (λ i. slice_get flags i ≡ Some true) positions
    all_flagged positions is = λ k d below.
        let i = get_or positions k d in
        let there = All-contains_itself positions k d below in
        let here = element_at edges i (is.within k d below) in
        let flag = element_at flags i (omega (arith, is.within k d below, keeps.long)) in
        by i here.0 here.1 there flag.0 flag.1
      where
        by : (i : ℕ) (e : Edge) → slice_get edges i ≡ Some e → Contains positions i → (b : Bool) → slice_get flags i ≡ Some b → slice_get flags i ≡ Some true
        by i e at there true flag = flag
        by i e at there false flag = absurd (keeps.left_out i e at flag (picked edges positions) (picked_among edges positions) is.cycle (picked_has edges positions i e is.within there at))

    -- a cycle of the signature is a walk for one of its turns
    walk_from : (positions : List ℕ) → Contains (all_cycles before mode len edges) positions → passes positions ≡ true → (k : ℕ) × (k < length signature) × IsCycleWalk k positions
    walk_from positions at turn =
        let of = of_signature before mode len table signature positions at turn in
        (of.place, of.below, record { flagged = all_flagged positions of.is; of_classes = of.classes; fitting = test_from_cycle before mode len (picked edges positions) of.is.cycle })

    -- and each such walk is one
    record IsFound (positions : List ℕ) : Type 0 where
      among : Contains (all_cycles before mode len edges) positions
      turn : passes positions ≡ true

    found_from : (k : ℕ) (positions : List ℕ) → k < length signature → IsCycleWalk k positions → IsFound positions
    found_from k positions below walk =
        let are = classes_from (classes_of table) positions (turned k signature) walk.of_classes in
        let inside : All (λ i. i < length edges) positions = λ m d under. omega (arith, are.within m d under, same_long table) in
        let long : length positions ≡ length signature = sym (length-map positions (slice_get (classes_of table))) ∙ ap length walk.of_classes ∙ length-map (turned k signature) Some ∙ turned_long signature k (omega arith) in
        let (j, within, is) = contains_range 0 (length signature) k (omega arith) (omega arith) in
        record {
          among = cycle_is_there before mode len edges positions (record { within = inside; cycle = cycle_from_test before mode len (picked edges positions) (omega (arith, length-picked edges positions inside, long)) walk.fitting });
          turn = list_any-from_Any (λ k. pointwise nat_eq (turned k signature) (signature_of table positions)) (range_with_len 0 (length signature))
              (j, k, within, is, (bytes_decides (turned k signature) (signature_of table positions)).1 (sym are.picks));
        }

    -- what was found for all turns is the first cycle
    abbrev IsFirst : Option (List ℕ) → Type 0
    IsFirst None = first_with before mode len table signature ≡ []
    IsFirst (Some positions) = first_with before mode len table signature ≡ positions ∷ []

    is_first : (best : Option (List ℕ)) → IsBest Cycle (classes_of table) (length signature) best → IsFirst best
    is_first None none = none_of (slice_cmp nat_cmp) nat_list_cmp_total passes (all_cycles before mode len edges) (λ y there turn. let (k, below, walk) = walk_from y there turn in none k y below walk)
    is_first (Some positions) least =
        let found = found_from least.place positions least.lower least.walk in
        first_of (slice_cmp nat_cmp) nat_list_cmp_total passes positions (all_cycles before mode len edges) (cycles_ascend before mode len edges) found.among found.turn
        (λ y there turn. let (k, below, walk) = walk_from y there turn in least.least k y below walk)

    pub best_is_first : {V : Type 0} (items : V → List ℕ) (purpose : Purpose) (classes : List ℕ) (best : Option V) → purpose ≡ Cycle → classes ≡ classes_of table
        → IsBest purpose classes (length signature) (option_map items best)
        → MatchOption best (first_with before mode len table signature ≡ []) (λ cycle. first_with before mode len table signature ≡ items cycle ∷ [])
    best_is_first items purpose classes None is_cycle are best = is_first None (rw (is_cycle, are) at best)
    best_is_first items purpose classes (Some v) is_cycle are best = is_first (Some (items v)) (rw (is_cycle, are) at best)
