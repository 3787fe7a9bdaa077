-- None is missed, each is shown by a cycle, and none is told twice.
use Rattle.std.proofs.Common.{◌≡◌, ◌≢◌, ℕ, zero, suc, ◌+◌, ◌<◌, ◌≤◌, ◌⊎◌, Bool, true, false, cond, List, [], ◌∷◌, ◌++◌, length, map, filter, take, drop, get_or, Option, Some, None, refl, sym, ap, subst, ◌∙◌, arith, inl, inr}
use Rattle.std.specs.Prelude.{slice_get, All, AllPairs, Contains}
use Rattle.std.specs.List.{cons_option, flat_map, position_or_len, range_with_len}
use Rattle.std.proofs.lemmas.Bool.{cases_lt, false≢true, eq-eqb, and_from}
use Rattle.std.proofs.lemmas.Option.{same_Some}
use Rattle.std.proofs.lemmas.List.{length-map, take-append-drop}
use Rattle.std.proofs.lemmas.List.Elements.{All-append, All-nil, All-cons, All-head, All-tail, All-contains_itself}
use Rattle.std.proofs.lemmas.List.Kept.{AllPairs-cons}
use Rattle.std.proofs.lemmas.List.Sums.{fails_before_first}
use Rattle.gl_event.specs.declared.events.Segment.{Segment}
use Rattle.gl_edges.specs.declared.edge.Edge.{Edge}
use Rattle.gl_edges.specs.declared.edge.Sample.{Sample}
use Rattle.gl_edges.proofs.Membership.{contains_here, contains_later, contains_cases, contains_none, contains_map, contains_map_from, contains_flat_map, contains_flat_map_from, contains_range, contains_range_from}
use Rattle.gl_filters.specs.declared.query.Mode.{Mode}
use Rattle.gl_filters.specs.Picked.{edges_of_table}
use Rattle.gl_cycles.specs.AllCycles.{all_cycles, lists_below}
use Rattle.gl_cycles.proofs.EdgesOfPaths.{length-picked}
use Rattle.gl_cycles.proofs.AmongAllCycles.{filter_has, filter_from, there_is_cycle}
use Rattle.gl_grounds.specs.Classes.{same_places, class_of, classes_of}
use Rattle.gl_findings.specs.Findings.{signature_of, turned, is_turn, begins_least, first_with, findings}
use Rattle.gl_findings.specs.Laws.{IsToldBy, AreOneFinding, NoneIsMissed, EachIsCycle, NoneIsTwice}
use Rattle.gl_findings.proofs.Cutting.{classes_told, All-left, All-right}
use Rattle.gl_findings.proofs.LeastTurns.{IsTurnOf, turn_tells, turn_from, turn_and_back, told, told_once, length-turned}

-- the first of some
first_of : {X : Type 0} (xs : List X) (x : X) → Contains xs x → (y : X) × Contains (take 1 xs) y × Contains xs y
first_of [] x at = absurd (contains_none x at)
first_of (y ∷ xs) x at = (y, contains_here y [], contains_here y xs)

-- what is first is among them
of_first : {X : Type 0} (xs : List X) (x : X) → Contains (take 1 xs) x → Contains xs x
of_first [] x at = at
of_first (y ∷ xs) x at =
    elim (contains_cases y x [] at) [
      | inl is ↦ subst (Contains (y ∷ xs)) is (contains_here y xs)
      | inr none ↦ absurd (contains_none x none)
    ]

-- each list of at most n numbers below size is among those
listed : (size n : ℕ) (xs : List ℕ) → length xs ≤ n → All (λ i. i < size) xs → Contains (lists_below size n) xs
listed size zero [] short within = contains_here [] []
listed size zero (i ∷ xs) short within = absurd (omega arith)
listed size (suc n) [] short within = contains_here [] (flat_map (λ i. map (λ rest. i ∷ rest) (lists_below size n)) (range_with_len 0 size))
listed size (suc n) (i ∷ xs) short within =
    let first : i < size = All-head (λ i. i < size) i xs within in
    let below : i < 0 + size = omega (arith, first) in
    contains_later [] (i ∷ xs) (flat_map (λ i. map (λ rest. i ∷ rest) (lists_below size n)) (range_with_len 0 size))
    (contains_flat_map (λ i. map (λ rest. i ∷ rest) (lists_below size n)) i (i ∷ xs) (range_with_len 0 size) (contains_range 0 size i (omega arith) below)
    (contains_map (λ rest. i ∷ rest) xs (lists_below size n) (listed size n xs (omega arith) (All-tail (λ i. i < size) i xs within))))

-- no element stands twice
abbrev AreDistinct : {X : Type 0} → List X → Type 0
AreDistinct [] = Unit {0}
AreDistinct (x ∷ xs) = (Contains xs x → ⊥) × AreDistinct xs

distinct_kept : {X : Type 0} (p : X → Bool) (xs : List X) → AreDistinct xs → AreDistinct (filter p xs)
distinct_kept p [] distinct = tt
distinct_kept p (x ∷ xs) distinct = by (p x) (λ at. distinct.0 (filter_from p x xs at).0) (distinct_kept p xs distinct.1)
  where
    by : (b : Bool) → (Contains (filter p xs) x → ⊥) → AreDistinct (filter p xs) → AreDistinct (cond b (x ∷ filter p xs) (filter p xs))
    by true new rest = (new, rest)
    by false new rest = rest

in_either : {X : Type 0} (xs ys : List X) (x : X) → Contains (xs ++ ys) x → Contains xs x ⊎ Contains ys x
in_either [] ys x at = inr at
in_either (y ∷ xs) ys x at =
    elim (contains_cases y x (xs ++ ys) at) [
      | inl is ↦ inl (subst (Contains (y ∷ xs)) is (contains_here y xs))
      | inr later ↦ elim (in_either xs ys x later) [ inl there ↦ inl (contains_later y x xs there) | inr there ↦ inr there ]
    ]

distinct_joined : {X : Type 0} (xs ys : List X) → AreDistinct xs → AreDistinct ys → ((x : X) → Contains xs x → Contains ys x → ⊥) → AreDistinct (xs ++ ys)
distinct_joined [] ys one other apart = other
distinct_joined (x ∷ xs) ys one other apart = (
  λ at. elim (in_either xs ys x at) [ inl here ↦ one.0 here | inr there ↦ apart x (contains_here x xs) there ],
  distinct_joined xs ys one.1 other (λ y here there. apart y (contains_later x y xs here) there),
)

-- lists that begin with i
abbrev starting : List (List ℕ) → ℕ → List (List ℕ)
starting ls i = map (λ rest. i ∷ rest) ls

distinct_starting : (i : ℕ) (ls : List (List ℕ)) → AreDistinct ls → AreDistinct (starting ls i)
distinct_starting i [] distinct = tt
distinct_starting i (l ∷ ls) distinct = (
  λ at.
      let (rest, among, is) = contains_map_from (λ rest. i ∷ rest) (i ∷ l) ls at in
      distinct.0 (subst (Contains ls) (ap (drop 1) is) among),
  distinct_starting i ls distinct.1,
)

distinct_flat : (ls : List (List ℕ)) (b m : ℕ) → AreDistinct ls → AreDistinct (flat_map (starting ls) (range_with_len b m))
distinct_flat ls b zero distinct = tt
distinct_flat ls b (suc m) distinct =
    distinct_joined (starting ls b) (flat_map (starting ls) (range_with_len (b + 1) m)) (distinct_starting b ls distinct) (distinct_flat ls (b + 1) m distinct)
    (λ x here there.
    let (rest, among, is) = contains_map_from (λ rest. b ∷ rest) x ls here in
    let (i, later, at) = contains_flat_map_from (starting ls) x (range_with_len (b + 1) m) there in
    let (other, among_too, is_too) = contains_map_from (λ rest. i ∷ rest) x ls at in
    let above = contains_range_from (b + 1) m i later in
    let same : b ≡ i = ap (λ l. get_or l 0 0) (is ∙ sym is_too) in
    omega (arith, above.0, same))

distinct_lists : (size n : ℕ) → AreDistinct (lists_below size n)
distinct_lists size zero = (λ at. contains_none {X = List ℕ} [] at, tt)
distinct_lists size (suc n) = (
  λ at.
      let (i, among, there) = contains_flat_map_from (starting (lists_below size n)) [] (range_with_len 0 size) at in
      let (rest, of_them, is) = contains_map_from (λ rest. i ∷ rest) [] (lists_below size n) there in
      cc,
  distinct_flat (lists_below size n) 0 size (distinct_lists size n),
)

-- the first place with the likes of an element of the list is a place of the list
first_place_below : {X : Type 0} (like : X → X → Bool) → ((x : X) → like x x ≡ true) → (all xs : List X) → All (Contains all) xs
    → (i class : ℕ) → slice_get (map (λ x. position_or_len (like x) all) xs) i ≡ Some class → class < length all
first_place_below like itself all [] among i class at = absurd (cc)
first_place_below like itself all (x ∷ xs) among zero class at =
    let (k, below, is) = All-head (Contains all) x xs among in
    let same : position_or_len (like x) all ≡ class = same_Some _ _ at in
    elim (cases_lt k (position_or_len (like x) all)) [
      | inl before ↦ absurd (false≢true (sym (fails_before_first (like x) all k x before) ∙ ap (like x) is ∙ itself x))
      | inr there ↦ omega (arith, there, below, same)
    ]
first_place_below like itself all (x ∷ xs) among (suc i) class at = first_place_below like itself all xs (All-tail (Contains all) x xs among) i class at

like_itself : (pair : Edge × Sample) → same_places pair pair ≡ true
like_itself pair = and_from _ _ (eq-eqb pair.1.held_loc pair.1.held_loc refl) (eq-eqb pair.1.wanted_loc pair.1.wanted_loc refl)

-- the class of an edge of the table is a position of the table
class_below : (table : List (Edge × Sample)) (i class : ℕ) → slice_get (classes_of table) i ≡ Some class → class < length table
class_below table i class at = first_place_below same_places like_itself table table (All-contains_itself table) i class at

signature_below : (table : List (Edge × Sample)) (positions : List ℕ) → All (λ i. i < length table) (signature_of table positions)
signature_below table [] = All-nil (λ i. i < length table)
signature_below table (i ∷ positions) = by (slice_get (classes_of table) i) refl (signature_below table positions)
  where
    by : (o : Option ℕ) → slice_get (classes_of table) i ≡ o → All (λ i. i < length table) (signature_of table positions) → All (λ i. i < length table) (cons_option o (signature_of table positions))
    by (Some class) at rest = All-cons (λ i. i < length table) class (signature_of table positions) (class_below table i class at) rest
    by None at rest = rest

turned_below : (size k : ℕ) (xs : List ℕ) → All (λ i. i < size) xs → All (λ i. i < size) (turned k xs)
turned_below size k xs all =
    let parts : All (λ i. i < size) (take k xs ++ drop k xs) = subst (All (λ i. i < size)) (sym (take-append-drop k xs)) all in
    All-append (λ i. i < size) (drop k xs) (take k xs) (All-right (λ i. i < size) (take k xs) (drop k xs) parts) (All-left (λ i. i < size) (take k xs) (drop k xs) parts)

length-signature : (table : List (Edge × Sample)) (positions : List ℕ) → All (λ i. i < length table) positions → length (signature_of table positions) ≡ length positions
length-signature table positions within =
    let as_long = length-map table (class_of table) in
    let told = classes_told (classes_of table) positions (λ k d below. let w = within k d below in omega (arith, w, as_long)) in
    omega (arith, ap length told, length-map positions (slice_get (classes_of table)), length-map (signature_of table positions) Some)

module _ (before : Segment → Segment → Bool) (mode : Mode) (len : ℕ) (table : List (Edge × Sample)) where
  pub each_is_cycle : EachIsCycle before mode len table
  unfolding findings
  each_is_cycle shown at =
      let (signature, among, there) = contains_flat_map_from (first_with before mode len table) shown (filter begins_least (lists_below (length table) len)) at in
      (filter_from (λ positions. is_turn signature (signature_of table positions)) shown (all_cycles before mode len (edges_of_table table)) (of_first _ shown there)).0

  -- what is first with a signature is told by it
  told_by_it : (signature shown : List ℕ) → begins_least signature ≡ true → Contains (first_with before mode len table signature) shown → IsToldBy table shown signature
  told_by_it signature shown begins there = record {
    begins = begins;
    turn = (filter_from (λ positions. is_turn signature (signature_of table positions)) shown (all_cycles before mode len (edges_of_table table)) (of_first _ shown there)).1;
  }

  positions_within : (positions : List ℕ) → Contains (all_cycles before mode len (edges_of_table table)) positions → All (λ i. i < length table) positions
  positions_within positions at k d below =
      let edges_long = length-map table (λ pair. pair.0) in
      let w = (there_is_cycle before mode len (edges_of_table table) positions at).within k d below in
      omega (arith, w, edges_long)

  -- a turn of a cycle's signature is among the lists
  pub signature_among : (positions signature : List ℕ) → Contains (all_cycles before mode len (edges_of_table table)) positions → IsTurnOf (signature_of table positions) signature → Contains (lists_below (length table) len) signature
  signature_among positions signature at turn =
      let is = there_is_cycle before mode len (edges_of_table table) positions at in
      let long = length-signature table positions (positions_within positions at) in
      let as_many = length-picked (edges_of_table table) positions is.within in
      let same_length : length signature ≡ length (signature_of table positions) = ap length (sym turn.2) ∙ length-turned turn.0 (signature_of table positions) in
      let below = subst (All (λ i. i < length table)) turn.2 (turned_below (length table) turn.0 (signature_of table positions) (signature_below table positions)) in
      listed (length table) len signature (omega (arith, same_length, long, as_many, is.cycle.not_too_long)) below

  pub none_is_missed : NoneIsMissed before mode len table
  unfolding findings
  none_is_missed positions at =
      let is = there_is_cycle before mode len (edges_of_table table) positions at in
      let long = length-signature table positions (positions_within positions at) in
      let as_many = length-picked (edges_of_table table) positions is.within in
      let (signature, begins, turn) = told (signature_of table positions) (omega (arith, long, as_many, is.cycle.two_or_more)) in
      let among = signature_among positions signature at turn in
      let (k, k_below, back) = turn_and_back (signature_of table positions) signature turn in
      let passes = turn_from signature (signature_of table positions) k k_below back in
      let (shown, first, there) = first_of (filter (λ l. is_turn signature (signature_of table l)) (all_cycles before mode len (edges_of_table table))) positions
      (filter_has (λ l. is_turn signature (signature_of table l)) positions (all_cycles before mode len (edges_of_table table)) at passes) in (
        shown,
        contains_flat_map (first_with before mode len table) signature shown (filter begins_least (lists_below (length table) len)) (filter_has begins_least signature (lists_below (length table) len) among begins) first,
        record { signature = signature; one = told_by_it signature shown begins first; other = record { begins = begins; turn = passes } },
      )

  -- two that are told by different signatures are not one finding
  told_apart : (one other a b : List ℕ) → a ≢ b → IsToldBy table one a → IsToldBy table other b → AreOneFinding table one other → ⊥
  told_apart one other a b differ of_a of_b same =
      let first = told_once (signature_of table one) a same.signature of_a.begins same.one.begins (turn_tells a (signature_of table one) of_a.turn) (turn_tells same.signature (signature_of table one) same.one.turn) in
      let second = told_once (signature_of table other) same.signature b same.other.begins of_b.begins (turn_tells same.signature (signature_of table other) same.other.turn) (turn_tells b (signature_of table other) of_b.turn) in
      differ (first ∙ second)

  abbrev Apart : List ℕ → List ℕ → Type 0
  Apart one other = AreOneFinding table one other → ⊥

  one_more : (l rest : List (List ℕ)) → ((x : List ℕ) → Contains (take 1 l) x → All (Apart x) rest) → AllPairs Apart rest → AllPairs Apart (take 1 l ++ rest)
  one_more [] rest apart pairs = pairs
  one_more (x ∷ l) rest apart pairs = AllPairs-cons Apart x rest (apart x (contains_here x [])) pairs

  none_twice_in : (ls : List (List ℕ)) → AreDistinct ls → ((x : List ℕ) → Contains ls x → begins_least x ≡ true) → AllPairs Apart (flat_map (first_with before mode len table) ls)
  none_twice_in [] distinct begin = λ i j d lower below. absurd (omega arith)
  none_twice_in (signature ∷ ls) distinct begin =
      one_more (filter (λ l. is_turn signature (signature_of table l)) (all_cycles before mode len (edges_of_table table))) (flat_map (first_with before mode len table) ls)
      (λ one first.
      all_from_members (Apart one) (flat_map (first_with before mode len table) ls)
      (λ other there.
      let (next, among, at) = contains_flat_map_from (first_with before mode len table) other ls there in
      told_apart one other signature next (λ same. distinct.0 (subst (Contains ls) (sym same) among))
      (told_by_it signature one (begin signature (contains_here signature ls)) first)
      (told_by_it next other (begin next (contains_later signature next ls among)) at)))
      (none_twice_in ls distinct.1 (λ x at. begin x (contains_later signature x ls at)))
    where
      all_from_members : {X : Type 0} (P : X → Type 0) (xs : List X) → ((x : X) → Contains xs x → P x) → All P xs
      all_from_members P xs each k d below = each _ (All-contains_itself xs k d below)

  pub none_is_twice : NoneIsTwice before mode len table
  unfolding findings
  none_is_twice =
      none_twice_in (filter begins_least (lists_below (length table) len)) (distinct_kept begins_least (lists_below (length table) len) (distinct_lists (length table) len))
      (λ x at. (filter_from begins_least x (lists_below (length table) len) at).1)
