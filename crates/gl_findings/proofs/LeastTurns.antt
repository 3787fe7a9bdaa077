-- Turns of a list: one of them is least, and only one; a turn of a turn is a turn.
use Rattle.std.proofs.Common.{◌≡◌, ℕ, zero, suc, ◌+◌, ◌-◌, ◌<◌, ◌≤◌, Bool, true, false, List, [], ◌∷◌, ◌++◌, length, take, drop, refl, sym, ap, ◌∙◌, arith, inl, inr}
use Rattle.std.specs.Prelude.{nat_eq, Contains}
use Rattle.std.specs.List.{list_all, range_with_len}
use Rattle.std.specs.Ordering.{nat_cmp, is_le, is_eq, ordering_reverse}
use Rattle.std.specs.Cmp.Lexicographic.{pointwise, slice_cmp, same_text, texts_ties}
use Rattle.std.specs.declared.cmp.Ordering.{Ordering}
use Rattle.std.specs.declared.cmp.Ordering.TheVariants.{Less, Equal, Greater}
use Rattle.std.proofs.lemmas.Bool.{and_parts, and_from, cases_Bool, cases_lt, false≢true}
use Rattle.std.proofs.lemmas.Cmp.{nat_list_cmp_total, nat_list_eq_equiv}
use Rattle.std.proofs.lemmas.List.{append_assoc, append-nil, length-append, length-drop, length-take, take_all, take-append-drop, take-append-le, drop-append-le}
use Rattle.std.proofs.lemmas.List.Folds.{Any-from_list_any, list_any-from_Any}
use Rattle.std.proofs.Math.Seq.{drop-length, drop-append-add, take-append-add}
use Rattle.gl_edges.proofs.Membership.{contains_here, contains_later, contains_cases, contains_none, contains_range, contains_range_from}
use Rattle.gl_findings.specs.Findings.{turned, is_turn, begins_least}

abbrev order : List ℕ → List ℕ → Ordering
order = slice_cmp nat_cmp

equal_is : (xs ys : List ℕ) → order xs ys ≡ Equal → xs ≡ ys
equal_is xs ys same = same_text xs ys (sym (texts_ties xs ys ∙ ap is_eq same))

le_itself : (xs : List ℕ) → is_le (order xs xs) ≡ true
le_itself xs = by (order xs xs) (nat_list_cmp_total.antisymm xs xs)
  where
    by : (o : Ordering) → o ≡ ordering_reverse o → is_le o ≡ true
    by Less same = refl
    by Equal same = refl
    by Greater same = ap is_le same

le_other_way : (xs ys : List ℕ) → is_le (order xs ys) ≡ false → is_le (order ys xs) ≡ true
le_other_way xs ys above = by (order ys xs) (ap is_le (sym (nat_list_cmp_total.antisymm xs ys)) ∙ above)
  where
    by : (o : Ordering) → is_le (ordering_reverse o) ≡ false → is_le o ≡ true
    by Less above = refl
    by Equal above = refl
    by Greater above = absurd (false≢true (sym above))

pub le_both_ways : (xs ys : List ℕ) → is_le (order xs ys) ≡ true → is_le (order ys xs) ≡ true → xs ≡ ys
le_both_ways xs ys one other = by (order xs ys) refl one
  where
    by : (o : Ordering) → order xs ys ≡ o → is_le o ≡ true → xs ≡ ys
    by Less is le = absurd (false≢true (ap is_le (ap ordering_reverse (sym is) ∙ sym (nat_list_cmp_total.antisymm ys xs)) ∙ other))
    by Equal is le = equal_is xs ys is
    by Greater is le = absurd (false≢true le)

le_along : (xs ys zs : List ℕ) → is_le (order xs ys) ≡ true → is_le (order ys zs) ≡ true → is_le (order xs zs) ≡ true
le_along xs ys zs one other = by (order xs ys) (order ys zs) refl refl one other
  where
    by : (o p : Ordering) → order xs ys ≡ o → order ys zs ≡ p → is_le o ≡ true → is_le p ≡ true → is_le (order xs zs) ≡ true
    by Less Less is next le le_next = ap is_le (nat_list_cmp_total.trans xs ys zs is next)
    by Less Equal is next le le_next = ap (λ l. is_le (order xs l)) (sym (equal_is ys zs next)) ∙ ap is_le is
    by Less Greater is next le le_next = absurd (false≢true le_next)
    by Equal p is next le le_next = ap (λ l. is_le (order l zs)) (equal_is xs ys is) ∙ ap is_le next ∙ le_next
    by Greater p is next le le_next = absurd (false≢true le)

-- a test passes for all members where it does for each
all_members : {X : Type 0} (p : X → Bool) (xs : List X) → ((x : X) → Contains xs x → p x ≡ true) → list_all p xs ≡ true
all_members p [] each = refl
all_members p (x ∷ xs) each = and_from (p x) _ (each x (contains_here x xs)) (all_members p xs (λ y at. each y (contains_later x y xs at)))

each_member : {X : Type 0} (p : X → Bool) (xs : List X) (x : X) → list_all p xs ≡ true → Contains xs x → p x ≡ true
each_member p [] x all at = absurd (contains_none x at)
each_member p (y ∷ xs) x all at =
    let parts = and_parts (p y) _ all in
    elim (contains_cases y x xs at) [
      | inl is ↦ ap p (sym is) ∙ parts.0
      | inr later ↦ each_member p xs x parts.1 later
    ]

-- what the test of a turn tells
pub turn_tells : (xs other : List ℕ) → is_turn xs other ≡ true → (k : ℕ) × (k < length xs) × (turned k xs ≡ other)
turn_tells xs other passes =
    let (j, k, j_in, k_is, same) = Any-from_list_any (λ k. pointwise nat_eq (turned k xs) other) (range_with_len 0 (length xs)) passes in
    let below = contains_range_from 0 (length xs) k (j, j_in, k_is) in
    (k, omega (arith, below.1), same_text (turned k xs) other (sym same))

pub turn_from : (xs other : List ℕ) (k : ℕ) → k < length xs → turned k xs ≡ other → is_turn xs other ≡ true
turn_from xs other k below is =
    let (j, j_in, k_is) = contains_range 0 (length xs) k (omega arith) (omega (arith, below)) in
    list_any-from_Any (λ k. pointwise nat_eq (turned k xs) other) (range_with_len 0 (length xs)) (j, k, j_in, k_is, ap (pointwise nat_eq (turned k xs)) (sym is) ∙ nat_list_eq_equiv.refl (turned k xs))

pub least_tells : (xs : List ℕ) (k : ℕ) → begins_least xs ≡ true → k < length xs → is_le (order xs (turned k xs)) ≡ true
least_tells xs k least below = each_member (λ k. is_le (order xs (turned k xs))) (range_with_len 0 (length xs)) k least (contains_range 0 (length xs) k (omega arith) (omega (arith, below)))

pub least_from : (xs : List ℕ) → ((k : ℕ) → k < length xs → is_le (order xs (turned k xs)) ≡ true) → begins_least xs ≡ true
least_from xs each = all_members (λ k. is_le (order xs (turned k xs))) (range_with_len 0 (length xs)) (λ k at. let below = contains_range_from 0 (length xs) k at in each k (omega (arith, below.1)))

pub length-turned : (k : ℕ) (xs : List ℕ) → length (turned k xs) ≡ length xs
length-turned k xs = omega (arith, length-append (drop k xs) (take k xs), length-drop k xs, length-take k xs)

-- not turned at all
turned-zero : (xs : List ℕ) → turned 0 xs ≡ xs
turned-zero xs = append-nil xs

-- turned once round
turned-round : (xs : List ℕ) → turned (length xs) xs ≡ xs
turned-round xs = (λ i. drop-length xs i ++ take_all (length xs) xs (omega arith) i)

-- where the parts are joined
turned-join : (xs ys : List ℕ) (j : ℕ) → j ≤ length ys → turned j (ys ++ xs) ≡ turned (length xs + j) (xs ++ ys)
turned-join xs ys j short =
    (λ i. drop-append-le j ys xs short i ++ take-append-le j ys xs short i) ∙ append_assoc (drop j ys) xs (take j ys)
    ∙ sym (λ i. drop-append-add xs ys j i ++ take-append-add xs ys j i)

turned-over : (xs ys : List ℕ) (m : ℕ) → m ≤ length xs → turned (length ys + m) (ys ++ xs) ≡ turned m (xs ++ ys)
turned-over xs ys m short =
    (λ i. drop-append-add ys xs m i ++ take-append-add ys xs m i) ∙ sym (append_assoc (drop m xs) ys (take m xs))
    ∙ sym (λ i. drop-append-le m xs ys short i ++ take-append-le m xs ys short i)

-- a turn of these
abbrev pub IsTurnOf : List ℕ → List ℕ → Type 0
IsTurnOf xs other = (k : ℕ) × (k < length xs) × (turned k xs ≡ other)

-- less than once round is enough
less_round : (xs other : List ℕ) (k : ℕ) → 0 < length xs → k ≤ length xs → turned k xs ≡ other → IsTurnOf xs other
less_round xs other k some short is =
    elim (cases_lt k (length xs)) [
      | inl below ↦ (k, below, is)
      | inr full ↦
          let whole : length xs ≡ k = omega arith in
          (0, some, turned-zero xs ∙ sym (turned-round xs) ∙ ap (λ n. turned n xs) whole ∙ is)
    ]

-- a turn of a turn is a turn
turn_of_turn : (xs : List ℕ) (k j : ℕ) → k ≤ length xs → j ≤ length xs → (i : ℕ) × (i ≤ length xs) × (turned i xs ≡ turned j (turned k xs))
turn_of_turn xs k j k_short j_short =
    elim (cases_lt (length (drop k xs)) j) [
      | inr short ↦
          let is = turned-join (take k xs) (drop k xs) j short in
          let long = length-take k xs in
          let rest = length-drop k xs in
          (length (take k xs) + j, omega (arith, long, rest, short, k_short), sym (is ∙ ap (turned (length (take k xs) + j)) (take-append-drop k xs)))
      | inl over ↦
          let m = j - length (drop k xs) in
          let sum : length (drop k xs) + m ≡ j = omega (arith, over) in
          let long = length-take k xs in
          let rest = length-drop k xs in
          let short : m ≤ length (take k xs) = omega (arith, long, rest, sum, j_short, k_short) in
          let is = turned-over (take k xs) (drop k xs) m short in
          (m, omega (arith, long, short), sym (ap (λ n. turned n (turned k xs)) (sym sum) ∙ is ∙ ap (turned m) (take-append-drop k xs)))
    ]

-- a turn of a list is one of the list that begins with its last member
pub turn_of_last : (xs : List ℕ) (x : ℕ) (other : List ℕ) → is_turn (xs ++ x ∷ []) other ≡ true → is_turn (x ∷ xs) other ≡ true
turn_of_last xs x other passes =
    let (k, below, is) = turn_tells (xs ++ x ∷ []) other passes in
    let long = length-append xs (x ∷ []) in
    let (j, short, same) = turn_of_turn (x ∷ xs) 1 k (omega arith) (omega (arith, below, long)) in
    let (m, less, turned) = less_round (x ∷ xs) other j (omega arith) short (same ∙ is) in
    turn_from (x ∷ xs) other m less turned

-- and turned back
turn_back : (xs : List ℕ) (k : ℕ) → k ≤ length xs → turned (length (drop k xs)) (turned k xs) ≡ xs
turn_back xs k short =
    let none : length (drop k xs) + 0 ≡ length (drop k xs) = omega arith in
    ap (λ n. turned n (turned k xs)) (sym none) ∙ turned-over (take k xs) (drop k xs) 0 (omega arith) ∙ turned-zero (take k xs ++ drop k xs) ∙ take-append-drop k xs

pub turn_and_back : (xs ys : List ℕ) → IsTurnOf xs ys → IsTurnOf ys xs
turn_and_back xs ys (k, below, is) =
    let long : length ys ≡ length xs = ap length (sym is) ∙ length-turned k xs in
    let rest = length-drop k xs in
    less_round ys xs (length (drop k xs)) (omega (arith, long, below)) (omega (arith, long, rest)) (ap (turned (length (drop k xs))) (sym is) ∙ turn_back xs k (omega (arith, below)))

pub turn_along : (xs ys zs : List ℕ) → IsTurnOf xs ys → IsTurnOf ys zs → IsTurnOf xs zs
turn_along xs ys zs (k, below, is) (j, within, next) =
    let long : length ys ≡ length xs = ap length (sym is) ∙ length-turned k xs in
    let both = turn_of_turn xs k j (omega (arith, below)) (omega (arith, within, long)) in
    less_round xs zs both.0 (omega (arith, below)) both.1 (both.2 ∙ ap (turned j) is ∙ next)

-- the least of the first turns
least_of : (xs : List ℕ) (m : ℕ) → (k : ℕ) × (k < suc m) × ((j : ℕ) → j < suc m → is_le (order (turned k xs) (turned j xs)) ≡ true)
least_of xs zero = (0, omega arith, λ j below. let none : 0 ≡ j = omega arith in ap (λ n. is_le (order (turned 0 xs) (turned n xs))) (sym none) ∙ le_itself (turned 0 xs))
least_of xs (suc m) =
    let (k, below, least) = least_of xs m in
    elim (cases_Bool (is_le (order (turned k xs) (turned (suc m) xs)))) [
      | inl le ↦ (
        k,
        omega (arith, below),
        λ j within. elim (cases_lt j (suc m)) [
          | inl lower ↦ least j lower
          | inr last ↦ let is : suc m ≡ j = omega (arith, within, last) in ap (λ n. is_le (order (turned k xs) (turned n xs))) (sym is) ∙ le
        ],
      )
      | inr above ↦ (
        suc m,
        omega arith,
        λ j within. elim (cases_lt j (suc m)) [
          | inl lower ↦ le_along (turned (suc m) xs) (turned k xs) (turned j xs) (le_other_way (turned k xs) (turned (suc m) xs) above) (least j lower)
          | inr last ↦ let is : suc m ≡ j = omega (arith, within, last) in ap (λ n. is_le (order (turned (suc m) xs) (turned n xs))) (sym is) ∙ le_itself (turned (suc m) xs)
        ],
      )
    ]

-- each list has a turn that begins least
pub told : (xs : List ℕ) → 0 < length xs → (ys : List ℕ) × (begins_least ys ≡ true) × IsTurnOf xs ys
told [] some = absurd (omega arith)
told (x ∷ xs) some =
    let (k, below, least) = least_of (x ∷ xs) (length xs) in
    let ys = turned k (x ∷ xs) in
    let long : length ys ≡ length (x ∷ xs) = length-turned k (x ∷ xs) in (
      ys,
      least_from ys (λ j within.
          let (i, lower, is) = turn_along (x ∷ xs) ys (turned j ys) (k, omega (arith, below), refl) (j, within, refl) in
          ap (λ l. is_le (order ys l)) (sym is) ∙ least i (omega (arith, lower))),
      (k, omega (arith, below), refl),
    )

-- and only one
pub told_once : (xs ys zs : List ℕ) → begins_least ys ≡ true → begins_least zs ≡ true → IsTurnOf ys xs → IsTurnOf zs xs → ys ≡ zs
told_once xs ys zs one other of_one of_other =
    let (k, below, is) = turn_along ys xs zs of_one (turn_and_back zs xs of_other) in
    let (j, within, back) = turn_along zs xs ys of_other (turn_and_back ys xs of_one) in
    le_both_ways ys zs (ap (λ l. is_le (order ys l)) (sym is) ∙ least_tells ys k one below) (ap (λ l. is_le (order zs l)) (sym back) ∙ least_tells zs j other within)
