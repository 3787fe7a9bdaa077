-- Told signatures: each is a turn that begins least, so that two which differ are of two findings.
use Rattle.std.proofs.Common.{◌≡◌, ℕ, zero, suc, ◌+◌, ◌<◌, Bool, true, false, cond, List, length, get_or, map, Ordering, Less, Equal, Greater, refl, sym, ap, subst, ◌∙◌, arith, inl, inr}
use Rattle.std.specs.Prelude.{AllPairs}
use Rattle.std.specs.Cmp.Lexicographic.{slice_cmp}
use Rattle.std.specs.List.{fold, range_with_len}
use Rattle.std.specs.Ordering.{nat_cmp, is_le, ordering_reverse}
use Rattle.std.proofs.lemmas.Bool.{cases_Bool, cases_lt}
use Rattle.std.proofs.lemmas.Cmp.{nat_list_cmp_total}
use Rattle.std.proofs.lemmas.List.{append-nil, get_or-map, length-map}
use Rattle.std.proofs.lemmas.Map.Keys.{Less-from_sorted}
use Rattle.gl_edges.specs.declared.edge.Edge.{Edge}
use Rattle.gl_edges.specs.declared.edge.Sample.{Sample}
use Rattle.gl_findings.specs.Findings.{begins_least, signature_of, turned}
use Rattle.gl_findings.specs.Laws.{AreOneFinding, IsToldBy}
use Rattle.gl_findings.specs.declared.listing.Listing.TheVariants.{Findings}
use Rattle.gl_findings.proofs.Compared.{le_other, le_trans}
use Rattle.gl_findings.proofs.LeastTurns.{IsTurnOf, least_from, length-turned, told_once, turn_along, turn_and_back, turn_tells}
use Rattle.gl_check.specs.Signatures.{Ascend, least_turn, lesser_list, told_signature}
use Rattle.gl_check.proofs.Turns.{turn_more}

le_itself : (xs : List ℕ) → is_le (slice_cmp nat_cmp xs xs) ≡ true
le_itself xs = elim (cases_Bool (is_le (slice_cmp nat_cmp xs xs))) [ inl le ↦ le | inr above ↦ le_other xs xs above ]

module _ (xs : List ℕ) where
  -- the least of the turns so far
  abbrev least_to : ℕ → List ℕ
  least_to m = fold (λ least k. lesser_list least (turned k xs)) xs (range_with_len 0 m)

  -- it is a turn, and no turn so far is less
  record IsLeastTo (m : ℕ) (least : List ℕ) : Type 0 where
    turn : IsTurnOf xs least
    low : (j : ℕ) → j < m → is_le (slice_cmp nat_cmp least (turned j xs)) ≡ true

  next_least : (m : ℕ) (least : List ℕ) → m < length xs → IsLeastTo m least → IsLeastTo (suc m) (lesser_list least (turned m xs))
  next_least m least within is = by (is_le (slice_cmp nat_cmp least (turned m xs))) refl
    where
      by : (le : Bool) → is_le (slice_cmp nat_cmp least (turned m xs)) ≡ le → IsLeastTo (suc m) (cond le least (turned m xs))
      by true le = record {
        turn = is.turn;
        low = λ j below. elim (cases_lt j m) [
          | inl lower ↦ is.low j lower
          | inr last ↦ let same : m ≡ j = omega (arith, below, last) in subst (λ n. is_le (slice_cmp nat_cmp least (turned n xs)) ≡ true) same le
        ];
      }
      by false above = record {
        turn = (m, within, refl);
        low = λ j below. elim (cases_lt j m) [
          | inl lower ↦ le_trans (turned m xs) least (turned j xs) (le_other least (turned m xs) above) (is.low j lower)
          | inr last ↦ let same : m ≡ j = omega (arith, below, last) in subst (λ n. is_le (slice_cmp nat_cmp (turned m xs) (turned n xs)) ≡ true) same (le_itself (turned m xs))
        ];
      }

  is_least_to : 0 < length xs → (m : ℕ) → m < length xs + 1 → IsLeastTo m (least_to m)
  is_least_to some zero within = record { turn = (0, some, append-nil xs); low = λ j below. absurd (omega arith) }
  is_least_to some (suc m) within =
      let e : suc m ≡ m + 1 = omega arith in
      subst (IsLeastTo (suc m)) (sym (ap least_to e ∙ turn_more xs m)) (next_least m (least_to m) (omega (arith, within)) (is_least_to some m (omega (arith, within))))

  -- the least turn begins least
  least_begins : 0 < length xs → begins_least (least_turn xs) ≡ true
  least_begins some =
      let is = is_least_to some (length xs) (omega arith) in
      least_from (least_turn xs) (λ j below.
      let (i, lower, same) = turn_along xs (least_turn xs) (turned j (least_turn xs)) is.turn (j, below, refl) in
      ap (λ l. is_le (slice_cmp nat_cmp (least_turn xs) l)) (sym same) ∙ is.low i lower)

  least_turns : 0 < length xs → IsTurnOf xs (least_turn xs)
  least_turns some = (is_least_to some (length xs) (omega arith)).turn

module _ (table : List (Edge × Sample)) where
  -- what a finding is told by is its told signature
  told_is : (positions signature : List ℕ) → IsToldBy table positions signature → signature ≡ told_signature table positions
  told_is positions signature told =
      let xs = signature_of table positions in
      let turn = turn_tells signature xs told.turn in
      let long : length xs ≡ length signature = ap length (sym turn.2) ∙ length-turned turn.0 signature in
      let some : 0 < length xs = omega (arith, long, turn.1) in
      told_once xs signature (least_turn xs) told.begins (least_begins xs some) turn (turn_and_back xs (least_turn xs) (least_turns xs some))

  not_below_itself : (xs ys : List ℕ) → xs ≡ ys → slice_cmp nat_cmp xs ys ≡ Less → ⊥
  not_below_itself xs ys same less = by (slice_cmp nat_cmp xs xs) (nat_list_cmp_total.antisymm xs xs) (ap (slice_cmp nat_cmp xs) same ∙ less)
    where
      by : (o : Ordering) → o ≡ ordering_reverse o → o ≡ Less → ⊥
      by Less turned_round is = cc
      by Equal turned_round is = cc
      by Greater turned_round is = cc

  -- no two that ascend by their told signatures are one finding
  pub none_twice : (shown : List (List ℕ)) → Ascend Findings table shown → AllPairs (λ one other. ¬ AreOneFinding table one other) shown
  none_twice shown up i j d lower within one_finding =
      let told = told_signature table in
      let long = length-map shown told in
      let at_i = get_or-map told shown i d (told d) (omega (arith, lower, within)) in
      let at_j = get_or-map told shown j d (told d) within in
      let less = Less-from_sorted (slice_cmp nat_cmp) (map told shown) i j (told d) up lower (omega (arith, long, within)) in
      not_below_itself (told (get_or shown i d)) (told (get_or shown j d))
      (sym (told_is (get_or shown i d) one_finding.signature one_finding.one) ∙ told_is (get_or shown j d) one_finding.signature one_finding.other)
      (sym (λ k. slice_cmp nat_cmp (at_i k) (at_j k)) ∙ less)
