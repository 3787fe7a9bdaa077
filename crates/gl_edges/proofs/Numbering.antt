-- Guard sets get their numbers one by one.
use Rattle.std.proofs.Common.{◌≡◌, ◌≢◌, ℕ, zero, suc, ◌+◌, ◌<◌, cond, List, [], ◌∷◌, ◌++◌, length, take, get_or, Some, None, refl, sym, ap, subst, ◌∙◌, arith, inl, inr}
use Rattle.std.specs.Prelude.{slice_get, Contains}
use Rattle.std.specs.BTreeMap as tree
use Rattle.std.specs.BTreeMap.{BTreeMap}
use Rattle.std.specs.Cmp.Lexicographic.{slice_cmp, lists_total}
use Rattle.std.specs.FinMap.{slice_cmp-IsAntisymmetric}
use Rattle.std.specs.Ordering.{eq_by_cmp}
use Rattle.std.proofs.lemmas.Bool.{cases_eq, cases_Bool, false≢true}
use Rattle.std.proofs.lemmas.List.{length_push, length-map, take-append-le, take_more, get_or-map}
use Rattle.std.proofs.lemmas.List.Elements.{Contains-append_left, Contains-push}
use Rattle.std.proofs.lemmas.Option.{slice_get_within, slice_get-map, same_Some}
use Rattle.std.specs.Option.{option_map}
use Rattle.gl_event.proofs.Depths.{slice_get_last}
use Rattle.gl_edges.specs.Guards.{guard_cmp, guard_total}
use Rattle.gl_edges.specs.Numbered.{Numbering, AreNumbered, guards_in}
use Rattle.gl_edges.specs.declared.edge.Edge.{Edge}
use Rattle.gl_edges.specs.declared.edge.Sample.{Sample}
use Rattle.gl_edges.specs.bodies.Numberers.{IsMapOf}
use Rattle.gl_edges.specs.declared.guards.Guard.{Guard}
use Rattle.gl_edges.proofs.Least.{tied, ties_itself}
use Rattle.gl_edges.proofs.Orders.{guard_cmp_exact}

abbrev numbering : List ℕ → List (List Guard) → Numbering
numbering ids sets = record { ids = ids; sets = sets }

-- an element before one more
early : {X : Type 0} (xs : List X) (x : X) (j : ℕ) → j < length xs → slice_get (xs ++ x ∷ []) j ≡ slice_get xs j
early [] x j within = absurd (omega arith)
early (y ∷ xs) x zero within = refl
early (y ∷ xs) x (suc j) within = early xs x j (omega arith)

-- a number that is known, once more
pub known_more : (all : List (List Guard)) (ids : List ℕ) (sets : List (List Guard)) (number : ℕ) (guards : List Guard) → AreNumbered all (numbering ids sets) → slice_get sets number ≡ Some guards
    → AreNumbered (all ++ guards ∷ []) (numbering (ids ++ number ∷ []) sets)
known_more all ids sets number guards had is = record {
  long = length_push ids number ∙ ap (λ n. n + 1) had.long ∙ sym (length_push all guards);
  stands = λ i n at.
      elim (cases_eq i (length ids)) [
        | inl last ↦
            let n_is : number ≡ n = same_Some number n (sym (slice_get_last ids number) ∙ ap (slice_get (ids ++ number ∷ [])) (sym last) ∙ at) in
            ap (slice_get sets) (sym n_is) ∙ is ∙ sym (slice_get_last all guards) ∙ ap (slice_get (all ++ guards ∷ [])) (sym (last ∙ had.long))
        | inr other ↦
            let within = slice_get_within (ids ++ number ∷ []) i n at in
            let below : i < length ids = omega (arith, within, length_push ids number, other) in
            had.stands i n (sym (early ids number i below) ∙ at) ∙ sym (early all guards i (omega (arith, below, had.long)))
      ];
  once = had.once;
  given = λ n below. Contains-append_left ids (number ∷ []) n (had.given n below);
  in_order = λ i m n at lower.
      elim (cases_eq i (length ids)) [
        | inl last ↦
            let n_is : number ≡ n = same_Some number n (sym (slice_get_last ids number) ∙ ap (slice_get (ids ++ number ∷ [])) (sym last) ∙ at) in
            let within = slice_get_within sets number guards is in
            subst (λ l. Contains l m) (sym (ap (λ k. take k (ids ++ number ∷ [])) last ∙ whole_front ids number)) (had.given m (omega (arith, n_is, lower, within)))
        | inr other ↦
            let within = slice_get_within (ids ++ number ∷ []) i n at in
            let below : i < length ids = omega (arith, within, length_push ids number, other) in
            subst (λ l. Contains l m) (sym (take-append-le i ids (number ∷ []) (omega (arith, below)))) (had.in_order i m n (sym (early ids number i below) ∙ at) lower)
      ];
}
  where
    whole_front : (xs : List ℕ) (x : ℕ) → take (length xs) (xs ++ x ∷ []) ≡ xs
    whole_front [] x = refl
    whole_front (y ∷ xs) x = ap (λ l. y ∷ l) (whole_front xs x)

-- a guard set that is new gets the next number
pub new_set : (all : List (List Guard)) (ids : List ℕ) (sets : List (List Guard)) (guards : List Guard) → AreNumbered all (numbering ids sets) → ((n : ℕ) → slice_get sets n ≢ Some guards)
    → AreNumbered (all ++ guards ∷ []) (numbering (ids ++ length sets ∷ []) (sets ++ guards ∷ []))
new_set all ids sets guards had new = record {
  long = length_push ids (length sets) ∙ ap (λ n. n + 1) had.long ∙ sym (length_push all guards);
  stands = λ i n at.
      elim (cases_eq i (length ids)) [
        | inl last ↦
            let n_is : length sets ≡ n = same_Some (length sets) n (sym (slice_get_last ids (length sets)) ∙ ap (slice_get (ids ++ length sets ∷ [])) (sym last) ∙ at) in
            ap (slice_get (sets ++ guards ∷ [])) (sym n_is) ∙ slice_get_last sets guards ∙ sym (slice_get_last all guards) ∙ ap (slice_get (all ++ guards ∷ [])) (sym (last ∙ had.long))
        | inr other ↦
            let within = slice_get_within (ids ++ length sets ∷ []) i n at in
            let below : i < length ids = omega (arith, within, length_push ids (length sets), other) in
            let stood = had.stands i n (sym (early ids (length sets) i below) ∙ at) in
            early sets guards n (is_there i n below stood) ∙ stood ∙ sym (early all guards i (omega (arith, below, had.long)))
      ];
  once = λ m n gs at_m at_n.
      elim (cases_eq m (length sets)) [
        | inl m_last ↦ elim (cases_eq n (length sets)) [
          | inl n_last ↦ m_last ∙ sym n_last
          | inr n_other ↦ absurd (new n (before n gs at_n n_other ∙ sym (newest m gs m_last at_m)))
        ]
        | inr m_other ↦ elim (cases_eq n (length sets)) [
          | inl n_last ↦ absurd (new m (before m gs at_m m_other ∙ sym (newest n gs n_last at_n)))
          | inr n_other ↦ had.once m n gs (before m gs at_m m_other) (before n gs at_n n_other)
        ]
      ];
  given = λ n below.
      elim (cases_eq n (length sets)) [
        | inl last ↦ subst (Contains (ids ++ length sets ∷ [])) (sym last) (Contains-push ids (length sets))
        | inr other ↦ Contains-append_left ids (length sets ∷ []) n (had.given n (omega (arith, below, length_push sets guards, other)))
      ];
  in_order = λ i m n at lower.
      elim (cases_eq i (length ids)) [
        | inl last ↦
            let n_is : length sets ≡ n = same_Some (length sets) n (sym (slice_get_last ids (length sets)) ∙ ap (slice_get (ids ++ length sets ∷ [])) (sym last) ∙ at) in
            subst (λ l. Contains l m) (sym (ap (λ k. take k (ids ++ length sets ∷ [])) last ∙ whole_front ids (length sets))) (had.given m (omega (arith, n_is, lower)))
        | inr other ↦
            let within = slice_get_within (ids ++ length sets ∷ []) i n at in
            let below : i < length ids = omega (arith, within, length_push ids (length sets), other) in
            subst (λ l. Contains l m) (sym (take-append-le i ids (length sets ∷ []) (omega (arith, below)))) (had.in_order i m n (sym (early ids (length sets) i below) ∙ at) lower)
      ];
}
  where
    whole_front : (xs : List ℕ) (x : ℕ) → take (length xs) (xs ++ x ∷ []) ≡ xs
    whole_front [] x = refl
    whole_front (y ∷ xs) x = ap (λ l. y ∷ l) (whole_front xs x)

    -- what a number stands for is there
    there : {X : Type 0} (xs ys : List X) (n i : ℕ) → slice_get xs n ≡ slice_get ys i → i < length ys → n < length xs
    there {X = X} xs ys n i same below =
        let (y, at) = some_at ys i below in
        slice_get_within xs n y (same ∙ at)
      where
        some_at : (zs : List X) (k : ℕ) → k < length zs → (z : X) × (slice_get zs k ≡ Some z)
        some_at [] k within = absurd (omega arith)
        some_at (z ∷ zs) zero within = (z, refl)
        some_at (z ∷ zs) (suc k) within = some_at zs k (omega arith)

    is_there : (i n : ℕ) → i < length ids → slice_get sets n ≡ slice_get all i → n < length sets
    is_there i n below stood = there sets all n i stood (omega (arith, below, had.long))

    before : (n : ℕ) (gs : List Guard) → slice_get (sets ++ guards ∷ []) n ≡ Some gs → n ≢ length sets → slice_get sets n ≡ Some gs
    before n gs at other =
        let within = slice_get_within (sets ++ guards ∷ []) n gs at in
        sym (early sets guards n (omega (arith, within, length_push sets guards, other))) ∙ at

    newest : (n : ℕ) (gs : List Guard) → n ≡ length sets → slice_get (sets ++ guards ∷ []) n ≡ Some gs → Some guards ≡ Some gs
    newest n gs last at = sym (slice_get_last sets guards) ∙ ap (slice_get (sets ++ guards ∷ [])) (sym last) ∙ at

-- the map has one guard set more
pub map_more : (sets : List (List Guard)) (numbers new : BTreeMap (List Guard) ℕ) (guards : List Guard) (number : ℕ) → number ≡ length sets → IsMapOf sets numbers → tree.get (slice_cmp guard_cmp) numbers guards ≡ None
    → ((q : List Guard) → tree.get (slice_cmp guard_cmp) new q ≡ cond (eq_by_cmp (slice_cmp guard_cmp) guards q) (Some number) (tree.get (slice_cmp guard_cmp) numbers q)) → IsMapOf (sets ++ guards ∷ []) new
map_more sets numbers new guards number last had fresh puts = record {
  each = λ gs n at.
      elim (cases_Bool (eq_by_cmp (slice_cmp guard_cmp) guards gs)) [
        | inl tie ↦
            let same = tied (slice_cmp-IsAntisymmetric guard_cmp_exact) guards gs tie in
            elim (cases_eq n (length sets)) [
              | inl newest ↦ puts gs ∙ ap (λ b. cond b (Some number) (tree.get (slice_cmp guard_cmp) numbers gs)) tie ∙ ap Some (last ∙ sym newest)
              | inr other ↦ absurd (never n (sym fresh ∙ ap (tree.get (slice_cmp guard_cmp) numbers) same ∙ had.each gs n (before n gs at other)))
            ]
        | inr apart ↦
            elim (cases_eq n (length sets)) [
              | inl newest ↦
                  let same : guards ≡ gs = same_Some guards gs (sym (slice_get_last sets guards) ∙ ap (slice_get (sets ++ guards ∷ [])) (sym newest) ∙ at) in
                  absurd (false≢true (sym apart ∙ ties_itself (lists_total guard_total) guards gs same))
              | inr other ↦ puts gs ∙ ap (λ b. cond b (Some number) (tree.get (slice_cmp guard_cmp) numbers gs)) apart ∙ had.each gs n (before n gs at other)
            ]
      ];
  only = λ gs n is.
      elim (cases_Bool (eq_by_cmp (slice_cmp guard_cmp) guards gs)) [
        | inl tie ↦
            let same = tied (slice_cmp-IsAntisymmetric guard_cmp_exact) guards gs tie in
            let n_is : number ≡ n = same_Some number n (sym (puts gs ∙ ap (λ b. cond b (Some number) (tree.get (slice_cmp guard_cmp) numbers gs)) tie) ∙ is) in
            ap (slice_get (sets ++ guards ∷ [])) (sym n_is ∙ last) ∙ slice_get_last sets guards ∙ ap Some same
        | inr apart ↦
            let at = had.only gs n (sym (puts gs ∙ ap (λ b. cond b (Some number) (tree.get (slice_cmp guard_cmp) numbers gs)) apart) ∙ is) in
            early sets guards n (slice_get_within sets n gs at) ∙ at
      ];
}
  where
    before : (n : ℕ) (gs : List Guard) → slice_get (sets ++ guards ∷ []) n ≡ Some gs → n ≢ length sets → slice_get sets n ≡ Some gs
    before n gs at other =
        let within = slice_get_within (sets ++ guards ∷ []) n gs at in
        sym (early sets guards n (omega (arith, within, length_push sets guards, other))) ∙ at

    never : (n : ℕ) → None ≡ Some n → ⊥
    never n is = absurd (cc)

-- a guard set that the map hasn't is no set so far
pub fresh_set : (sets : List (List Guard)) (numbers : BTreeMap (List Guard) ℕ) (guards : List Guard) → IsMapOf sets numbers → tree.get (slice_cmp guard_cmp) numbers guards ≡ None → (n : ℕ) → slice_get sets n ≢ Some guards
fresh_set sets numbers guards had fresh n at =
    let never : None ≡ Some n = sym fresh ∙ had.each guards n at in
    absurd (cc)

-- the guard sets of one edge more
pub guards_more : (pairs : List (Edge × Sample)) (i : ℕ) (pair : Edge × Sample) → i < length pairs → take (i + 1) (guards_in pairs) ≡ take i (guards_in pairs) ++ (get_or pairs i pair).0.guards ∷ []
guards_more pairs i pair within =
    take_more (guards_in pairs) i pair.0.guards (omega (arith, within, length-map pairs (λ pair. pair.0.guards)))
    ∙ ap (λ gs. take i (guards_in pairs) ++ gs ∷ []) (get_or-map (λ pair. pair.0.guards) pairs i pair pair.0.guards within)

-- a position has a number, and a number a guard set
pub has_number : (pairs : List (Edge × Sample)) (by : Numbering) (i : ℕ) → AreNumbered (guards_in pairs) by → i < length pairs → i < length by.ids
has_number pairs by i numbered within = omega (arith, numbered.long, within, length-map pairs (λ pair. pair.0.guards))

pub has_set : (pairs : List (Edge × Sample)) (by : Numbering) (i n : ℕ) → AreNumbered (guards_in pairs) by → i < length pairs → slice_get by.ids i ≡ Some n → n < length by.sets
has_set pairs by i n numbered within at =
    let (pair, there) = found pairs i within in
    slice_get_within by.sets n pair.0.guards (numbered.stands i n at ∙ slice_get-map (λ pair. pair.0.guards) pairs i ∙ ap (option_map (λ pair. pair.0.guards)) there)
  where
    found : (ps : List (Edge × Sample)) (k : ℕ) → k < length ps → (p : Edge × Sample) × (slice_get ps k ≡ Some p)
    found [] k within = absurd (omega arith)
    found (p ∷ ps) zero within = (p, refl)
    found (p ∷ ps) (suc k) within = found ps k (omega arith)
