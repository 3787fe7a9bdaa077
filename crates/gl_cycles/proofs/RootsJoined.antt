-- What is found root by root, joined.
use Rattle.std.proofs.Common.{◌≡◌, ℕ, zero, suc, ◌+◌, ◌-◌, ◌≤◌, List, [], ◌∷◌, ◌++◌, map, take, refl, sym, ap, ◌∙◌, arith}
use Rattle.std.specs.Prelude.{IfOk}
use Rattle.std.specs.List.{flat_map, range_with_len, AllZip}
use Rattle.std.specs.declared.result.Result.{Result}
use Rattle.std.specs.declared.result.Result.TheVariants.{Ok}
use Rattle.std.proofs.lemmas.List.{take-take, append_assoc, append-nil}
use Rattle.std.proofs.lemmas.Grind.{flat_map-append}
use Rattle.rayon.specs.Shown.{run-append}
use Rattle.gl_cycles.proofs.ListsOfPositions.{take-take_append}

-- the first of joined lists, where only the first of the second one are known
pub take_append-take : {X : Type 0} (n m : ℕ) (xs ys : List X) → n ≤ m → take n (xs ++ ys) ≡ take n (xs ++ take m ys)
take_append-take n m [] ys le = sym (take-take n m ys le)
take_append-take zero m (x ∷ xs) ys le = refl
take_append-take (suc n) m (x ∷ xs) ys le = ap (λ l. x ∷ l) (take_append-take n m xs ys (omega arith))

-- the first of each are enough for the first of all
pub flat-take : {X Y : Type 0} (cap : ℕ) (f : X → List Y) (xs : List X) → take cap (flat_map (λ x. take cap (f x)) xs) ≡ take cap (flat_map f xs)
flat-take cap f [] = refl
flat-take cap f (x ∷ xs) =
    take-take_append cap (f x) (flat_map (λ x. take cap (f x)) xs) ∙ take_append-take cap cap (f x) (flat_map (λ x. take cap (f x)) xs) (omega arith)
    ∙ ap (λ l. take cap (f x ++ l)) (flat-take cap f xs) ∙ sym (take_append-take cap cap (f x) (flat_map f xs) (omega arith))

flat-map : {X Y : Type 0} (f : X → List Y) (xs : List X) → flat_map f xs ≡ flat_map (λ l. l) (map f xs)
flat-map f [] = refl
flat-map f (x ∷ xs) = ap (λ l. f x ++ l) (flat-map f xs)

-- lists that are the same one by one are the same joined
pub flat-same : {X Y Z : Type 0} (f : X → List Z) (g : Y → List Z) (xs : List X) (ys : List Y) → map f xs ≡ map g ys → flat_map f xs ≡ flat_map g ys
flat-same f g xs ys same = flat-map f xs ∙ ap (flat_map (λ l. l)) same ∙ sym (flat-map g ys)

-- behind what there was before, too
pub flat-take-behind : {X Y : Type 0} (cap : ℕ) (f : X → List Y) (xs : List X) (before : List Y) → take cap (before ++ flat_map (λ x. take cap (f x)) xs) ≡ take cap (before ++ flat_map f xs)
flat-take-behind cap f xs before =
    take_append-take cap cap before (flat_map (λ x. take cap (f x)) xs) (omega arith) ∙ ap (λ l. take cap (before ++ l)) (flat-take cap f xs)
    ∙ sym (take_append-take cap cap before (flat_map f xs) (omega arith))

-- what each piece has, where each of the answers has it
pub pieces_are : {V : Type 0} (E : Type 0) (view : V → List (List ℕ)) (first : ℕ → List (List ℕ)) (roots : List ℕ) (ys : List V)
    → AllZip (λ (root : ℕ) (r : Result V E). IfOk r (λ found. view found ≡ first root)) roots (map Ok ys) → map view ys ≡ map first roots
pieces_are E view first [] [] all = refl
pieces_are E view first [] (y ∷ ys) all = absurd all
pieces_are E view first (x ∷ roots) [] all = absurd all
pieces_are E view first (x ∷ roots) (y ∷ ys) all = (λ i. all.0 i ∷ pieces_are E view first roots ys all.1 i)

-- what a run of numbers gives, and a run after it
flat-runs : {Y : Type 0} (f : ℕ → List Y) (a n m : ℕ) → flat_map f (range_with_len a n) ++ flat_map f (range_with_len (a + n) m) ≡ flat_map f (range_with_len a (n + m))
flat-runs f a n m = sym (flat_map-append f (range_with_len a n) (range_with_len (a + n) m)) ∙ ap (flat_map f) (run-append a n m)

-- the first of what was there and of one run, and then of one more
pub run_more : {Y : Type 0} (cap : ℕ) (f : ℕ → List Y) (old now : List Y) (a n m : ℕ) → now ≡ take cap (old ++ flat_map f (range_with_len a n))
    → take cap (now ++ flat_map f (range_with_len (a + n) m)) ≡ take cap (old ++ flat_map f (range_with_len a (n + m)))
run_more cap f old now a n m is =
    let next = flat_map f (range_with_len (a + n) m) in
    ap (λ l. take cap (l ++ next)) is ∙ take-take_append cap (old ++ flat_map f (range_with_len a n)) next
    ∙ ap (take cap) (append_assoc old (flat_map f (range_with_len a n)) next ∙ ap (λ l. old ++ l) (flat-runs f a n m))

-- and of one number more
pub root_more : {Y : Type 0} (cap : ℕ) (f : ℕ → List Y) (old now new : List Y) (a k : ℕ) → a ≤ k → now ≡ take cap (old ++ flat_map f (range_with_len a (k - a)))
    → new ≡ take cap (now ++ f k) → new ≡ take cap (old ++ flat_map f (range_with_len a (k + 1 - a)))
root_more cap f old now new a k le is grown =
    let here : a + (k - a) ≡ k = omega arith in
    let more : k - a + 1 ≡ k + 1 - a = omega arith in
    grown ∙ ap (λ l. take cap (now ++ l)) (sym (append-nil (f k)) ∙ ap (λ i. flat_map f (range_with_len i 1)) (sym here))
    ∙ run_more cap f old now a (k - a) 1 is ∙ ap (λ n. take cap (old ++ flat_map f (range_with_len a n))) more

-- a run after those from the start on
pub runs_on : {Y : Type 0} (cap : ℕ) (f : ℕ → List Y) (now new : List Y) (n m : ℕ) → n ≤ m → now ≡ take cap (flat_map f (range_with_len 0 n)) → new ≡ take cap (now ++ flat_map f (range_with_len n (m - n)))
    → new ≡ take cap (flat_map f (range_with_len 0 m))
runs_on cap f now new n m le is grown =
    let here : n ≡ 0 + n = omega arith in
    let end : n + (m - n) ≡ m = omega arith in
    grown ∙ ap (λ k. take cap (now ++ flat_map f (range_with_len k (m - n)))) here
    ∙ run_more cap f [] now 0 n (m - n) is ∙ ap (λ k. take cap (flat_map f (range_with_len 0 k))) end
