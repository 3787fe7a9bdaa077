-- Lists of positions: filters and maps over joined lists, and the numbers below a bound one after the other.
use Rattle.std.proofs.Common.{◌≡◌, ℕ, zero, suc, ◌+◌, ◌-◌, ◌<◌, ◌≤◌, Bool, false, List, [], ◌∷◌, ◌++◌, length, map, filter, take, refl, sym, ap, ◌∙◌, arith}
use Rattle.std.specs.List.{flat_map, range_with_len}
use Rattle.std.proofs.lemmas.List.{append_assoc, append-nil, map-append, take-append-le, take_all}
use Rattle.std.proofs.lemmas.Grind.{flat_map-append}
use Rattle.gl_index.proofs.Lists.{filter-append, range-more}
use Rattle.gl_cycles.specs.bodies.Blocks.{upto}

pub filter-flat_map : {X Y : Type 0} (p : Y → Bool) (f : X → List Y) (xs : List X) → filter p (flat_map f xs) ≡ flat_map (λ x. filter p (f x)) xs
filter-flat_map p f [] = refl
filter-flat_map p f (x ∷ xs) = filter-append p (f x) (flat_map f xs) ∙ ap (λ l. filter p (f x) ++ l) (filter-flat_map p f xs)

pub map-flat_map : {X Y Z : Type 0} (g : Y → Z) (f : X → List Y) (xs : List X) → map g (flat_map f xs) ≡ flat_map (λ x. map g (f x)) xs
map-flat_map g f [] = refl
map-flat_map g f (x ∷ xs) = map-append g (f x) (flat_map f xs) ∙ ap (λ l. map g (f x) ++ l) (map-flat_map g f xs)

pub same_flat_map : {X Y : Type 0} (f g : X → List Y) (xs : List X) → ((x : X) → f x ≡ g x) → flat_map f xs ≡ flat_map g xs
same_flat_map f g [] same = refl
same_flat_map f g (x ∷ xs) same = (λ i. same x i ++ same_flat_map f g xs same i)

-- a front and one more position before each list
pub map-one_more : (front : List ℕ) (i : ℕ) (ls : List (List ℕ)) → map (λ rest. front ++ rest) (map (λ rest. i ∷ rest) ls) ≡ map (λ rest. (front ++ i ∷ []) ++ rest) ls
map-one_more front i [] = refl
map-one_more front i (l ∷ ls) = (λ j. sym (append_assoc front (i ∷ []) l) j ∷ map-one_more front i ls j)

pub map-nothing : (ls : List (List ℕ)) → map (λ rest. [] ++ rest) ls ≡ ls
map-nothing [] = refl
map-nothing (l ∷ ls) = ap (λ x. l ∷ x) (map-nothing ls)

-- nothing passes where no list that begins so does
pub filter-none : (p : List ℕ → Bool) (front : List ℕ) (ls : List (List ℕ)) → ((rest : List ℕ) → p (front ++ rest) ≡ false) → filter p (map (λ rest. front ++ rest) ls) ≡ []
filter-none p front [] none = refl
filter-none p front (l ∷ ls) none = rw (none l) (filter-none p front ls none)

-- one number more
pub upto-more : (f : ℕ → List (List ℕ)) (n : ℕ) → upto f (n + 1) ≡ upto f n ++ f n
upto-more f n =
    let e : 0 + n ≡ n = omega arith in
    ap (flat_map f) (range-more 0 n ∙ ap (λ k. range_with_len 0 n ++ k ∷ []) e) ∙ flat_map-append f (range_with_len 0 n) (n ∷ []) ∙ ap (λ l. upto f n ++ l) (append-nil (f n))

-- numbers that give nothing
pub upto-same : (f : ℕ → List (List ℕ)) (n k : ℕ) → ((i : ℕ) → n ≤ i → i < n + k → f i ≡ []) → upto f (n + k) ≡ upto f n
upto-same f n zero none = let e : n + 0 ≡ n = omega arith in ap (upto f) e
upto-same f n (suc k) none =
    let e : n + suc k ≡ (n + k) + 1 = omega arith in
    ap (upto f) e ∙ upto-more f (n + k) ∙ ap (λ l. upto f (n + k) ++ l) (none (n + k) (omega arith) (omega arith)) ∙ append-nil (upto f (n + k))
    ∙ upto-same f n k (λ i from below. none i from (omega arith))

pub upto-until : (f : ℕ → List (List ℕ)) (n m : ℕ) → n ≤ m → ((i : ℕ) → n ≤ i → i < m → f i ≡ []) → upto f m ≡ upto f n
upto-until f n m le none = let e : m ≡ n + (m - n) = omega arith in ap (upto f) e ∙ upto-same f n (m - n) (λ i from below. none i from (omega arith))

-- the first of some, and of more after these
pub take-take_append : {X : Type 0} (n : ℕ) (xs ys : List X) → take n (take n xs ++ ys) ≡ take n (xs ++ ys)
take-take_append zero xs ys = refl
take-take_append (suc n) [] ys = refl
take-take_append (suc n) (x ∷ xs) ys = ap (λ l. x ∷ l) (take-take_append n xs ys)

-- a full list takes no more
pub take-full : {X : Type 0} (n : ℕ) (xs ys : List X) → length xs ≡ n → take n (xs ++ ys) ≡ xs
take-full n xs ys full = take-append-le n xs ys (omega arith) ∙ take_all n xs (omega arith)
