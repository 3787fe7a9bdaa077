-- Values beside the data that they stand for.
use Rattle.std.proofs.Common.{◌≡◌, ℕ, zero, suc, ◌+◌, ◌<◌, Bool, true, false, ◌&&◌, List, [], ◌∷◌, ◌++◌, length, take, drop, drop-cons, get_or, map, Some, refl, sym, ap, subst, ◌∙◌, arith}
use Rattle.std.specs.Prelude.{slice_get}
use Rattle.std.specs.List.{list_all, AllZip}
use Rattle.std.proofs.lemmas.Bool.{and_parts}
use Rattle.std.proofs.lemmas.List.{map_more}
use Rattle.std.proofs.lemmas.Slice.Zip.{all_zipped_more}
use Rattle.std.proofs.lemmas.List.Folds.{list_all_more, list_all_at, list_all-map}
use Rattle.serde_json.specs.Data.{Data, Members}
use Rattle.serde_json.specs.View.{items_of}
use Rattle.gl_check.specs.Shape.{have_fields, items_listed}
use Rattle.gl_check.specs.declared.fields.Kind.{Kind}

-- the items of an array that was made of a list
pub listed_items_of : (ds : List Data) → items_listed (items_of ds) ≡ ds
listed_items_of [] = refl
listed_items_of (d ∷ ds) = ap (λ l. d ∷ l) (listed_items_of ds)

-- a test that each item so far passes, and one more
pub all_more : {X Y : Type 0} (p : Y → Bool) (f : X → Y) (xs : List X) (i : ℕ) (d x : X) → i < length xs → x ≡ get_or xs i d
    → list_all p (map f (take i xs)) ≡ true → p (f x) ≡ true → list_all p (map f (take (i + 1) xs)) ≡ true
all_more p f xs i d x within is before now =
    list_all-map p f (take (i + 1) xs) ∙ list_all_more (λ y. p (f y)) xs i d within
    ∙ ap (λ b. b && p (f (get_or xs i d))) (sym (list_all-map p f (take i xs)) ∙ before) ∙ ap (λ y. p (f y)) (sym is) ∙ now

-- an item fails it
pub not_all : {X Y : Type 0} (p : Y → Bool) (f : X → Y) (xs : List X) (i : ℕ) (d x : X) → i < length xs → x ≡ get_or xs i d → p (f x) ≡ false → list_all p (map f xs) ≡ false
not_all p f xs i d x within is fails = list_all-map p f xs ∙ list_all_at (λ y. p (f y)) xs i d within (ap (λ y. p (f y)) (sym is) ∙ fails)

-- the members that are left after one more field
pub fields_more : {X : Type 0} (f : X → List ℕ × Kind) (xs : List X) (i : ℕ) (d : X) (members rest : Members) (was has : Bool) → i < length xs → was ≡ have_fields (map f (drop i xs)) members
    → ((fields : List (List ℕ × Kind)) → have_fields (f (get_or xs i d) ∷ fields) members ≡ (has && have_fields fields rest)) → was ≡ (has && have_fields (map f (drop (i + 1) xs)) rest)
fields_more f xs i d members rest was has within before step =
    let same : suc i ≡ i + 1 = omega arith in
    before ∙ ap (λ l. have_fields (map f l) members) (drop-cons xs i d within ∙ ap (λ n. get_or xs i d ∷ drop n xs) same) ∙ step (map f (drop (i + 1) xs))

-- each item passes a test that all pass
pub all_at : {X Y : Type 0} (p : Y → Bool) (f : X → Y) (xs : List X) (i : ℕ) (x : X) → list_all p (map f xs) ≡ true → i < length xs → x ≡ get_or xs i x → p (f x) ≡ true
all_at p f [] i x all within is = absurd (omega arith)
all_at p f (y ∷ xs) zero x all within is = ap (λ z. p (f z)) is ∙ (and_parts (p (f y)) (list_all p (map f xs)) all).0
all_at p f (y ∷ xs) (suc i) x all within is = all_at p f xs i x (and_parts (p (f y)) (list_all p (map f xs)) all).1 (omega arith) is

-- an item, seen through a function
pub mapped_at : {X Y : Type 0} (f : X → Y) (xs : List X) (i : ℕ) (x : X) → i < length xs → x ≡ get_or xs i x → slice_get (map f xs) i ≡ Some (f x)
mapped_at f [] i x within is = absurd (omega arith)
mapped_at f (y ∷ xs) zero x within is = ap (λ z. Some (f z)) (sym is)
mapped_at f (y ∷ xs) (suc i) x within is = mapped_at f xs i x (omega arith) is

-- one pair more
pub zip_more : {X Y Z : Type 0} (R : Y → Z → Type 0) (f : X → Y) (xs : List X) (zs : List Z) (i : ℕ) (x : X) (z : Z) → i < length xs → x ≡ get_or xs i x
    → AllZip R (map f (take i xs)) zs → R (f x) z → AllZip R (map f (take (i + 1) xs)) (zs ++ z ∷ [])
zip_more R f xs zs i x z within is before now =
    subst (λ l. AllZip R l (zs ++ z ∷ [])) (ap (λ y. map f (take i xs) ++ f y ∷ []) is ∙ sym (map_more f xs i x within)) (all_zipped_more R (map f (take i xs)) zs (f x) z before now)
