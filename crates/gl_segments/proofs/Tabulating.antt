-- Lists that are made of f 0, f 1 and so on.
use Rattle.std.proofs.Common.{◌≡◌, ℕ, zero, suc, ◌<◌, ◌≤◌, List, [], ◌∷◌, length, take, refl, ap, ◌∙◌, inl, inr, arith}
use Rattle.std.specs.Prelude.{slice_index_or}
use Rattle.std.proofs.Math.Seq.{take-suc}
use Rattle.std.proofs.lemmas.Bool.{cases_lt}
use Rattle.std.proofs.lemmas.List.{length_push, get_or_append_left, get_or_push, get_or_past, take_all}
use Rattle.gl_segments.specs.bodies.Histories.{tabulated}

-- there are n of them
pub length_tabulated : {A : Type 0} (n : ℕ) (f : ℕ → A) → length (tabulated n f) ≡ n
length_tabulated zero f = refl
length_tabulated (suc n) f = let r = length_tabulated n f in let p = length_push (tabulated n f) (f n) in omega arith

-- the one at an index
pub tabulated_at : {A : Type 0} (n : ℕ) (f : ℕ → A) (i : ℕ) (d : A) → i < n → slice_index_or (tabulated n f) i d ≡ f i
tabulated_at zero f i d h = absurd (omega arith)
tabulated_at (suc n) f i d h =
    elim (cases_lt i n) [
      | inl lower ↦ get_or_append_left (tabulated n f) (f n ∷ []) d i (let s = length_tabulated n f in omega arith) ∙ tabulated_at n f i d lower
      | inr upper ↦ let last : n ≡ i = omega arith in get_or_push (tabulated n f) (f n) d i (length_tabulated n f ∙ last) ∙ ap f last
    ]

-- there is none past the last
pub tabulated_past : {A : Type 0} (n : ℕ) (f : ℕ → A) (i : ℕ) (d : A) → n ≤ i → slice_index_or (tabulated n f) i d ≡ d
tabulated_past n f i d h = get_or_past (tabulated n f) i d (let s = length_tabulated n f in omega arith)

-- a list is made of its own elements
first_ones : {A : Type 0} (xs : List A) (f : ℕ → A) (d : A) (n : ℕ) → n ≤ length xs → ((i : ℕ) → i < n → f i ≡ slice_index_or xs i d) → tabulated n f ≡ take n xs
first_ones xs f d zero h same = refl
first_ones xs f d (suc n) h same =
    let front = first_ones xs f d n (omega arith) (λ i below. same i (omega arith)) in
    let last = same n (omega arith) in
    let more = take-suc xs n d (omega arith) in
    cc

pub tabulated_is : {A : Type 0} (xs : List A) (f : ℕ → A) (d : A) (n : ℕ) → length xs ≡ n → ((i : ℕ) → i < n → f i ≡ slice_index_or xs i d) → tabulated n f ≡ xs
tabulated_is xs f d n size same = first_ones xs f d n (omega arith) same ∙ take_all n xs (omega arith)

-- where f and g are the same, so is what is made of them
pub tabulated_same : {A : Type 0} (n : ℕ) (f g : ℕ → A) → ((i : ℕ) → i < n → f i ≡ g i) → tabulated n f ≡ tabulated n g
tabulated_same zero f g same = refl
tabulated_same (suc n) f g same =
    let front = tabulated_same n f g (λ i below. same i (omega arith)) in
    let last = same n (omega arith) in
    cc
