-- One more list after those that are kept one after the other, and the list at a position.
use Rattle.std.proofs.Common.{◌≡◌, ℕ, suc, ◌+◌, ◌-◌, ◌<◌, ◌≤◌, List, [], ◌∷◌, ◌++◌, length, take, drop, sym, ap, ◌∙◌, inl, inr, arith}
use Rattle.std.specs.Prelude.{slice_index, slice_index_or}
use Rattle.std.proofs.Math.Seq.{drop-append_seam}
use Rattle.std.proofs.lemmas.Bool.{cases_lt}
use Rattle.std.proofs.lemmas.List.{length_push, length-drop, length-take-le, drop-append-le, get_or_append_left, get_or_push, take-append-le, take_all, take-take, drop-take}
use Rattle.gl_segments.specs.bodies.Histories.{tabulated}
use Rattle.gl_segments.specs.bodies.Packing.{between, lists_between, AreBounds}
use Rattle.gl_segments.proofs.Tabulating.{length_tabulated, tabulated_at, tabulated_same}

-- there are as many as bounds but one
pub length_lists : {A : Type 0} (bounds : List ℕ) (xs : List A) → length (lists_between bounds xs) ≡ length bounds - 1
unfolding lists_between
length_lists bounds xs = length_tabulated (length bounds - 1) (λ i. between (slice_index bounds i) (slice_index bounds (i + 1)) xs)

-- the list at a position
pub list_at : {A : Type 0} (bounds : List ℕ) (xs : List A) (at : ℕ) → at < length bounds - 1 → slice_index_or (lists_between bounds xs) at [] ≡ between (slice_index bounds at) (slice_index bounds (at + 1)) xs
unfolding lists_between
list_at bounds xs at below = tabulated_at (length bounds - 1) (λ i. between (slice_index bounds i) (slice_index bounds (i + 1)) xs) at [] below

-- none, where there is one bound
pub no_lists : {A : Type 0} (bounds : List ℕ) (xs : List A) → length bounds ≡ 1 → lists_between bounds xs ≡ []
unfolding lists_between
no_lists bounds xs one = let none : length bounds - 1 ≡ 0 = omega arith in ap (λ k. tabulated k (λ i. between (slice_index bounds i) (slice_index bounds (i + 1)) xs)) none

-- what stands between two places is still there, once what stands after them has changed
between_kept : {A : Type 0} (a b s : ℕ) (xs ys : List A) → a ≤ b → b ≤ s → s ≤ length xs → between a b (take s xs ++ ys) ≡ between a b xs
between_kept a b s xs ys first second third =
    let front = drop-append-le a (take s xs) ys (let l = length-take-le s xs third in omega arith) in
    let split : s ≡ a + (s - a) = omega arith in
    let cut : drop a (take s xs) ≡ take (s - a) (drop a xs) = ap (λ k. drop a (take k xs)) split ∙ drop-take a (s - a) xs in
    let rest = length-drop a xs in
    ap (take (b - a)) (front ∙ ap (λ zs. zs ++ ys) cut) ∙ take-append-le (b - a) (take (s - a) (drop a xs)) ys (let l = length-take-le (s - a) (drop a xs) (omega arith) in omega arith)
    ∙ take-take (b - a) (s - a) (drop a xs) (omega arith)

-- what was put last
between_last : {A : Type 0} (s e : ℕ) (xs ys : List A) → s ≤ length xs → e ≡ s + length ys → between s e (take s xs ++ ys) ≡ ys
between_last s e xs ys within end =
    let size = length-take-le s xs within in
    let rest : drop s (take s xs ++ ys) ≡ ys = ap (λ k. drop k (take s xs ++ ys)) (sym size) ∙ drop-append_seam (take s xs) ys in
    ap (take (e - s)) rest ∙ take_all (e - s) ys (omega arith)

-- one more list
pub lists_push : {A : Type 0} (bounds : List ℕ) (xs ys : List A) (start e : ℕ) → AreBounds bounds (length xs) → start ≡ slice_index bounds (length bounds - 1) → e ≡ start + length ys
    → lists_between (bounds ++ e ∷ []) (take start xs ++ ys) ≡ lists_between bounds xs ++ ys ∷ []
unfolding lists_between
lists_push {A} bounds xs ys start e are is end =
    let n = length bounds - 1 in
    let bs = bounds ++ e ∷ [] in
    let zs : List A = take start xs ++ ys in
    let f : ℕ → List A = λ i. between (slice_index bounds i) (slice_index bounds (i + 1)) xs in
    let g : ℕ → List A = λ i. between (slice_index bs i) (slice_index bs (i + 1)) zs in
    let some = are.some in
    let longer = length_push bounds e in
    let more : length bs - 1 ≡ suc n = omega arith in
    let old : (i : ℕ) → i < length bounds → slice_index bs i ≡ slice_index bounds i = λ i below. get_or_append_left bounds (e ∷ []) 0 i below in
    let front : tabulated n g ≡ tabulated n f = tabulated_same n g f (λ i below.
    ap (λ a. between a (slice_index bs (i + 1)) zs) (old i (omega arith)) ∙ ap (λ b. between (slice_index bounds i) b zs) (old (i + 1) (omega arith))
    ∙ between_kept (slice_index bounds i) (slice_index bounds (i + 1)) start xs ys (are.rising i (omega arith)) (let u = are.up_to_last (i + 1) (omega arith) in omega arith) (let w = are.within in omega arith)) in
    let last_start : slice_index bs n ≡ start = old n (omega arith) ∙ sym is in
    let last_end : slice_index bs (n + 1) ≡ e = get_or_push bounds e 0 (n + 1) (omega arith) in
    let last : g n ≡ ys = ap (λ a. between a (slice_index bs (n + 1)) zs) last_start ∙ ap (λ b. between start b zs) last_end ∙ between_last start e xs ys (let w = are.within in omega arith) end in
    ap (λ k. tabulated k g) more ∙ ap (λ ls. ls ++ g n ∷ []) front ∙ ap (λ l. tabulated n f ++ l ∷ []) last

-- one more bound
pub bounds_push : (bounds : List ℕ) (n e m : ℕ) → AreBounds bounds n → slice_index bounds (length bounds - 1) ≤ e → e ≤ m → AreBounds (bounds ++ e ∷ []) m
bounds_push bounds n e m are above within =
    let longer = length_push bounds e in
    let old : (i : ℕ) → i < length bounds → slice_index (bounds ++ e ∷ []) i ≡ slice_index bounds i = λ i below. get_or_append_left bounds (e ∷ []) 0 i below in
    let some = are.some in
    let at_end : slice_index (bounds ++ e ∷ []) (length (bounds ++ e ∷ []) - 1) ≡ e = get_or_push bounds e 0 (length (bounds ++ e ∷ []) - 1) (omega arith) in
    record {
      some = omega arith;
      rising = λ i below.
          elim (cases_lt (i + 1) (length bounds)) [
            | inl lower ↦ let a = old i (omega arith) in let b = old (i + 1) lower in let r = are.rising i lower in omega arith
            | inr upper ↦
                let a = old i (omega arith) in
                let b : slice_index (bounds ++ e ∷ []) (i + 1) ≡ e = get_or_push bounds e 0 (i + 1) (omega arith) in
                let u = are.up_to_last i (omega arith) in
                omega arith
          ];
      up_to_last = λ i below.
          elim (cases_lt i (length bounds)) [
            | inl lower ↦ let a = old i lower in let u = are.up_to_last i lower in omega arith
            | inr upper ↦ let b : slice_index (bounds ++ e ∷ []) i ≡ e = get_or_push bounds e 0 i (omega arith) in omega arith
          ];
      within = omega arith;
    }

-- the bounds of what is no shorter than they say
pub bounds_within : (bounds : List ℕ) (n m : ℕ) → AreBounds bounds n → slice_index bounds (length bounds - 1) ≤ m → AreBounds bounds m
bounds_within bounds n m are within = record { some = are.some; rising = are.rising; up_to_last = are.up_to_last; within = within }

-- the bound of no lists
pub bounds_begin : (bounds : List ℕ) (m : ℕ) → bounds ≡ 0 ∷ [] → AreBounds bounds m
bounds_begin bounds m is = rw is (record { some = omega arith; rising = λ i below. absurd (omega arith); up_to_last = λ i below. (let e : i ≡ 0 = omega arith in rw e (omega arith)); within = omega arith })
