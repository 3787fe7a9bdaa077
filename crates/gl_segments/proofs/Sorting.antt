-- Growths sorted by thread count the same, and the last one up to a segment is found among them.
use Rattle.std.proofs.Common.{◌≡◌, ◌≢◌, ℕ, ◌+◌, ◌<◌, ◌≤◌, Bool, true, false, cond, eqb, not, ◌&&◌, List, [], ◌∷◌, length, refl, sym, ap, ◌∙◌, inl, inr, arith}
use Rattle.std.specs.Prelude.{filter, slice_index, slice_index_or}
use Rattle.std.specs.Ordering.{nat_cmp, is_lt}
use Rattle.std.specs.List.Sorted.{IsNonDecreasingBy, IsSortedByKey, IsStableByKey}
use Rattle.std.proofs.lemmas.Bool.{cases_eq}
use Rattle.std.proofs.lemmas.Bool.Decides.{nat_tests}
use Rattle.std.proofs.lemmas.List.Elements.{filter_agree}
use Rattle.std.proofs.lemmas.List.Sorted.{ties_still_rise, IsNonDecreasingBy-from_sort}
use Rattle.gl_segments.specs.declared.growths.Growth.{Growth}
use Rattle.gl_segments.specs.bodies.Histories.{is_past, last_count, count_at, count_along, clocks_along, tabulated, AreOrdered, Tells}
use Rattle.gl_segments.proofs.Tabulating.{tabulated_is}

-- a filter of what a weaker one keeps
one_filtered : (p q : Growth → Bool) (g : Growth) (gs : List Growth) (b k : Bool) → p g ≡ b → q g ≡ k → (b ≡ true → k ≡ true) → filter p (filter q gs) ≡ filter p gs
    → filter p (cond (q g) (g ∷ filter q gs) (filter q gs)) ≡ cond (p g) (g ∷ filter p gs) (filter p gs)
one_filtered p q g gs b true is kept weaker rest = rw (kept, rest)
one_filtered p q g gs false false is kept weaker rest = rw (kept, is) rest
one_filtered p q g gs true false is kept weaker rest = absurd (let k = weaker refl in cc)

filter_twice : (p q : Growth → Bool) → ((g : Growth) → p g ≡ true → q g ≡ true) → (gs : List Growth) → filter p (filter q gs) ≡ filter p gs
filter_twice p q weaker [] = refl
filter_twice p q weaker (g ∷ gs) = one_filtered p q g gs (p g) (q g) refl refl (weaker g) (filter_twice p q weaker gs)

-- growths of one thread stand in both lists in one order: the counts are the same
pub same_counts : (first : ℕ) (xs ys : List Growth) (index thread : ℕ) → IsStableByKey (λ (g : Growth). g.thread) nat_cmp xs ys → count_at first ys index thread ≡ count_at first xs index thread
unfolding count_at
same_counts first xs ys index thread stable =
    let one : Growth = record { thread = thread; from = 0; count = 0 } in
    let of_thread : Growth → Bool = λ g. eqb g.thread thread in
    let agrees = λ (zs : List Growth). filter_agree of_thread _ (λ (g : Growth). tie thread g.thread) zs in
    let kept : filter of_thread ys ≡ filter of_thread xs = agrees ys ∙ stable one ∙ sym (agrees xs) in
    let weaker : (g : Growth) → is_past index thread g ≡ true → of_thread g ≡ true = λ g past. and_left g past in
    ap (last_count first) (sym (filter_twice (is_past index thread) of_thread weaker ys) ∙ ap (filter (is_past index thread)) kept ∙ filter_twice (is_past index thread) of_thread weaker xs)
  where
    tie : (a b : ℕ) → eqb b a ≡ not (is_lt (nat_cmp a b)) && not (is_lt (nat_cmp b a))
    tie a b = grind (arith, nat_tests)

    and_left : (g : Growth) → is_past index thread g ≡ true → eqb g.thread thread ≡ true
    and_left g past = grind (arith, nat_tests)

-- each is sorted where no number is below the one before it
sorted_by : (n : Growth → ℕ) (xs : List Growth) → IsNonDecreasingBy n xs → IsSortedByKey n nat_cmp xs
sorted_by n xs rises k d low high = not_below (n (slice_index_or xs (k + 1) d)) (n (slice_index_or xs k d)) (rises k (k + 1) d (omega arith) (omega arith))
  where
    not_below : (a b : ℕ) → b ≤ a → is_lt (nat_cmp a b) ≡ false
    not_below a b h = grind (arith, nat_tests)

-- a stable sort by thread of growths that stand by segment orders them
pub sort_orders : (xs ys : List Growth) → IsNonDecreasingBy (λ (g : Growth). g.from) xs → IsSortedByKey (λ (g : Growth). g.thread) nat_cmp ys → IsStableByKey (λ (g : Growth). g.thread) nat_cmp xs ys → AreOrdered ys
sort_orders xs ys rises sorted stable = record {
  next = λ k d within.
      let up = IsNonDecreasingBy-from_sort (λ (g : Growth). g.thread) ys sorted k (k + 1) d (omega arith) within in
      elim (cases_eq (slice_index_or ys k d).thread (slice_index_or ys (k + 1) d).thread) [
        | inl same ↦ inr (same, ties_still_rise (λ (g : Growth). g.from) (λ (g : Growth). g.thread) xs ys (sorted_by (λ (g : Growth). g.from) xs rises) stable k d within same)
        | inr apart ↦ inl (let thread_apart = apart in omega arith)
      ];
}

-- what growths that tell clocks tell, after they were sorted
pub told_clocks : (own : ℕ) (first : List ℕ) (xs ys : List Growth) (latest : List ℕ) (clocks : List (List ℕ)) (segments : ℕ) → segments ≡ length clocks → Tells own first xs latest clocks
    → IsStableByKey (λ (g : Growth). g.thread) nat_cmp xs ys → clocks_along own segments (length latest) first ys ≡ clocks
unfolding clocks_along
told_clocks own first xs ys latest clocks segments size told stable =
    tabulated_is clocks (λ index. tabulated (length latest) (count_along own first ys index)) [] segments (sym size)
    (λ index below.
    let here : index < length clocks = omega arith in
    tabulated_is (slice_index_or clocks index []) (count_along own first ys index) 0 (length latest) (told.widths index here)
    (λ thread within.
    elim (cases_eq thread own) [
      | inl same ↦ rw (eqb_is thread own same) (sym (ap (slice_index (slice_index_or clocks index [])) same ∙ told.own_counts index here))
      | inr other ↦ rw (eqb_not thread own other) (same_counts (slice_index first thread) xs ys index thread stable ∙ told.each index thread here other)
    ]))
  where
    eqb_is : (a b : ℕ) → a ≡ b → eqb a b ≡ true
    eqb_is a b same = grind arith

    eqb_not : (a b : ℕ) → a ≢ b → eqb a b ≡ false
    eqb_not a b apart = grind arith
