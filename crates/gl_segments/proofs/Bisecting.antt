-- The last growth up to a segment, found by halving.
use Rattle.std.proofs.Common.{◌≡◌, ◌≢◌, ℕ, zero, suc, ◌+◌, ◌-◌, ◌<◌, ◌≤◌, true, false, List, [], ◌∷◌, ◌++◌, length, take, sym, ap, subst, ◌∙◌, inl, inr, arith}
use Rattle.std.specs.Prelude.{slice_index_or}
use Rattle.std.specs.List.Sorted.{IsPartitionedBy, IsPartitionPoint}
use Rattle.std.proofs.lemmas.Bool.{cases_lt}
use Rattle.std.proofs.lemmas.Bool.Decides.{nat_tests}
use Rattle.std.proofs.lemmas.List.{take_more, take_all}
use Rattle.gl_segments.specs.declared.growths.Growth.{Growth}
use Rattle.gl_segments.specs.bodies.Histories.{is_past, is_up_to, count_at, IsAtMost, AreOrdered}
use Rattle.gl_segments.proofs.Noting.{count_this, count_other, count_none}

at_most_same : (g h : Growth) → g ≡ h → IsAtMost g h
at_most_same g h same = inr (ap (λ x. x.thread) same, let e = ap (λ x. x.from) same in omega arith)

at_most_trans : (a b c : Growth) → IsAtMost a b → IsAtMost b c → IsAtMost a c
at_most_trans a b c (inl x) (inl y) = inl (omega arith)
at_most_trans a b c (inl x) (inr y) = inl (let e = y.0 in omega arith)
at_most_trans a b c (inr x) (inl y) = inl (let e = x.0 in omega arith)
at_most_trans a b c (inr x) (inr y) = inr (x.0 ∙ y.0, let d = x.1 in let e = y.1 in omega arith)

-- ordered growths are so at any distance
pairs : (gs : List Growth) → AreOrdered gs → (i j : ℕ) (d : Growth) → i ≤ j → j < length gs → IsAtMost (slice_index_or gs i d) (slice_index_or gs j d)
pairs gs ordered i zero d le within = at_most_same _ _ (let e : i ≡ 0 = omega arith in ap (λ k. slice_index_or gs k d) e)
pairs gs ordered i (suc j) d le within =
    elim (cases_lt i (suc j)) [
      | inl lower ↦
          let one : j + 1 ≡ suc j = omega arith in
          at_most_trans (slice_index_or gs i d) (slice_index_or gs j d) (slice_index_or gs (suc j) d) (pairs gs ordered i j d (omega arith) (omega arith))
          (subst (λ k. IsAtMost (slice_index_or gs j d) (slice_index_or gs k d)) one (ordered.next j d (omega arith)))
      | inr upper ↦ at_most_same _ _ (let e : i ≡ suc j = omega arith in ap (λ k. slice_index_or gs k d) e)
    ]

up_to_lesser : (index thread : ℕ) (g h : Growth) → IsAtMost g h → is_up_to index thread h ≡ true → is_up_to index thread g ≡ true
up_to_lesser index thread g h (inl lesser) up = grind (arith, nat_tests)
up_to_lesser index thread g h (inr (same, earlier)) up = grind (arith, nat_tests)

-- no growth that isn't up to a segment stands before one that is
pub parted : (gs : List Growth) → AreOrdered gs → (index thread : ℕ) → IsPartitionedBy (is_up_to index thread) gs
parted gs ordered index thread i j d le within up = up_to_lesser index thread (slice_index_or gs i d) (slice_index_or gs j d) (pairs gs ordered i j d le within) up

-- growths from n on that don't count leave the count as it is
count_rest : (first : ℕ) (gs : List Growth) (index thread n m : ℕ) (d : Growth) → n + m ≤ length gs → ((k : ℕ) → n ≤ k → k < n + m → is_past index thread (slice_index_or gs k d) ≡ false)
    → count_at first (take (n + m) gs) index thread ≡ count_at first (take n gs) index thread
count_rest first gs index thread n zero d within none = let e : n + 0 ≡ n = omega arith in ap (λ k. count_at first (take k gs) index thread) e
count_rest first gs index thread n (suc m) d within none =
    let e : n + suc m ≡ (n + m) + 1 = omega arith in
    ap (λ k. count_at first (take k gs) index thread) e ∙ ap (λ xs. count_at first xs index thread) (take_more gs (n + m) d (omega arith))
    ∙ count_other first (take (n + m) gs) (slice_index_or gs (n + m) d) index thread (none (n + m) (omega arith) (omega arith))
    ∙ count_rest first gs index thread n m d (omega arith) (λ k le below. none k le (omega arith))

-- where none from n on counts
count_front : (first : ℕ) (gs : List Growth) (index thread n : ℕ) (d : Growth) → n ≤ length gs → ((k : ℕ) → n ≤ k → k < length gs → is_past index thread (slice_index_or gs k d) ≡ false)
    → count_at first gs index thread ≡ count_at first (take n gs) index thread
count_front first gs index thread n d within none =
    let e : n + (length gs - n) ≡ length gs = omega arith in
    ap (λ xs. count_at first xs index thread) (sym (take_all (n + (length gs - n)) gs (omega arith))) ∙ count_rest first gs index thread n (length gs - n) d (omega arith) (λ k le below. none k le (omega arith))

not_up_to : (index thread : ℕ) (g : Growth) → is_up_to index thread g ≡ false → is_past index thread g ≡ false
not_up_to index thread g is_not = grind (arith, nat_tests)

lesser_not : (index thread : ℕ) (g : Growth) → g.thread < thread → is_past index thread g ≡ false
lesser_not index thread g less = grind (arith, nat_tests)

up_to_this : (index thread : ℕ) (g : Growth) → is_up_to index thread g ≡ true → g.thread ≡ thread → is_past index thread g ≡ true
up_to_this index thread g up same = grind (arith, nat_tests)

up_to_other : (index thread : ℕ) (g : Growth) → is_up_to index thread g ≡ true → g.thread ≢ thread → g.thread < thread
up_to_other index thread g up other = grind (arith, nat_tests)

at_most_thread : (g h : Growth) → IsAtMost g h → g.thread ≤ h.thread
at_most_thread g h (inl less) = omega arith
at_most_thread g h (inr (same, earlier)) = omega arith

module _ (first : ℕ) (gs : List Growth) (index thread until : ℕ) (within : until ≤ length gs)
    (point : IsPartitionPoint (λ y. is_up_to index thread y ≡ true) (λ y. is_up_to index thread y ≡ false) gs until) where
  rest_not : (k : ℕ) (d : Growth) → until ≤ k → k < length gs → is_past index thread (slice_index_or gs k d) ≡ false
  rest_not k d le below = not_up_to index thread (slice_index_or gs k d) (point.1 k d le below)

  -- no growth is up to the segment
  pub count_before_all : until ≡ 0 → count_at first gs index thread ≡ first
  count_before_all none =
      let d : Growth = record { thread = 0; from = 0; count = 0 } in
      count_front first gs index thread 0 d (omega arith) (λ k le below. rest_not k d (omega arith) below) ∙ count_none first index thread

  module _ (last : Growth) (some : 0 < until) (is : last ≡ slice_index_or gs (until - 1) last) where
    last_up_to : is_up_to index thread last ≡ true
    last_up_to = subst (λ g. is_up_to index thread g ≡ true) (sym is) (point.0 (until - 1) last (omega arith) (omega arith))

    -- the last one that is up to it is of the thread
    pub count_of_last : last.thread ≡ thread → count_at first gs index thread ≡ last.count
    count_of_last same =
        let all : (until - 1) + 1 ≡ until = omega arith in
        count_front first gs index thread until last within (λ k le below. rest_not k last le below) ∙ ap (λ n. count_at first (take n gs) index thread) (sym all)
        ∙ ap (λ xs. count_at first xs index thread) (take_more gs (until - 1) last (omega arith)) ∙ ap (λ g. count_at first (take (until - 1) gs ++ g ∷ []) index thread) (sym is)
        ∙ count_this first (take (until - 1) gs) last index thread (up_to_this index thread last last_up_to same)

    -- the last one that is up to it is of a lesser thread
    pub count_without : AreOrdered gs → last.thread ≢ thread → count_at first gs index thread ≡ first
    count_without ordered other =
        let lesser = up_to_other index thread last last_up_to other in
        count_front first gs index thread 0 last (omega arith)
        (λ k le below.
        elim (cases_lt k until) [
          | inl lower ↦
              let pair = subst (IsAtMost (slice_index_or gs k last)) (sym is) (pairs gs ordered k (until - 1) last (omega arith) (omega arith)) in
              lesser_not index thread (slice_index_or gs k last) (let t = at_most_thread (slice_index_or gs k last) last pair in omega arith)
          | inr upper ↦ rest_not k last upper below
        ])
        ∙ count_none first index thread
