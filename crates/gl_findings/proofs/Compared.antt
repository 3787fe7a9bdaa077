-- What tests of signatures and of cycles tell.
use Rattle.std.proofs.Common.{◌≡◌, ℕ, ◌+◌, ◌<◌, Bool, true, false, List, [], ◌∷◌, ◌++◌, refl, sym, ap, ◌∙◌, arith}
use Rattle.std.specs.Cmp.{upto}
use Rattle.std.specs.Cmp.Lexicographic.{slice_cmp, nat_list_cmp_total}
use Rattle.std.specs.List.{list_all, range_with_len}
use Rattle.std.specs.Ordering.{nat_cmp, is_le, is_gt, ordering_reverse}
use Rattle.std.specs.declared.cmp.Ordering.{Ordering}
use Rattle.std.specs.declared.cmp.Ordering.TheVariants.{Less, Equal, Greater}
use Rattle.std.proofs.lemmas.Bool.{and_from, false≢true}
use Rattle.gl_edges.proofs.Membership.{contains_range}
use Rattle.gl_filters.proofs.Paths.{list_all_push}
use Rattle.gl_index.proofs.Lists.{range-more}
use Rattle.gl_findings.proofs.Below.{not_all}

pub above : (o : Ordering) → is_gt o ≡ true → is_le o ≡ false
above Less is = absurd (false≢true is)
above Equal is = absurd (false≢true is)
above Greater is = refl

pub not_above : (o : Ordering) → is_gt o ≡ false → is_le o ≡ true
not_above Less is = refl
not_above Equal is = refl
not_above Greater is = absurd (false≢true (sym is))

pub upmost : (o : Ordering) → is_le o ≡ true → is_gt o ≡ false
upmost Less is = refl
upmost Equal is = refl
upmost Greater is = absurd (false≢true is)

-- one more number passes
pub all_below_more : (p : ℕ → Bool) (k : ℕ) → list_all p (range_with_len 0 k) ≡ true → p k ≡ true → list_all p (range_with_len 0 (k + 1)) ≡ true
all_below_more p k so_far here =
    let e : 0 + k ≡ k = omega arith in
    ap (list_all p) (range-more 0 k ∙ ap (λ n. range_with_len 0 k ++ n ∷ []) e) ∙ list_all_push p (range_with_len 0 k) k ∙ and_from _ _ so_far here

-- one does not pass
pub not_all_below : (p : ℕ → Bool) (n k : ℕ) → k < n → p k ≡ false → list_all p (range_with_len 0 n) ≡ false
not_all_below p n k below fails = not_all p k (range_with_len 0 n) (contains_range 0 n k (omega arith) (omega arith)) fails

-- the order of cycles goes on from one to the next
pub le_trans : (a b c : List ℕ) → is_le (slice_cmp nat_cmp a b) ≡ true → is_le (slice_cmp nat_cmp b c) ≡ true → is_le (slice_cmp nat_cmp a c) ≡ true
le_trans a b c one other = not_above (slice_cmp nat_cmp a c) (upto nat_list_cmp_total a b c (upmost (slice_cmp nat_cmp a b) one) (upmost (slice_cmp nat_cmp b c) other))

turned_back : (o : Ordering) → is_le o ≡ false → is_le (ordering_reverse o) ≡ true
turned_back Less is = absurd (false≢true (sym is))
turned_back Equal is = absurd (false≢true (sym is))
turned_back Greater is = refl

-- and of two one is not above the other
pub le_other : (a b : List ℕ) → is_le (slice_cmp nat_cmp a b) ≡ false → is_le (slice_cmp nat_cmp b a) ≡ true
le_other a b above = ap is_le (nat_list_cmp_total.antisymm b a) ∙ turned_back (slice_cmp nat_cmp a b) above
