-- Growths in short, and the growths that they stand for.
use Rattle.std.proofs.Common.{◌≡◌, ℕ, ◌+◌, ◌<◌, ◌≤◌, Bool, true, false, List, [], ◌∷◌, ◌++◌, length, take, sym, ap, subst, ◌∙◌, arith}
use Rattle.std.specs.Prelude.{map, slice_index_or}
use Rattle.std.specs.List.{list_all}
use Rattle.std.specs.List.Sorted.{IsPartitionedBy, IsPartitionPoint}
use Rattle.std.proofs.lemmas.List.{get_or-map, length-map, map_push, take_more}
use Rattle.std.proofs.lemmas.List.Sums.{AllPass-from_list_all}
use Rattle.gl_segments.specs.declared.growths.Growth.{Growth}
use Rattle.gl_segments.specs.declared.growths.ShortGrowth.{ShortGrowth}
use Rattle.gl_segments.specs.bodies.Growths.{is_short, long}

-- one of growths that are all short
pub short_at : (gs : List Growth) (i : ℕ) (g : Growth) → list_all is_short gs ≡ true → i < length gs → g ≡ slice_index_or gs i g → is_short g ≡ true
short_at gs i g all below is = subst (λ x. is_short x ≡ true) (sym is) (AllPass-from_list_all is_short gs all i g below)

-- one more in short
pub short_more : (gs : List Growth) (short : List ShortGrowth) (i : ℕ) (g : Growth) (s : ShortGrowth) → i < length gs → g ≡ slice_index_or gs i g → long s ≡ g → map long short ≡ take i gs
    → map long (short ++ s ∷ []) ≡ take (i + 1) gs
short_more gs short i g s below is same so_far =
    map_push long short s ∙ ap (λ xs. xs ++ long s ∷ []) so_far ∙ ap (λ x. take i gs ++ x ∷ []) (same ∙ is) ∙ sym (take_more gs i g below)

module _ (p : Growth → Bool) (short : List ShortGrowth) where
  -- growths in short are parted as those that they stand for
  pub parted_short : IsPartitionedBy p (map long short) → IsPartitionedBy (λ s. p (long s)) short
  parted_short parts i j d le within holds =
      let size = length-map short long in
      let there = get_or-map long short j d (long d) within in
      let here = get_or-map long short i d (long d) (omega arith) in
      subst (λ g. p g ≡ true) here (parts i j (long d) le (omega arith) (subst (λ g. p g ≡ true) (sym there) holds))

  -- and at the same place
  pub point_long : (n : ℕ) → n ≤ length short → IsPartitionPoint (λ s. p (long s) ≡ true) (λ s. p (long s) ≡ false) short n → IsPartitionPoint (λ g. p g ≡ true) (λ g. p g ≡ false) (map long short) n
  point_long n bound point =
      let size = length-map short long in
      let none : ShortGrowth = record { thread = 0; from = 0; count = 0 } in (
        λ k d from below. subst (λ g. p g ≡ true) (sym (get_or-map long short k none d (omega arith))) (point.0 k none from below),
        λ k d from below. subst (λ g. p g ≡ false) (sym (get_or-map long short k none d (omega arith))) (point.1 k none from (omega arith)),
      )
