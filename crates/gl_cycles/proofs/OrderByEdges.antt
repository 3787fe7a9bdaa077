-- Over edges that ascend, cycles are ordered by their edges as they are by their positions.
use Rattle.std.proofs.Common.{◌≡◌, ℕ, ◌<◌, Bool, List, [], ◌∷◌, length, map, Some, refl, sym, ap, ◌∙◌}
use Rattle.std.specs.declared.cmp.Ordering.{Ordering}
use Rattle.std.specs.declared.cmp.Ordering.TheVariants.{Less, Equal, Greater}
use Rattle.std.specs.Prelude.{All, Contains, slice_get}
use Rattle.std.specs.List.{AllByRecursion}
use Rattle.std.specs.List.Sorted.{IsStrictlySortedBy}
use Rattle.std.specs.Ordering.{nat_cmp, ordering_then, MatchOrdering}
use Rattle.std.specs.Cmp.{ranks}
use Rattle.std.specs.Cmp.Lexicographic.{slice_cmp}
use Rattle.std.proofs.lemmas.Cmp.{tied_itself}
use Rattle.std.proofs.lemmas.List.Elements.{All-head, All-tail}
use Rattle.std.proofs.lemmas.Map.Keys.{Less-from_sorted}
use Rattle.std.proofs.lemmas.Option.{slice_get-get_or}
use Rattle.gl_event.specs.declared.events.Segment.{Segment}
use Rattle.gl_edges.specs.Order.{edge_cmp}
use Rattle.gl_edges.specs.declared.edge.Edge.{Edge}
use Rattle.gl_edges.proofs.Membership.{contains_here, contains_later}
use Rattle.gl_edges.proofs.Orders.{edge_cmp_total}
use Rattle.gl_filters.specs.declared.query.Mode.{Mode}
use Rattle.gl_filters.specs.Picked.{picked}
use Rattle.gl_cycles.specs.AllCycles.{all_cycles}
use Rattle.gl_cycles.proofs.CyclesAscend.{cycles_ascend}
use Rattle.gl_index.proofs.Lists.{element_at}
use Rattle.gl_cycles.proofs.EdgesOfPaths.{picked-cons}
use Rattle.gl_cycles.proofs.AmongAllCycles.{there_is_cycle}

module _ (edges : List Edge) (ascend : IsStrictlySortedBy edge_cmp edges) where
  -- the edges of lists that begin with two positions, by the order of these
  by_first : (o : Ordering) (x y : ℕ) (xs ys : List ℕ) → nat_cmp x y ≡ o → x < length edges → y < length edges
      → MatchOrdering o (x < y) (x ≡ y) (y < x) → ordering_then o (slice_cmp nat_cmp xs ys) ≡ Less
      → (slice_cmp nat_cmp xs ys ≡ Less → slice_cmp edge_cmp (picked edges xs) (picked edges ys) ≡ Less)
      → slice_cmp edge_cmp (picked edges (x ∷ xs)) (picked edges (y ∷ ys)) ≡ Less
  by_first Less x y xs ys is here there lesser less rest =
      let e = element_at edges x here in
      let at_x = slice_get-get_or edges x e.0 here in
      let at_y = slice_get-get_or edges y e.0 there in
      let below = Less-from_sorted edge_cmp edges x y e.0 ascend lesser there in
      (λ i. slice_cmp edge_cmp (picked-cons edges x xs _ at_x i) (picked-cons edges y ys _ at_y i))
      ∙ ap (λ o. ordering_then o (slice_cmp edge_cmp (picked edges xs) (picked edges ys))) below
  by_first Equal x y xs ys is here there same less rest =
      let e = element_at edges x here in
      let at_y : slice_get edges y ≡ Some e.0 = ap (slice_get edges) (sym same) ∙ e.1 in
      (λ i. slice_cmp edge_cmp (picked-cons edges x xs e.0 e.1 i) (picked-cons edges y ys e.0 at_y i))
      ∙ ap (λ o. ordering_then o (slice_cmp edge_cmp (picked edges xs) (picked edges ys))) (tied_itself edge_cmp_total e.0)
      ∙ rest less
  by_first Greater x y xs ys is here there greater less rest = absurd (cc)

  -- the edges of two lists of positions are ordered as these are
  by_edges : (xs ys : List ℕ) → All (λ i. i < length edges) xs → All (λ i. i < length edges) ys → slice_cmp nat_cmp xs ys ≡ Less → slice_cmp edge_cmp (picked edges xs) (picked edges ys) ≡ Less
  by_edges [] [] inside within less = absurd (cc)
  by_edges [] (y ∷ ys) inside within less =
      let f = element_at edges y (All-head (λ i. i < length edges) y ys within) in
      ap (slice_cmp edge_cmp []) (picked-cons edges y ys f.0 f.1)
  by_edges (x ∷ xs) [] inside within less = absurd (cc)
  by_edges (x ∷ xs) (y ∷ ys) inside within less =
      by_first (nat_cmp x y) x y xs ys refl (All-head (λ i. i < length edges) x xs inside) (All-head (λ i. i < length edges) y ys within) (ranks x y) less
      (by_edges xs ys (All-tail (λ i. i < length edges) x xs inside) (All-tail (λ i. i < length edges) y ys within))

  below_all : (xs : List ℕ) (ls : List (List ℕ)) → All (λ i. i < length edges) xs → ((l : List ℕ) → Contains ls l → All (λ i. i < length edges) l)
      → AllByRecursion (λ ys. slice_cmp nat_cmp xs ys ≡ Less) ls → AllByRecursion (λ es. slice_cmp edge_cmp (picked edges xs) es ≡ Less) (map (picked edges) ls)
  below_all xs [] inside within below = tt
  below_all xs (l ∷ ls) inside within below = (by_edges xs l inside (within l (contains_here l ls)) below.0, below_all xs ls inside (λ k at. within k (contains_later l k ls at)) below.1)

  -- lists of positions that ascend have edges that ascend
  sorted_by_edges : (ls : List (List ℕ)) → ((l : List ℕ) → Contains ls l → All (λ i. i < length edges) l) → IsStrictlySortedBy (slice_cmp nat_cmp) ls → IsStrictlySortedBy (slice_cmp edge_cmp) (map (picked edges) ls)
  unfolding IsStrictlySortedBy
  sorted_by_edges [] within sorted = tt
  sorted_by_edges (l ∷ ls) within sorted =
      (below_all l ls (within l (contains_here l ls)) (λ k at. within k (contains_later l k ls at)) sorted.0, sorted_by_edges ls (λ k at. within k (contains_later l k ls at)) sorted.1)

-- all cycles ascend by their edges, where the edges ascend
pub cycles_ascend_by_edges : (before : Segment → Segment → Bool) (mode : Mode) (len : ℕ) (edges : List Edge) → IsStrictlySortedBy edge_cmp edges
    → IsStrictlySortedBy (slice_cmp edge_cmp) (map (picked edges) (all_cycles before mode len edges))
cycles_ascend_by_edges before mode len edges ascend =
    sorted_by_edges edges ascend (all_cycles before mode len edges) (λ l at. (there_is_cycle before mode len edges l at).within) (cycles_ascend before mode len edges)
