-- Listed cycles that ascend by what they are compared by, and get one more.
use Rattle.std.proofs.Common.{◌≡◌, ℕ, List, [], ◌∷◌, ◌++◌, map, refl, sym, ap, subst}
use Rattle.std.specs.Cmp.Lexicographic.{slice_cmp}
use Rattle.std.specs.List.Sorted.{IsStrictlySortedBy}
use Rattle.std.specs.Ordering.{nat_cmp}
use Rattle.std.proofs.lemmas.Cmp.{nat_list_cmp_total}
use Rattle.std.proofs.lemmas.List.{map_push}
use Rattle.gl_edges.specs.declared.edge.Edge.{Edge}
use Rattle.gl_edges.specs.declared.edge.Sample.{Sample}
use Rattle.gl_findings.specs.declared.listing.Listing.{Listing}
use Rattle.gl_findings.specs.declared.listing.Listing.TheVariants.{Cycles, Findings}
use Rattle.gl_check.specs.Cycles.{IsAbove}
use Rattle.gl_check.specs.Signatures.{Ascend, compared_by, told_signature}
use Rattle.gl_check.proofs.Rising.{sorted_push}

module _ (table : List (Edge × Sample)) where
  by_positions : (found : List (List ℕ)) → map (compared_by Cycles table) found ≡ found
  by_positions [] = refl
  by_positions (positions ∷ found) = ap (λ rest. positions ∷ rest) (by_positions found)

  by_signatures : (found : List (List ℕ)) → map (compared_by Findings table) found ≡ map (told_signature table) found
  by_signatures [] = refl
  by_signatures (positions ∷ found) = ap (λ rest. told_signature table positions ∷ rest) (by_signatures found)

  -- what they are compared by ascends
  sorted_of : (listing : Listing) (found : List (List ℕ)) → Ascend listing table found → IsStrictlySortedBy (slice_cmp nat_cmp) (map (compared_by listing table) found)
  sorted_of Cycles found up = subst (IsStrictlySortedBy (slice_cmp nat_cmp)) (sym (by_positions found)) up
  sorted_of Findings found up = subst (IsStrictlySortedBy (slice_cmp nat_cmp)) (sym (by_signatures found)) up

  of_sorted : (listing : Listing) (found : List (List ℕ)) → IsStrictlySortedBy (slice_cmp nat_cmp) (map (compared_by listing table) found) → Ascend listing table found
  of_sorted Cycles found up = subst (IsStrictlySortedBy (slice_cmp nat_cmp)) (by_positions found) up
  of_sorted Findings found up = subst (IsStrictlySortedBy (slice_cmp nat_cmp)) (by_signatures found) up

  -- none do
  pub none_ascend : (listing : Listing) → Ascend listing table []
  unfolding IsStrictlySortedBy
  none_ascend Cycles = tt
  none_ascend Findings = tt

  -- and one more, above the last one
  pub ascend_more : (listing : Listing) (found : List (List ℕ)) (positions : List ℕ) → Ascend listing table found → IsAbove listing table found positions → Ascend listing table (found ++ positions ∷ [])
  ascend_more listing found positions up above =
      of_sorted listing (found ++ positions ∷ []) (subst (IsStrictlySortedBy (slice_cmp nat_cmp)) (sym (map_push (compared_by listing table) found positions))
      (sorted_push nat_list_cmp_total (map (compared_by listing table) found) (compared_by listing table positions) (sorted_of listing found up) above))
