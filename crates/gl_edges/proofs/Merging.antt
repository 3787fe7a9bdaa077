-- Lists of edges that are merged make the list of all pairs.
use Rattle.std.proofs.Common.{◌≡◌, inl, inr, true, false, List, ◌++◌, Option, Some, None, refl, ap, ◌∙◌}
use Rattle.std.specs.Prelude.{Contains}
use Rattle.std.specs.Cmp.{IsTotalOrder}
use Rattle.std.specs.FinMap as table
use Rattle.std.specs.Ordering.{is_lt, ordering_reverse}
use Rattle.std.specs.declared.cmp.Ordering.{Ordering}
use Rattle.std.specs.declared.cmp.Ordering.TheVariants.{Less, Equal, Greater}
use Rattle.std.proofs.lemmas.List.Elements.{Contains-append_left, Contains-append_right, Contains-append_cases}
use Rattle.gl_edges.specs.Edges.{least_samples, once}
use Rattle.gl_edges.specs.Laws.{AreAmong}
use Rattle.gl_edges.specs.Order.{sample_cmp}
use Rattle.gl_edges.specs.Samples.{IsLeastSample}
use Rattle.gl_edges.specs.declared.edge.Edge.{Edge}
use Rattle.gl_edges.specs.declared.edge.Sample.{Sample}
use Rattle.gl_edges.proofs.Orders.{edge_cmp_total, edge_cmp_exact, sample_cmp_total, sample_cmp_exact}
use Rattle.gl_edges.proofs.Least.{Answers, table_answers, neither_below}
use Rattle.gl_edges.proofs.Tables.{once_has, once_is_least}

-- the test of the order
is_less : (r : Ordering) → is_lt r ≡ true → r ≡ Less
is_less Less e = refl
is_less Equal e = cc
is_less Greater e = cc

-- what isn't below what isn't below c isn't below c
pub not_below_trans : {K : Type 0} {R : K → K → Ordering} → IsTotalOrder R → (a b c : K) → is_lt (R a b) ≡ false → is_lt (R b c) ≡ false → is_lt (R a c) ≡ false
not_below_trans {R = R} o a b c ab bc =
    elim (R a c) as (λ r. R a c ≡ r → is_lt r ≡ false) [
      | Less ↦ λ ac.
          elim (R b c) as (λ r. R b c ≡ r → is_lt Less ≡ false) [
            | Less ↦ λ is. let e = ap is_lt is in absurd (cc)
            | Equal ↦ λ is.
                let back : R b a ≡ Greater = o.congr b c a is ∙ o.antisymm c a ∙ ap ordering_reverse ac in
                let e = ap is_lt (o.antisymm a b ∙ ap ordering_reverse back) in absurd (cc)
            | Greater ↦ λ is. let e = ap is_lt (o.trans a c b ac (o.antisymm c b ∙ ap ordering_reverse is)) in absurd (cc)
          ] refl
      | Equal ↦ λ _. refl
      | Greater ↦ λ _. refl
    ] refl

-- a sample that an edge is taken once with, which a sample isn't below
record HasLess (pairs : List (Edge × Sample)) (edge : Edge) (other : Sample) : Type 0 where
  -- the sample
  sample : Sample
  -- the edge is taken with it
  there : Contains (once pairs) (edge, sample)
  -- the other one is not below it
  above : is_lt (sample_cmp other sample) ≡ false

-- each pair has one
less_there : (pairs : List (Edge × Sample)) (edge : Edge) (other : Sample) → Contains pairs (edge, other) → HasLess pairs edge other
less_there pairs edge other at = by_answer (table.get (least_samples pairs) edge) refl (table_answers pairs edge)
  where
    by_answer : (answer : Option Sample) → table.get (least_samples pairs) edge ≡ answer → Answers pairs edge answer → HasLess pairs edge other
    by_answer None is known = absurd (known other at)
    by_answer (Some sample) is known = record { sample = sample; there = once_has pairs edge sample is; above = known.least other at }

-- among the pairs of a list are those of another one, and for each of its pairs there is one of the same edge with a sample that isn't
-- above it
module _ (few all : List (Edge × Sample)) (from : AreAmong few all) (less : (edge : Edge) (other : Sample) → Contains all (edge, other) → (sample : Sample) × Contains few (edge, sample) × (is_lt (sample_cmp other sample) ≡ false)) where
  -- a least sample of the few is one of all
  least_of_all : (edge : Edge) (sample : Sample) → IsLeastSample few edge sample → IsLeastSample all edge sample
  least_of_all edge sample least = record {
    here = from (edge, sample) least.here;
    least = λ other at.
        let (lesser, there, above) = less edge other at in
        not_below_trans sample_cmp_total other lesser sample above (least.least lesser there);
  }

  -- both tables answer alike
  same_answer : (edge : Edge) (a b : Option Sample) → Answers few edge a → Answers all edge b → a ≡ b
  same_answer edge None None known_a known_b = refl
  same_answer edge None (Some t) known_a known_b = let (lesser, there, above) = less edge t known_b.here in absurd (known_a lesser there)
  same_answer edge (Some s) None known_a known_b = absurd (known_b s (from (edge, s) known_a.here))
  same_answer edge (Some s) (Some t) known_a known_b =
      let known = least_of_all edge s known_a in
      ap Some (neither_below sample_cmp_total sample_cmp_exact s t (known_b.least s known.here) (known.least t known_b.here))

  -- so each edge is there once with the same sample
  pub once_of_lesser : once few ≡ once all
  unfolding once
  once_of_lesser =
      ap table.entries
      (table.same_map edge_cmp_total edge_cmp_exact (least_samples few) (least_samples all)
      (λ edge. same_answer edge _ _ (table_answers few edge) (table_answers all edge)))

module _ (xs ys : List (Edge × Sample)) where
  -- the two lists, one after the other
  abbrev merged : List (Edge × Sample)
  merged = once xs ++ once ys

  -- each pair has a lesser one in the merged lists
  merged_less : (edge : Edge) (other : Sample) → Contains (xs ++ ys) (edge, other) → (sample : Sample) × Contains merged (edge, sample) × (is_lt (sample_cmp other sample) ≡ false)
  merged_less edge other at =
      elim (Contains-append_cases xs ys (edge, other) at) [
        | inl left ↦ let h = less_there xs edge other left in (h.sample, Contains-append_left (once xs) (once ys) (edge, h.sample) h.there, h.above)
        | inr right ↦ let h = less_there ys edge other right in (h.sample, Contains-append_right (once xs) (once ys) (edge, h.sample) h.there, h.above)
      ]

  -- each pair of the merged lists is one of the pairs
  merged_from : AreAmong merged (xs ++ ys)
  merged_from pair at =
      elim (Contains-append_cases (once xs) (once ys) pair at) [
        | inl left ↦ Contains-append_left xs ys pair (once_is_least xs pair.0 pair.1 left).here
        | inr right ↦ Contains-append_right xs ys pair (once_is_least ys pair.0 pair.1 right).here
      ]

  -- so the lists are equal
  pub once_merged : once merged ≡ once (xs ++ ys)
  once_merged = once_of_lesser merged (xs ++ ys) merged_from merged_less
