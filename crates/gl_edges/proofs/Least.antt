-- What stands in a table of least samples depends on the pairs alone, and not on their order.
use Rattle.std.proofs.Common.{◌≡◌, inl, inr, Bool, true, false, cond, List, [], ◌∷◌, ◌++◌, Option, Some, None, refl, sym, ap, subst, ◌∙◌}
use Rattle.std.specs.Prelude.{Contains, MatchOption}
use Rattle.std.specs.Cmp.{IsTotalOrder, tied_itself}
use Rattle.std.specs.FinMap as map
use Rattle.std.specs.FinMap.{IsAntisymmetric}
use Rattle.std.specs.Option.{option_map_or}
use Rattle.std.specs.Ordering.{is_lt, is_eq, eq_by_cmp, ordering_reverse}
use Rattle.std.specs.declared.cmp.Ordering.{Ordering}
use Rattle.std.specs.declared.cmp.Ordering.TheVariants.{Less, Equal, Greater}
use Rattle.std.proofs.lemmas.List.Elements.{Contains-append_left, Contains-append_right, Contains-append_cases}
use Rattle.gl_edges.specs.Edges.{lesser, keep, least_samples, once}
use Rattle.gl_edges.specs.Laws.{AreAmong}
use Rattle.gl_edges.specs.Order.{edge_cmp, sample_cmp}
use Rattle.gl_edges.specs.Samples.{IsLeastSample}
use Rattle.gl_edges.specs.declared.edge.Edge.{Edge}
use Rattle.gl_edges.specs.declared.edge.Sample.{Sample}
use Rattle.gl_edges.proofs.Membership.{contains_here, contains_later, contains_cases, contains_none}
use Rattle.gl_edges.proofs.Orders.{edge_cmp_total, edge_cmp_exact, sample_cmp_total, sample_cmp_exact}

-- ---- orders

-- what ties is equal
pub tied : {K : Type 0} {R : K → K → Ordering} → IsAntisymmetric R → (x y : K) → eq_by_cmp R x y ≡ true → x ≡ y
tied {R = R} same x y =
    elim (R x y) as (λ r. R x y ≡ r → is_eq r ≡ true → x ≡ y) [
      | Less ↦ λ is never. absurd (cc)
      | Equal ↦ λ is tie. same x y is
      | Greater ↦ λ is never. absurd (cc)
    ] refl

-- what is equal ties
pub ties_itself : {K : Type 0} {R : K → K → Ordering} → IsTotalOrder R → (x y : K) → x ≡ y → eq_by_cmp R x y ≡ true
ties_itself {R = R} o x y e = ap (eq_by_cmp R x) (sym e) ∙ ap is_eq (tied_itself o x)

-- nothing is below itself
pub not_below_itself : {K : Type 0} {R : K → K → Ordering} → IsTotalOrder R → (x y : K) → y ≡ x → is_lt (R y x) ≡ false
not_below_itself {R = R} o x y e = ap (λ z. is_lt (R z x)) e ∙ ap is_lt (tied_itself o x)

-- where neither is below the other, the two are one
pub neither_below : {K : Type 0} {R : K → K → Ordering} → IsTotalOrder R → IsAntisymmetric R → (x y : K) → is_lt (R x y) ≡ false → is_lt (R y x) ≡ false → x ≡ y
neither_below {R = R} o same x y front back =
    elim (R x y) as (λ r. R x y ≡ r → x ≡ y) [
      | Less ↦ λ is. let e = ap is_lt is in absurd (cc)
      | Equal ↦ λ is. same x y is
      | Greater ↦ λ is. let e = ap is_lt (o.antisymm y x ∙ ap ordering_reverse is) in absurd (cc)
    ] refl

-- not below the lesser of two is not below either
not_below_less : {K : Type 0} {R : K → K → Ordering} → IsTotalOrder R → (x y z : K) → is_lt (R x y) ≡ true → is_lt (R z y) ≡ false → is_lt (R z x) ≡ false
not_below_less {R = R} o x y z less not_less =
    elim (R z x) as (λ r. R z x ≡ r → is_lt r ≡ false) [
      | Less ↦ λ is. let e = ap is_lt (o.trans z x y is (below (R x y) less)) in absurd (cc)
      | Equal ↦ λ is. refl
      | Greater ↦ λ is. refl
    ] refl
  where
    below : (r : Ordering) → is_lt r ≡ true → r ≡ Less
    below Less e = refl
    below Equal e = cc
    below Greater e = cc

-- ---- the table's answers

-- what a table answers at an edge: nothing where no pair has it, and else its least sample
abbrev pub Answers : List (Edge × Sample) → Edge → Option Sample → Type 0
Answers pairs edge answer = MatchOption answer ((sample : Sample) → Contains pairs (edge, sample) → ⊥) (IsLeastSample pairs edge)

-- the first pair has the edge, and no later one
first_alone : (edge : Edge) (sample : Sample) (pairs : List (Edge × Sample)) → ((other : Sample) → Contains pairs (edge, other) → ⊥) → IsLeastSample ((edge, sample) ∷ pairs) edge sample
first_alone edge sample pairs none = record {
  here = contains_here (edge, sample) pairs;
  least = λ other at.
      elim (contains_cases (edge, sample) (edge, other) pairs at) [
        | inl is ↦ not_below_itself sample_cmp_total sample other (sym (ap (λ pair. pair.1) is))
        | inr later ↦ absurd (none other later)
      ];
}

-- the first pair has the edge, and a later one too
first_of_more : (edge : Edge) (sample least : Sample) (pairs : List (Edge × Sample)) → IsLeastSample pairs edge least → IsLeastSample ((edge, sample) ∷ pairs) edge (lesser sample least)
first_of_more edge sample least pairs known =
    elim (is_lt (sample_cmp sample least)) as (λ b. is_lt (sample_cmp sample least) ≡ b → IsLeastSample ((edge, sample) ∷ pairs) edge (cond b sample least)) [
      | true ↦ λ below. record {
        here = contains_here (edge, sample) pairs;
        least = λ other at.
            elim (contains_cases (edge, sample) (edge, other) pairs at) [
              | inl is ↦ not_below_itself sample_cmp_total sample other (sym (ap (λ pair. pair.1) is))
              | inr later ↦ not_below_less sample_cmp_total sample least other below (known.least other later)
            ];
      }
      | false ↦ λ not_below. record {
        here = contains_later (edge, sample) (edge, least) pairs known.here;
        least = λ other at.
            elim (contains_cases (edge, sample) (edge, other) pairs at) [
              | inl is ↦ subst (λ s. is_lt (sample_cmp s least) ≡ false) (ap (λ pair. pair.1) is) not_below
              | inr later ↦ known.least other later
            ];
      }
    ] refl

-- the first pair has another edge
other_first : (pair : Edge × Sample) (edge : Edge) (pairs : List (Edge × Sample)) → (edge ≡ pair.0 → ⊥) → (answer : Option Sample) → Answers pairs edge answer → Answers (pair ∷ pairs) edge answer
other_first pair edge pairs apart None known = λ sample at.
    elim (contains_cases pair (edge, sample) pairs at) [
      | inl is ↦ apart (sym (ap (λ p. p.0) is))
      | inr later ↦ known sample later
    ]
other_first pair edge pairs apart (Some sample) known = record {
  here = contains_later pair (edge, sample) pairs known.here;
  least = λ other at.
      elim (contains_cases pair (edge, other) pairs at) [
        | inl is ↦ absurd (apart (sym (ap (λ p. p.0) is)))
        | inr later ↦ known.least other later
      ];
}

-- the first pair has the edge
same_first : (edge : Edge) (sample : Sample) (pairs : List (Edge × Sample)) (answer : Option Sample) → Answers pairs edge answer → Answers ((edge, sample) ∷ pairs) edge (Some (option_map_or (lesser sample) answer sample))
same_first edge sample pairs None known = first_alone edge sample pairs known
same_first edge sample pairs (Some least) known = first_of_more edge sample least pairs known

-- the answer with one more pair
one_more : (pair : Edge × Sample) (edge : Edge) (pairs : List (Edge × Sample)) (b : Bool) → eq_by_cmp edge_cmp edge pair.0 ≡ b
    → Answers pairs edge (map.get (least_samples pairs) edge)
    → Answers (pair ∷ pairs) edge (cond b (Some (option_map_or (lesser pair.1) (map.get (least_samples pairs) pair.0) pair.1)) (map.get (least_samples pairs) edge))
one_more pair edge pairs true tie known =
    let same : edge ≡ pair.0 = tied edge_cmp_exact edge pair.0 tie in
    subst (λ k. Answers ((k, pair.1) ∷ pairs) edge (Some (option_map_or (lesser pair.1) (map.get (least_samples pairs) k) pair.1))) same
    (same_first edge pair.1 pairs (map.get (least_samples pairs) edge) known)
one_more pair edge pairs false apart known =
    other_first pair edge pairs (λ e. let tie = ties_itself edge_cmp_total edge pair.0 e in cc) (map.get (least_samples pairs) edge) known

-- the table answers as it should
pub table_answers : (pairs : List (Edge × Sample)) (edge : Edge) → Answers pairs edge (map.get (least_samples pairs) edge)
table_answers [] edge = subst (Answers [] edge) (sym (map.get-empty edge_cmp edge)) (λ sample at. contains_none (edge, sample) at)
table_answers (pair ∷ pairs) edge =
    subst (Answers (pair ∷ pairs) edge) (sym (map.get-insert edge_cmp_total (least_samples pairs) pair.0 _ edge))
    (one_more pair edge pairs _ refl (table_answers pairs edge))

-- ---- pairs in another order

-- pairs in another order give the same answer
same_answer : (xs ys : List (Edge × Sample)) → AreAmong xs ys → AreAmong ys xs → (edge : Edge) (a b : Option Sample) → Answers xs edge a → Answers ys edge b → a ≡ b
same_answer xs ys to from edge None None known_x known_y = refl
same_answer xs ys to from edge None (Some s) known_x known_y = absurd (known_x s (from (edge, s) known_y.here))
same_answer xs ys to from edge (Some s) None known_x known_y = absurd (known_y s (to (edge, s) known_x.here))
same_answer xs ys to from edge (Some s) (Some t) known_x known_y =
    ap Some (neither_below sample_cmp_total sample_cmp_exact s t (known_y.least s (to (edge, s) known_x.here)) (known_x.least t (from (edge, t) known_y.here)))

-- and so the same table
pub same_table : (xs ys : List (Edge × Sample)) → AreAmong xs ys → AreAmong ys xs → least_samples xs ≡ least_samples ys
same_table xs ys to from =
    map.same_map edge_cmp_total edge_cmp_exact _ _
    (λ edge. same_answer xs ys to from edge _ _ (table_answers xs edge) (table_answers ys edge))

-- and the same list
pub same_once : (xs ys : List (Edge × Sample)) → AreAmong xs ys → AreAmong ys xs → once xs ≡ once ys
unfolding once
same_once xs ys to from = ap map.entries (same_table xs ys to from)

-- a pair at the end counts as one at the front
pub least_samples_push : (pairs : List (Edge × Sample)) (pair : Edge × Sample) → least_samples (pairs ++ pair ∷ []) ≡ keep (least_samples pairs) pair
least_samples_push pairs pair =
    same_table (pairs ++ pair ∷ []) (pair ∷ pairs)
    (λ p at. elim (Contains-append_cases pairs (pair ∷ []) p at) [
      | inl front ↦ contains_later pair p pairs front
      | inr last ↦ Contains-append_left (pair ∷ []) pairs p last
    ])
    (λ p at. elim (Contains-append_cases (pair ∷ []) pairs p at) [
      | inl last ↦ Contains-append_right pairs (pair ∷ []) p last
      | inr front ↦ Contains-append_left pairs (pair ∷ []) p front
    ])
