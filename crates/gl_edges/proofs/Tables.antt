-- A `BTreeMap` that is filled pair by pair is the table of the least samples.
use Rattle.std.proofs.Common.{◌≡◌, Bool, true, false, cond, List, [], ◌∷◌, ◌++◌, Option, Some, None, refl, sym, ap, subst, ◌∙◌}
use Rattle.std.specs.Prelude.{T, ◌&&◌, Contains}
use Rattle.std.specs.BTreeMap as tree
use Rattle.std.specs.BTreeMap.{BTreeMap, IsOrdered, is_at}
use Rattle.std.specs.FinMap as map
use Rattle.std.specs.FinMap.Entries.{find, is_sorted, below_all, same_entries}
use Rattle.std.specs.List.{AllByRecursion}
use Rattle.std.specs.List.Sorted.{IsStrictlySortedBy}
use Rattle.std.specs.Map.{lookup, keys_of}
use Rattle.std.specs.Option.{option_map_or}
use Rattle.std.specs.Ordering.{is_lt, is_le, is_eq, eq_by_cmp, ordering_reverse}
use Rattle.std.specs.declared.cmp.Ordering.{Ordering}
use Rattle.std.specs.declared.cmp.Ordering.TheVariants.{Less, Equal, Greater}
use Rattle.std.specs.Cmp.{eq_by_cmp_equiv}
use Rattle.std.proofs.lemmas.Map.Keys.{IsDistinct-from_sorted}
use Rattle.std.proofs.lemmas.Map.Views.{Contains-from_lookup, lookup-from_Contains}
use Rattle.gl_edges.specs.Edges.{lesser, least_samples, once}
use Rattle.gl_edges.specs.Order.{edge_cmp, sample_cmp, AreAscending}
use Rattle.gl_edges.specs.Samples.{IsLeastSample}
use Rattle.gl_edges.specs.declared.edge.Edge.{Edge}
use Rattle.gl_edges.specs.declared.edge.Sample.{Sample}
use Rattle.gl_edges.proofs.Orders.{edge_cmp_total, edge_cmp_exact, sample_cmp_total, sample_cmp_exact}
use Rattle.gl_edges.proofs.Least.{tied, neither_below, least_samples_push, Answers, table_answers}

-- the map has each edge of these pairs, with its least sample
pub record IsTreeOf (table : BTreeMap Edge Sample) (pairs : List (Edge × Sample)) : Type 0 where
  -- what it has at an edge
  pub each : (edge : Edge) → tree.get edge_cmp table edge ≡ map.get (least_samples pairs) edge

-- whether a table that answers so at an edge has it with a sample that is not above this one
abbrev has_seen : Sample → Option Sample → Bool
has_seen sample answer = option_map_or (λ known. is_le (sample_cmp known sample)) answer false

-- what is no greater is not above
pub not_below : (r : Ordering) → is_le r ≡ true → is_lt (ordering_reverse r) ≡ false
not_below Less e = refl
not_below Equal e = refl
not_below Greater e = absurd (cc)

-- what is greater is above
is_below : (r : Ordering) → is_le r ≡ false → is_lt (ordering_reverse r) ≡ true
is_below Less e = absurd (cc)
is_below Equal e = absurd (cc)
is_below Greater e = refl

-- an edge that was seen keeps its sample
seen_stays : (sample : Sample) (answer : Option Sample) → has_seen sample answer ≡ true → Some (option_map_or (lesser sample) answer sample) ≡ answer
seen_stays sample None e = absurd (cc)
seen_stays sample (Some known) e =
    let above : is_lt (sample_cmp sample known) ≡ false =
    ap is_lt (sample_cmp_total.antisymm sample known) ∙ not_below (sample_cmp known sample) e in
    ap (λ b. Some (cond b sample known)) above

-- an edge that wasn't gets the new one
unseen_takes : (sample : Sample) (answer : Option Sample) → has_seen sample answer ≡ false → option_map_or (lesser sample) answer sample ≡ sample
unseen_takes sample None e = refl
unseen_takes sample (Some known) e =
    let below : is_lt (sample_cmp sample known) ≡ true =
    ap is_lt (sample_cmp_total.antisymm sample known) ∙ is_below (sample_cmp known sample) e in
    ap (λ b. cond b sample known) below

-- what the table of one more pair answers
pub get_push : (pairs : List (Edge × Sample)) (edge : Edge) (sample : Sample) (q : Edge) → map.get (least_samples (pairs ++ (edge, sample) ∷ [])) q
    ≡ cond (eq_by_cmp edge_cmp q edge) (Some (option_map_or (lesser sample) (map.get (least_samples pairs) edge) sample)) (map.get (least_samples pairs) q)
get_push pairs edge sample q =
    ap (λ table. map.get table q) (least_samples_push pairs (edge, sample))
    ∙ map.get-insert edge_cmp_total (least_samples pairs) edge _ q

-- an edge that was seen adds nothing
pub seen_more : (table : BTreeMap Edge Sample) (pairs : List (Edge × Sample)) (edge : Edge) (sample : Sample) → IsTreeOf table pairs
    → has_seen sample (tree.get edge_cmp table edge) ≡ true → IsTreeOf table (pairs ++ (edge, sample) ∷ [])
seen_more table pairs edge sample known seen = record {
  each = λ q.
      elim (eq_by_cmp edge_cmp q edge) as (λ b. eq_by_cmp edge_cmp q edge ≡ b → tree.get edge_cmp table q ≡ cond b (Some (option_map_or (lesser sample) (map.get (least_samples pairs) edge) sample)) (map.get (least_samples pairs) q)) [
        | true ↦ λ tie.
            ap (tree.get edge_cmp table) (tied edge_cmp_exact q edge tie)
            ∙ sym (seen_stays sample (tree.get edge_cmp table edge) seen)
            ∙ ap (λ o. Some (option_map_or (lesser sample) o sample)) (known.each edge)
        | false ↦ λ apart. known.each q
      ] refl ∙ sym (get_push pairs edge sample q);
}

-- one that was not is put in
pub unseen_more : (table new : BTreeMap Edge Sample) (pairs : List (Edge × Sample)) (edge : Edge) (sample : Sample) → IsTreeOf table pairs
    → has_seen sample (tree.get edge_cmp table edge) ≡ false
    → ((q : Edge) → tree.get edge_cmp new q ≡ cond (eq_by_cmp edge_cmp edge q) (Some sample) (tree.get edge_cmp table q))
    → IsTreeOf new (pairs ++ (edge, sample) ∷ [])
unseen_more table new pairs edge sample known unseen puts = record {
  each = λ q.
      let value : Some sample ≡ Some (option_map_or (lesser sample) (map.get (least_samples pairs) edge) sample) =
      ap Some (sym (unseen_takes sample (tree.get edge_cmp table edge) unseen)) ∙ ap (λ o. Some (option_map_or (lesser sample) o sample)) (known.each edge) in
      puts q
      ∙ flips q
      ∙ (λ i. cond (eq_by_cmp edge_cmp q edge) (value i) (known.each q i))
      ∙ sym (get_push pairs edge sample q);
}
  where
    flips : (q : Edge) → cond (eq_by_cmp edge_cmp edge q) (Some sample) (tree.get edge_cmp table q) ≡ cond (eq_by_cmp edge_cmp q edge) (Some sample) (tree.get edge_cmp table q)
    flips q = ap (λ r. cond (is_eq r) (Some sample) (tree.get edge_cmp table q)) (edge_cmp_total.antisymm edge q) ∙ turned (edge_cmp q edge)
      where
        turned : (r : Ordering) → cond (is_eq (ordering_reverse r)) (Some sample) (tree.get edge_cmp table q) ≡ cond (is_eq r) (Some sample) (tree.get edge_cmp table q)
        turned Less = refl
        turned Equal = refl
        turned Greater = refl

-- ---- the entries of a table

-- two words for a look-up
pub find_is_lookup : {K X : Type 0} (R : K → K → Ordering) (q : K) (es : List (K × X)) → find R q es ≡ lookup (is_at (R q)) es
find_is_lookup R q [] = refl
find_is_lookup R q (e ∷ es) = ap (cond (is_eq (R q e.0)) (Some e.1)) (find_is_lookup R q es)

-- two facts by their tests
both : (a b : Bool) → T a → T b → T (a && b)
both true b p q = q
both false b p q = p

-- a key below all others, by the test
below_all_from : {K X : Type 0} (R : K → K → Ordering) (k : K) (es : List (K × X)) → AllByRecursion (λ q. R k q ≡ Less) (keys_of es) → T (below_all R k es)
below_all_from R k [] all = tt
below_all_from R k (e ∷ es) all = both _ _ (subst (λ r. T (is_lt r)) (sym all.0) tt) (below_all_from R k es all.1)

-- keys in order, by the test
pub is_sorted_from : {K X : Type 0} (R : K → K → Ordering) (es : List (K × X)) → IsStrictlySortedBy R (keys_of es) → T (is_sorted R es)
unfolding IsStrictlySortedBy
is_sorted_from R [] all = tt
is_sorted_from R (e ∷ es) all = both _ _ (below_all_from R e.0 es all.0) (is_sorted_from R es all.1)

-- the entries of the table are the pairs, each edge once
pub table_entries : (table : BTreeMap Edge Sample) (pairs : List (Edge × Sample)) → IsOrdered edge_cmp table → IsTreeOf table pairs → table.entries ≡ once pairs
unfolding once
table_entries table pairs ordered known =
    same_entries edge_cmp edge_cmp_total edge_cmp_exact table.entries (map.entries (least_samples pairs))
    (is_sorted_from edge_cmp table.entries ordered) (map.entries_sorted (least_samples pairs))
    (λ q. find_is_lookup edge_cmp q table.entries ∙ known.each q ∙ map.get-entries (least_samples pairs) q)

-- ---- what is in the list of a table

-- the first of two tests
first : (a b : Bool) → T (a && b) → T a
first true b p = tt
first false b p = p

-- the second of two tests
second : (a b : Bool) → T (a && b) → T b
second true b p = p
second false b p = absurd p

-- the test of the order
less : (r : Ordering) → T (is_lt r) → r ≡ Less
less Less p = refl
less Equal p = absurd p
less Greater p = absurd p

-- a key below all others, from the test
all_below : {K X : Type 0} (R : K → K → Ordering) (k : K) (es : List (K × X)) → T (below_all R k es) → AllByRecursion (λ q. R k q ≡ Less) (keys_of es)
all_below R k [] p = record {}
all_below R k (e ∷ es) p = (less (R k e.0) (first _ _ p), all_below R k es (second _ _ p))

-- keys in order, from the test
pub sorted_from : {K X : Type 0} (R : K → K → Ordering) (es : List (K × X)) → T (is_sorted R es) → IsStrictlySortedBy R (keys_of es)
unfolding IsStrictlySortedBy
sorted_from R [] p = record {}
sorted_from R (e ∷ es) p = (all_below R e.0 es (first _ _ p), sorted_from R es (second _ _ p))

-- a list of edges that are taken once ascends
pub once_ascends : (pairs : List (Edge × Sample)) → AreAscending (once pairs)
unfolding once
once_ascends pairs = sorted_from edge_cmp (map.entries (least_samples pairs)) (map.entries_sorted (least_samples pairs))

-- what the table answers, by its entries
get_is_lookup : (pairs : List (Edge × Sample)) (edge : Edge) → map.get (least_samples pairs) edge ≡ lookup (is_at (edge_cmp edge)) (map.entries (least_samples pairs))
get_is_lookup pairs edge = map.get-entries (least_samples pairs) edge ∙ find_is_lookup edge_cmp edge (map.entries (least_samples pairs))

-- what the table answers is in the list
pub once_has : (pairs : List (Edge × Sample)) (edge : Edge) (sample : Sample) → map.get (least_samples pairs) edge ≡ Some sample → Contains (once pairs) (edge, sample)
unfolding once
once_has pairs edge sample is =
    Contains-from_lookup {eq = eq_by_cmp edge_cmp} (λ x y tie. tied edge_cmp_exact x y tie) edge sample (map.entries (least_samples pairs)) (sym (get_is_lookup pairs edge) ∙ is)

-- what is in the list the table answers
pub once_from : (pairs : List (Edge × Sample)) (edge : Edge) (sample : Sample) → Contains (once pairs) (edge, sample) → map.get (least_samples pairs) edge ≡ Some sample
unfolding once
once_from pairs edge sample at =
    get_is_lookup pairs edge
    ∙ lookup-from_Contains {eq = eq_by_cmp edge_cmp} (eq_by_cmp_equiv edge_cmp_total) edge sample (map.entries (least_samples pairs))
    (IsDistinct-from_sorted edge_cmp (keys_of (map.entries (least_samples pairs))) (sorted_from edge_cmp (map.entries (least_samples pairs)) (map.entries_sorted (least_samples pairs)))) at

-- an answer is a least sample
answered : (pairs : List (Edge × Sample)) (edge : Edge) (sample : Sample) (answer : Option Sample) → answer ≡ Some sample → Answers pairs edge answer → IsLeastSample pairs edge sample
answered pairs edge sample answer is known = subst (Answers pairs edge) is known

-- a least sample is the answer
answered_back : (pairs : List (Edge × Sample)) (edge : Edge) (sample : Sample) (answer : Option Sample) → IsLeastSample pairs edge sample → Answers pairs edge answer → answer ≡ Some sample
answered_back pairs edge sample None least known = absurd (known sample least.here)
answered_back pairs edge sample (Some other) least known =
    ap Some (neither_below sample_cmp_total sample_cmp_exact other sample (least.least other known.here) (known.least sample least.here))

-- the list has an edge with its least sample
pub once_is_least : (pairs : List (Edge × Sample)) (edge : Edge) (sample : Sample) → Contains (once pairs) (edge, sample) → IsLeastSample pairs edge sample
once_is_least pairs edge sample at = answered pairs edge sample (map.get (least_samples pairs) edge) (once_from pairs edge sample at) (table_answers pairs edge)

-- an edge with its least sample is in the list
pub least_is_once : (pairs : List (Edge × Sample)) (edge : Edge) (sample : Sample) → IsLeastSample pairs edge sample → Contains (once pairs) (edge, sample)
least_is_once pairs edge sample least = once_has pairs edge sample (answered_back pairs edge sample (map.get (least_samples pairs) edge) least (table_answers pairs edge))
