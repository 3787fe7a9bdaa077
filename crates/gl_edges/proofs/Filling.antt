-- A table that is filled edge by edge has each edge once, with its least sample.
use Rattle.std.proofs.Common.{◌≡◌, inl, inr, true, false, List, [], ◌∷◌, ◌++◌, Option, Some, None, Result, Ok, Err, refl, sym, ap, ◌∙◌, cond}
use Rattle.std.specs.Prelude.{Contains, OnErr}
use Rattle.std.specs.BTreeMap as tree
use Rattle.std.specs.BTreeMap.{BTreeMap, IsOrdered, is_at}
use Rattle.std.specs.Cmp.{eq_by_cmp_equiv}
use Rattle.std.specs.FinMap as map
use Rattle.std.specs.FinMap.Entries.{same_entries}
use Rattle.std.specs.List.Sorted.{IsStrictlySortedBy}
use Rattle.std.specs.Map.{lookup, keys_of}
use Rattle.std.specs.Option.{option_map_or}
use Rattle.std.specs.Ordering.{is_le, eq_by_cmp}
use Rattle.std.proofs.lemmas.List.{append-nil, append_assoc}
use Rattle.std.proofs.lemmas.List.Elements.{Contains-append_left, Contains-append_right, Contains-append_cases}
use Rattle.std.proofs.lemmas.Map.Keys.{IsDistinct-from_sorted}
use Rattle.std.proofs.lemmas.Map.Views.{Contains-from_lookup, lookup-from_Contains}
use Rattle.gl_edges.specs.Edges.{least_samples, once}
use Rattle.gl_edges.specs.Laws.{AreAmong}
use Rattle.gl_edges.specs.Order.{edge_cmp, sample_cmp, AreAscending}
use Rattle.gl_edges.specs.declared.edge.Edge.{Edge}
use Rattle.gl_edges.specs.declared.edge.Sample.{Sample}
use Rattle.gl_edges.proofs.Least.{tied, same_once, Answers, table_answers}
use Rattle.gl_edges.proofs.Merging.{once_merged}
use Rattle.gl_edges.proofs.Orders.{edge_cmp_total, edge_cmp_exact}
use Rattle.gl_edges.proofs.Tables.{IsTreeOf, once_ascends, seen_more, unseen_more, table_entries, is_sorted_from, find_is_lookup}

-- ---- what stands in an ascending list

-- what is found in a list stands there
pub found_is_there : (pairs : List (Edge × Sample)) (edge : Edge) (sample : Sample) → lookup (is_at (edge_cmp edge)) pairs ≡ Some sample → Contains pairs (edge, sample)
found_is_there pairs edge sample is = Contains-from_lookup {eq = eq_by_cmp edge_cmp} (λ x y tie. tied edge_cmp_exact x y tie) edge sample pairs is

-- what stands in an ascending list is found
pub there_is_found : (pairs : List (Edge × Sample)) (edge : Edge) (sample : Sample) → AreAscending pairs → Contains pairs (edge, sample) → lookup (is_at (edge_cmp edge)) pairs ≡ Some sample
there_is_found pairs edge sample ascends at =
    lookup-from_Contains {eq = eq_by_cmp edge_cmp} (eq_by_cmp_equiv edge_cmp_total) edge sample pairs (IsDistinct-from_sorted edge_cmp (keys_of pairs) ascends) at

-- an edge that isn't found isn't there, with whatever sample: what a call may say where it fails
pub never_there : {X E : Type 0} (answer : Result X E) (pairs : List (Edge × Sample)) (edge : Edge) → AreAscending pairs → lookup (is_at (edge_cmp edge)) pairs ≡ None
    → OnErr answer ((known : Sample) → ¬ Contains pairs (edge, known))
never_there (Ok x) pairs edge ascends none = tt
never_there (Err e) pairs edge ascends none = λ known at. let there = there_is_found pairs edge known ascends at in absurd (cc)

-- what is found in an ascending list is what the table of its pairs answers
same_found : (pairs : List (Edge × Sample)) → AreAscending pairs → (edge : Edge) (found answer : Option Sample) → lookup (is_at (edge_cmp edge)) pairs ≡ found → Answers pairs edge answer → found ≡ answer
same_found pairs ascends edge found (Some sample) is known = sym is ∙ there_is_found pairs edge sample ascends known.here
same_found pairs ascends edge None None is known = refl
same_found pairs ascends edge (Some sample) None is known = absurd (known sample (found_is_there pairs edge sample is))

-- the same for each edge
found_is_answer : (pairs : List (Edge × Sample)) → AreAscending pairs → (edge : Edge) → lookup (is_at (edge_cmp edge)) pairs ≡ map.get (least_samples pairs) edge
found_is_answer pairs ascends edge = same_found pairs ascends edge _ (map.get (least_samples pairs) edge) refl (table_answers pairs edge)

-- an ascending list has each edge once already
pub once_of_ascending : (pairs : List (Edge × Sample)) → AreAscending pairs → once pairs ≡ pairs
unfolding once
once_of_ascending pairs ascends =
    sym
    (same_entries edge_cmp edge_cmp_total edge_cmp_exact pairs (map.entries (least_samples pairs))
    (is_sorted_from edge_cmp pairs ascends) (map.entries_sorted (least_samples pairs))
    (λ edge. find_is_lookup edge_cmp edge pairs ∙ found_is_answer pairs ascends edge ∙ map.get-entries (least_samples pairs) edge))

-- ---- one more edge

-- a table is that of its own entries
own_entries : (table : BTreeMap Edge Sample) → IsOrdered edge_cmp table → IsTreeOf table table.entries
own_entries table ordered = record { each = found_is_answer table.entries ordered }

-- an edge that the table has with a sample that is not above leaves it as it is
pub seen_stays : (table : BTreeMap Edge Sample) (edge : Edge) (sample : Sample) → IsOrdered edge_cmp table
    → option_map_or (λ known. is_le (sample_cmp known sample)) (tree.get edge_cmp table edge) false ≡ true
    → table.entries ≡ once (table.entries ++ (edge, sample) ∷ [])
seen_stays table edge sample ordered seen =
    table_entries table _ ordered (seen_more table table.entries edge sample (own_entries table ordered) seen)

-- another one is put in
pub unseen_enters : (table new : BTreeMap Edge Sample) (edge : Edge) (sample : Sample) → IsOrdered edge_cmp table → IsOrdered edge_cmp new
    → option_map_or (λ known. is_le (sample_cmp known sample)) (tree.get edge_cmp table edge) false ≡ false
    → ((q : Edge) → tree.get edge_cmp new q ≡ cond (eq_by_cmp edge_cmp edge q) (Some sample) (tree.get edge_cmp table q))
    → new.entries ≡ once (table.entries ++ (edge, sample) ∷ [])
unseen_enters table new edge sample ordered new_ordered unseen puts =
    table_entries new _ new_ordered (unseen_more table new table.entries edge sample (own_entries table ordered) unseen puts)

-- ---- edges one after the other

-- no pairs have no edges
pub once_of_none : once [] ≡ []
unfolding IsStrictlySortedBy
once_of_none = once_of_ascending [] (record {})

-- what has each edge once already
pub once_again : (pairs : List (Edge × Sample)) → once (once pairs) ≡ once pairs
once_again pairs = once_of_ascending (once pairs) (once_ascends pairs)

-- taking each edge once before more pairs come changes nothing
pub once_before : (xs ys : List (Edge × Sample)) → once (once xs ++ ys) ≡ once (xs ++ ys)
once_before xs ys = sym (once_merged (once xs) ys) ∙ ap (λ pairs. once (pairs ++ once ys)) (once_again xs) ∙ once_merged xs ys

-- the order of two lists changes nothing
pub once_turned : (xs ys : List (Edge × Sample)) → once (xs ++ ys) ≡ once (ys ++ xs)
once_turned xs ys = same_once (xs ++ ys) (ys ++ xs) (turn xs ys) (turn ys xs)
  where
    turn : (xs ys : List (Edge × Sample)) → AreAmong (xs ++ ys) (ys ++ xs)
    turn xs ys pair at =
        elim (Contains-append_cases xs ys pair at) [
          | inl front ↦ Contains-append_right ys xs pair front
          | inr back ↦ Contains-append_left ys xs pair back
        ]

-- taking each edge of the last pairs once changes nothing
pub once_behind : (xs ys : List (Edge × Sample)) → once (xs ++ once ys) ≡ once (xs ++ ys)
once_behind xs ys = once_turned xs (once ys) ∙ once_before ys xs ∙ once_turned ys xs

-- one pair of those to come is taken
pub once_moved : (table : List (Edge × Sample)) (pair : Edge × Sample) (rest : List (Edge × Sample)) → once (once (table ++ pair ∷ []) ++ rest) ≡ once (table ++ pair ∷ rest)
once_moved table pair rest = once_before (table ++ pair ∷ []) rest ∙ ap once (append_assoc table (pair ∷ []) rest)

-- no pair is left
pub once_whole : (table rest all : List (Edge × Sample)) → rest ≡ [] → once table ≡ table → once (table ++ rest) ≡ all → table ≡ all
once_whole table rest all none own whole = sym own ∙ ap once (sym (append-nil table) ∙ ap (λ r. table ++ r) (sym none)) ∙ whole
