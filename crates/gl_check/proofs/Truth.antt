-- What was accepted is said of a true report, and the JSON is what is printed of it.
use Rattle.std.proofs.Common.{◌≡◌, ◌≢◌, ℕ, zero, suc, ◌<◌, Bool, true, List, [], ◌∷◌, length, map, Option, option_map, Some, None, is_some, refl, sym, ap, subst, ◌∙◌, arith}
use Rattle.std.specs.Prelude.{codes, slice_get, is_none, nat_le, All, IfSome}
use Rattle.std.specs.List.{AllZip, filter_map, list_all, cons_option}
use Rattle.std.proofs.lemmas.Bool.{and_parts, leb-true, false≢true}
use Rattle.std.proofs.lemmas.List.{length-map}
use Rattle.std.proofs.lemmas.Option.{slice_get-map}
use Rattle.std.proofs.lemmas.Slice.Zip.{AllZip-long}
use Rattle.serde_json.specs.Data.{Data, number, unsigned, boolean, string, array}
use Rattle.serde_json.specs.View.{items_of}
use Rattle.gl_event.specs.declared.events.Segment.{Segment}
use Rattle.gl_std.specs.Names.{NameLists}
use Rattle.gl_std.specs.declared.trace.Trace.{Trace}
use Rattle.gl_edges.specs.Edges.{edges}
use Rattle.gl_edges.specs.declared.edge.Edge.{Edge}
use Rattle.gl_edges.specs.declared.edge.Sample.{Sample}
use Rattle.gl_filters.proofs.Valid.{cycle_if_valid}
use Rattle.gl_filters.specs.Asked.{Asked, first_out_of_range, mode_name}
use Rattle.gl_filters.specs.Picked.{edges_of_table, picked}
use Rattle.gl_cycles.proofs.TrimsSpareCycles.{none_if_all_go}
use Rattle.gl_cycles.specs.Laws.{IsCycleAt}
use Rattle.gl_trims.specs.Trims.{IsWholeRemoval}
use Rattle.gl_cycles.specs.declared.found.Report.{Report}
use Rattle.gl_report.specs.Tree.{edge_tree, positions_tree, report_tree, trim_tree}
use Rattle.gl_report.specs.Exclusive.{is_exclusive}
use Rattle.gl_report.specs.Findings.{findings_tree}
use Rattle.gl_report.specs.TreeV1.{cycle_tree_v1, edge_tree_v1, report_tree_v1}
use Rattle.gl_check.specs.Checked.{HasTable, Holds, HoldsOf, IsChecked, IsTrueReport, Reads, Shows, printed}
use Rattle.gl_check.specs.Cycles.{AreCyclesOf, IsCycleOf}
use Rattle.gl_check.specs.Edges.{NameEdges, NamesEdge}
use Rattle.gl_check.specs.Shape.{asked_in, cycles_shown, format_in, has_fields, is_edge, is_listing, is_member, is_report, items_in, items_under, listing_in, listings_in, report_fields, trim_in}
use Rattle.gl_check.specs.declared.fields.Format.{Format}
use Rattle.gl_check.specs.declared.fields.Format.TheVariants.{One, Two, Three}
use Rattle.gl_check.specs.declared.reports.Checked.{Checked}
use Rattle.gl_check.proofs.Places.{all_within}
use Rattle.gl_check.proofs.Printed.{array_is, eight, more_under, rebuilt_three, rebuilt_two, rebuilt_v1, seven, six}

-- what holds of one element and of the others
all_with : {X : Type 0} (P : X → Type 0) (x : X) (xs : List X) → P x → All P xs → All P (x ∷ xs)
all_with P x xs here later zero d within = here
all_with P x xs here later (suc k) d within = later k d (omega arith)

none_is : {X : Type 0} (o : Option X) → is_none o ≡ true → o ≡ None
none_is None is = refl
none_is (Some x) is = absurd (false≢true is)

two≢one : Two ≢ One
two≢one is = cc

three≢one : Three ≢ One
three≢one is = cc

module _ (names : NameLists) (table : List (Edge × Sample)) where
  -- but in format 1 the JSON of an edge is its position
  position_is : (format : Format) → format ≢ One → (d : Data) (p : ℕ) → NamesEdge format names table d p → d ≡ number (unsigned p)
  position_is One other d p is = absurd (other refl)
  position_is Two other d p is = is.0
  position_is Three other d p is = is.0

  -- the JSON of edges at positions is what is printed of these edges
  printed_edges : (ds : List Data) (positions : List ℕ) → NameEdges One names table ds positions → ds ≡ map (edge_tree_v1 names) (filter_map (slice_get table) positions)
  printed_edges [] [] at = refl
  printed_edges [] (p ∷ positions) at = absurd at
  printed_edges (d ∷ ds) [] at = absurd at
  printed_edges (d ∷ ds) (p ∷ positions) at =
      let more = printed_edges ds positions at.1 in
      subst (λ o. d ∷ ds ≡ map (edge_tree_v1 names) (cons_option o (filter_map (slice_get table) positions))) (sym at.0.there) (λ i. at.0.prints.1 i ∷ more i)

  -- and of the positions
  printed_positions : (format : Format) → format ≢ One → (ds : List Data) (positions : List ℕ) → NameEdges format names table ds positions → ds ≡ map (λ position. number (unsigned position)) positions
  printed_positions format other [] [] at = refl
  printed_positions format other [] (p ∷ positions) at = absurd at
  printed_positions format other (d ∷ ds) [] at = absurd at
  printed_positions format other (d ∷ ds) (p ∷ positions) at =
      let here = position_is format other d p at.0 in
      let more = printed_positions format other ds positions at.1 in
      λ i. here i ∷ more i

  -- edges at positions are exclusive
  exclusive : (ds : List Data) (positions : List ℕ) → NameEdges One names table ds positions → All (λ edge. is_exclusive edge ≡ true) (picked (edges_of_table table) positions)
  exclusive [] [] at = λ k d within. absurd (omega arith)
  exclusive [] (p ∷ positions) at = absurd at
  exclusive (d ∷ ds) [] at = absurd at
  exclusive (d ∷ ds) (p ∷ positions) at =
      let there : slice_get (edges_of_table table) p ≡ Some at.0.pair.0 = slice_get-map (λ pair. pair.0) table p ∙ ap (option_map (λ pair. pair.0)) at.0.there in
      subst (λ o. All (λ edge. is_exclusive edge ≡ true) (cons_option o (picked (edges_of_table table) positions))) (sym there)
      (all_with (λ edge. is_exclusive edge ≡ true) at.0.pair.0 (picked (edges_of_table table) positions) at.0.prints.0 (exclusive ds positions at.1))

module _ (names : NameLists) (table : List (Edge × Sample)) (before : Segment → Segment → Bool) (asked : Asked) where
  -- what is printed of the cycles that were found
  cycles_v1 : (size : ℕ) (cs : List Data) (found : List (List ℕ)) → list_all (is_listing One size) cs ≡ true → AllZip (IsCycleOf One names table before asked) (map items_in cs) found → cs ≡ map (cycle_tree_v1 names table) found
  unfolding cycle_tree_v1
  cycles_v1 size [] [] all are = refl
  cycles_v1 size [] (ps ∷ found) all are = absurd are
  cycles_v1 size (c ∷ cs) [] all are = absurd are
  cycles_v1 size (c ∷ cs) (ps ∷ found) all are =
      let tests = and_parts (is_listing One size c) (list_all (is_listing One size) cs) all in
      let is_array = (and_parts _ (list_all (is_member One size) (items_in c)) tests.0).0 in
      let here : c ≡ array (items_of (map (edge_tree_v1 names) (filter_map (slice_get table) ps))) = array_is c is_array ∙ ap (λ ds. array (items_of ds)) (printed_edges names table (items_in c) ps are.0.edges) in
      let more = cycles_v1 size cs found tests.1 are.1 in
      λ i. here i ∷ more i

  cycles_told : (format : Format) → format ≢ One → (size : ℕ) (cs : List Data) (found : List (List ℕ)) → list_all (is_listing format size) cs ≡ true
      → AllZip (IsCycleOf format names table before asked) (map items_in cs) found → cs ≡ map positions_tree found
  unfolding positions_tree
  cycles_told format other size [] [] all are = refl
  cycles_told format other size [] (ps ∷ found) all are = absurd are
  cycles_told format other size (c ∷ cs) [] all are = absurd are
  cycles_told format other size (c ∷ cs) (ps ∷ found) all are =
      let tests = and_parts (is_listing format size c) (list_all (is_listing format size) cs) all in
      let is_array = (and_parts _ (list_all (is_member format size) (items_in c)) tests.0).0 in
      let here : c ≡ array (items_of (map (λ position. number (unsigned position)) ps)) = array_is c is_array ∙ ap (λ ds. array (items_of ds)) (printed_positions names table format other (items_in c) ps are.0.edges) in
      let more = cycles_told format other size cs found tests.1 are.1 in
      λ i. here i ∷ more i

  -- each element on the right
  each_right : (format : Format) (P : List ℕ → Type 0) → ((ds : List Data) (ps : List ℕ) → IsCycleOf format names table before asked ds ps → P ps) → (dss : List (List Data)) (found : List (List ℕ))
      → AllZip (IsCycleOf format names table before asked) dss found → All P found
  each_right format P gives [] [] are k d within = absurd (omega arith)
  each_right format P gives [] (ps ∷ found) are k d within = absurd are
  each_right format P gives (ds ∷ dss) [] are k d within = absurd are
  each_right format P gives (ds ∷ dss) (ps ∷ found) are zero d within = gives ds ps are.0
  each_right format P gives (ds ∷ dss) (ps ∷ found) are (suc k) d within = each_right format P gives dss found are.1 k d (omega arith)

  cycle_at : (format : Format) (ds : List Data) (ps : List ℕ) → IsCycleOf format names table before asked ds ps → IsCycleAt before asked.mode asked.len (edges_of_table table) ps
  cycle_at format ds ps is =
      record {
        within = subst (λ n. All (λ i. i < n) ps) (sym (length-map table (λ pair. pair.0))) (all_within format names table ds ps is.edges);
        cycle = cycle_if_valid before asked (picked (edges_of_table table) ps) is.valid;
      }

-- the tests of the shape
record IsShaped (d : Data) : Type 0 where
  fields : has_fields (report_fields (format_in d)) d ≡ true
  in_range : is_none (first_out_of_range (asked_in d)) ≡ true
  few : nat_le (length (listings_in (format_in d) d)) (asked_in d).max ≡ true
  edges_are : list_all is_edge (items_under (codes "edges") d) ≡ true
  cycles_are : list_all (is_listing (format_in d) (length (items_under (codes "edges") d))) (listings_in (format_in d) d) ≡ true

shaped_by : (d : Data) → is_report d ≡ true → IsShaped d
unfolding is_report
shaped_by d shaped =
    let a = and_parts (has_fields (report_fields (format_in d)) d) _ shaped in
    let b = and_parts (is_none (first_out_of_range (asked_in d))) _ a.1 in
    let c = and_parts (nat_le (length (listings_in (format_in d) d)) (asked_in d).max) _ b.1 in
    let e = and_parts (list_all is_edge (items_under (codes "edges") d)) _ c.1 in
    record { fields = a.0; in_range = b.0; few = c.0; edges_are = e.0; cycles_are = e.1 }

-- the entries of the table
pub entries_are : (d : Data) → is_report d ≡ true → list_all is_edge (items_under (codes "edges") d) ≡ true
entries_are d shaped = (shaped_by d shaped).edges_are

-- with the right table positions are below its length
pub listings_are : (names : NameLists) (table : List (Edge × Sample)) (before : Segment → Segment → Bool) (d : Data) → is_report d ≡ true → HasTable names table before d (format_in d)
    → list_all (is_listing (format_in d) (length table)) (listings_in (format_in d) d) ≡ true
listings_are names table before d shaped has = by (format_in d) has (shaped_by d shaped).cycles_are
  where
    by : (format : Format) → HasTable names table before d format → list_all (is_listing format (length (items_under (codes "edges") d))) (listings_in format d) ≡ true
        → list_all (is_listing format (length table)) (listings_in format d) ≡ true
    by One has all = all
    by Two has all = subst (λ n. list_all (is_listing Two n) (listings_in Two d) ≡ true) (ap length has ∙ length-map table (edge_tree names)) all
    by Three has all = subst (λ n. list_all (is_listing Three n) (listings_in Three d) ≡ true) (ap length has ∙ length-map table (edge_tree names)) all

-- the report that was listed, with these cycles
abbrev pub report_said : Trace → Data → List (List ℕ) → Report
report_said trace d found = record { query = asked_in d; edges = edges trace.lists; found = record { cycles = found; more = more_under d }; trim = trim_in d }

module _ (trace : Trace) (before : Segment → Segment → Bool) (d : Data) (found : List (List ℕ)) (shaped : is_report d ≡ true) (holds : Holds trace.names (edges trace.lists) before d found) where
  tests : IsShaped d
  tests = shaped_by d shaped

  -- it is printed so
  abbrev IsPrintedIn : Format → Type 0
  IsPrintedIn format = (d ≡ printed format trace.names (report_said trace d found)) × Shows format (report_said trace d found)

  printed_as : (format : Format) → has_fields (report_fields format) d ≡ true → list_all (is_listing format (length (items_under (codes "edges") d))) (listings_in format d) ≡ true
      → HasTable trace.names (edges trace.lists) before d format → AreCyclesOf format trace.names (edges trace.lists) before (asked_in d) (map items_in (listings_in format d)) found → IsPrintedIn format
  unfolding report_tree report_tree_v1 findings_tree
  printed_as One fields listings has are =
      let cycles = cycles_v1 trace.names (edges trace.lists) before (asked_in d) (length (items_under (codes "edges") d)) (items_under (codes "cycles") d) found listings are.each in (
        rebuilt_v1 d fields
            ∙ ap (λ cs. six (array (items_of cs)) (number (unsigned 1)) (number (unsigned (asked_in d).len)) (number (unsigned (asked_in d).max)) (string (mode_name (asked_in d).mode)) (boolean (more_under d))) cycles,
        (
          each_right trace.names (edges trace.lists) before (asked_in d) One (λ cycle. All (λ edge. is_exclusive edge ≡ true) (picked (edges_of_table (edges trace.lists)) cycle))
              (λ ds ps is. exclusive trace.names (edges trace.lists) ds ps is.edges) (map items_in (listings_in One d)) found are.each,
          ap trim_in (rebuilt_v1 d fields),
        ),
      )
  printed_as Two fields listings has are =
      let cycles = cycles_told trace.names (edges trace.lists) before (asked_in d) Two two≢one (length (items_under (codes "edges") d)) (items_under (codes "cycles") d) found listings are.each in (
        rebuilt_two d fields
            ∙ (λ i. eight (array (items_of (cycles i))) (array (items_of (has i))) (number (unsigned 2)) (number (unsigned (asked_in d).len)) (number (unsigned (asked_in d).max)) (string (mode_name (asked_in d).mode)) (boolean (more_under d)) (trim_tree (trim_in d))),
        tt,
      )
  printed_as Three fields listings has are =
      let shown = cycles_told trace.names (edges trace.lists) before (asked_in d) Three three≢one (length (items_under (codes "edges") d)) (items_under (codes "findings") d) found listings are.each in (
        rebuilt_three d fields
            ∙ (λ i. seven (array (items_of (has i))) (array (items_of (shown i))) (number (unsigned 3)) (number (unsigned (asked_in d).len)) (number (unsigned (asked_in d).max)) (string (mode_name (asked_in d).mode)) (boolean (more_under d))),
        ap trim_in (rebuilt_three d fields),
      )

  is_true_report : IsTrueReport trace (listing_in (format_in d)) before (report_said trace d found)
  is_true_report =
      let are = holds.cycles in
      let long = AllZip-long (IsCycleOf (format_in d) trace.names (edges trace.lists) before (asked_in d)) (cycles_shown d) found are.each in
      let long_too = length-map (listings_in (format_in d) d) items_in in
      let few = leb-true (length (listings_in (format_in d) d)) (asked_in d).max tests.few in
      record {
        own_edges = refl;
        in_range = none_is (first_out_of_range (asked_in d)) tests.in_range;
        few = omega arith;
        cycles =
            each_right trace.names (edges trace.lists) before (asked_in d) (format_in d) (IsCycleAt before (asked_in d).mode (asked_in d).len (edges_of_table (edges trace.lists)))
            (cycle_at trace.names (edges trace.lists) before (asked_in d) (format_in d)) (cycles_shown d) found are.each;
        ascend = are.ascend;
        trim = holds.trim;
      }

  -- where there is a trim order there is no cycle
  none_if_trimmed : (trim : Option (List ℕ)) → IfSome trim (IsWholeRemoval before (asked_in d).mode (edges_of_table (edges trace.lists))) → is_some trim ≡ true
      → (len : ℕ) (positions : List ℕ) → ¬ IsCycleAt before (asked_in d).mode len (edges_of_table (edges trace.lists)) positions
  none_if_trimmed None whole is = absurd (false≢true is)
  none_if_trimmed (Some removed) whole is = λ len positions. none_if_all_go before (asked_in d).mode len (edges_of_table (edges trace.lists)) removed positions whole

-- the answer
pub is_checked : (trace : Trace) (json : List ℕ) (d : Data) (found : List (List ℕ)) (checked : Checked) → Reads json d → is_report d ≡ true → HoldsOf trace d found
    → checked.listing ≡ listing_in (format_in d) → checked.cycles ≡ length found → checked.acyclic ≡ is_some (trim_in d) → IsChecked trace json checked
is_checked trace json d found checked reads shaped held lists counted trimmed =
    let tests = shaped_by d shaped in
    let told = printed_as trace held.before d found shaped held.holds (format_in d) tests.fields tests.cycles_are held.holds.printed_table held.holds.cycles in
    record {
      consistent = held.consistent;
      before = held.before;
      decides = held.decides;
      report = report_said trace d found;
      format = format_in d;
      prints = (reads.0, reads.1 ∙ ap Some told.0);
      shows = told.1;
      is_true = is_true_report trace held.before d found shaped held.holds;
      lists = lists;
      counted = counted;
      trimmed = trimmed;
      none_of_any_length = λ yes. none_if_trimmed trace held.before d found shaped held.holds (trim_in d) held.holds.trim (sym trimmed ∙ yes);
    }

-- listed cycles are as many as those found
pub as_many : (format : Format) (names : NameLists) (table : List (Edge × Sample)) (before : Segment → Segment → Bool) (asked : Asked) (d : Data) (found : List (List ℕ))
    → AreCyclesOf format names table before asked (cycles_shown d) found → length found ≡ length (listings_in (format_in d) d)
as_many format names table before asked d found are =
    let long = AllZip-long (IsCycleOf format names table before asked) (cycles_shown d) found are.each in
    let long_too = length-map (listings_in (format_in d) d) items_in in
    omega arith
