-- Lists of JSON values that grow, and values that have no float.
use Rattle.std.proofs.Common.{◌≡◌, ℕ, ◌+◌, ◌<◌, false, ◌||◌, List, [], ◌∷◌, ◌++◌, length, take, get_or, map, Option, Some, None, Result, Ok, Err, IfOk, refl, sym, ap, ◌∙◌}
use Rattle.std.specs.List.{filter_map, cons_option}
use Rattle.std.specs.Prelude.{codes}
use Rattle.std.specs.declared.alloc.Global.{Global}
use Rattle.std.specs.declared.vec.Vec.{Vec}
use Rattle.std.specs.Option.{option_map_or}
use Rattle.std.proofs.lemmas.List.{take_more, map_more, map-append}
use Rattle.serde_json.specs.Data.{Data, number, unsigned}
use Rattle.serde_json.specs.View.{items_of}
use Rattle.serde_json.specs.Written.{compact_text, has_float, items_have_float}
use Rattle.gl_std.specs.Names.{NameLists}
use Rattle.gl_edges.specs.declared.edge.Edge.{Edge}
use Rattle.gl_edges.specs.declared.edge.Sample.{Sample}
use Rattle.gl_filters.specs.Asked.{Asked}
use Rattle.gl_cycles.specs.declared.found.Found.{Found}
use Rattle.gl_cycles.specs.declared.found.Report.{Report}
use Rattle.gl_report.specs.Findings.{findings_tree}
use Rattle.gl_report.specs.Tree.{name_tree, lock_mode_tree, edge_tree, positions_tree, trim_tree, report_tree}
use Rattle.gl_report.specs.TreeV1.{edge_tree_v1, cycle_tree_v1, report_tree_v1}

-- one item more, seen through a function
pub pushed_view : {X Y : Type 0} (f : X → Y) (was now : List X) (x : X) (y : Y) → now ≡ was ++ x ∷ [] → f x ≡ y → map f now ≡ map f was ++ y ∷ []
pushed_view f was now x y put is = ap (map f) put ∙ map-append f was (x ∷ []) ∙ ap (λ z. map f was ++ z ∷ []) is

-- what comes of the items so far, and of one more
pub mapped_more : {X Y : Type 0} (f : X → Y) (now more : List Y) (xs : List X) (i : ℕ) (d x : X) → i < length xs → x ≡ get_or xs i d
    → now ≡ map f (take i xs) → more ≡ now ++ f x ∷ [] → more ≡ map f (take (i + 1) xs)
mapped_more f now more xs i d x within is before put =
    put ∙ ap (λ l. l ++ f x ∷ []) before ∙ ap (λ y. map f (take i xs) ++ f y ∷ []) is ∙ sym (map_more f xs i d within)

-- the same in two steps
pub shown_more : {X Y Z : Type 0} (f : Y → Z) (g : X → Y) (now more : List Z) (xs : List X) (i : ℕ) (d x : X) → i < length xs → x ≡ get_or xs i d
    → now ≡ map f (map g (take i xs)) → more ≡ now ++ f (g x) ∷ [] → more ≡ map f (map g (take (i + 1) xs))
shown_more f g now more xs i d x within is before put =
    put ∙ ap (λ l. l ++ f (g x) ∷ []) before ∙ ap (λ y. map f (map g (take i xs)) ++ f (g y) ∷ []) is
    ∙ sym (map-append f (map g (take i xs)) (g (get_or xs i d) ∷ [])) ∙ ap (map f) (sym (map_more g xs i d within))

-- what comes of the items that are there, one item more
pub some_more_mapped : {X Y Z : Type 0} (f : Y → Z) (g : X → Option Y) (xs : List X) (x : X) → map f (filter_map g (xs ++ x ∷ [])) ≡ map f (filter_map g xs) ++ option_map_or (λ y. f y ∷ []) (g x) []
some_more_mapped f g [] x = elim (g x) as (λ o. map f (cons_option o []) ≡ option_map_or (λ y. f y ∷ []) o []) [ Some y ↦ refl | None ↦ refl ]
some_more_mapped f g (w ∷ xs) x =
    elim (g w) as (λ o. map f (cons_option o (filter_map g (xs ++ x ∷ []))) ≡ map f (cons_option o (filter_map g xs)) ++ option_map_or (λ y. f y ∷ []) (g x) []) [
      | Some y ↦ ap (λ l. f y ∷ l) (some_more_mapped f g xs x)
      | None ↦ some_more_mapped f g xs x
    ]

pub found_more : {X Y Z : Type 0} (f : Y → Z) (g : X → Option Y) (now more : List Z) (xs : List X) (i : ℕ) (d : X) → i < length xs
    → now ≡ map f (filter_map g (take i xs)) → more ≡ now ++ option_map_or (λ y. f y ∷ []) (g (get_or xs i d)) [] → more ≡ map f (filter_map g (take (i + 1) xs))
found_more f g now more xs i d within before put =
    put ∙ ap (λ l. l ++ option_map_or (λ y. f y ∷ []) (g (get_or xs i d)) []) before
    ∙ sym (some_more_mapped f g (take i xs) (get_or xs i d)) ∙ ap (λ l. map f (filter_map g l)) (sym (take_more xs i d within))

-- items that have no float
pub items_without_float : {X : Type 0} (f : X → Data) (xs : List X) → ((x : X) → has_float (f x) ≡ false) → items_have_float (items_of (map f xs)) ≡ false
items_without_float f [] each = refl
items_without_float f (x ∷ xs) each = ap (λ b. b || items_have_float (items_of (map f xs))) (each x) ∙ items_without_float f xs each

names_without_float : (names : NameLists) (pair : Edge × Sample) → items_have_float (items_of (map (λ guard. name_tree names.locks guard.lock) pair.0.guards)) ≡ false
names_without_float names pair = items_without_float (λ guard. name_tree names.locks guard.lock) pair.0.guards (λ guard. refl)

modes_without_float : (pair : Edge × Sample) → items_have_float (items_of (map (λ guard. lock_mode_tree guard.mode) pair.0.guards)) ≡ false
modes_without_float pair = items_without_float (λ guard. lock_mode_tree guard.mode) pair.0.guards (λ guard. refl)

pub edge_without_float : (names : NameLists) (pair : Edge × Sample) → has_float (edge_tree names pair) ≡ false
unfolding edge_tree
edge_without_float names pair =
    ap (λ b. b || (items_have_float (items_of (map (λ guard. name_tree names.locks guard.lock) pair.0.guards)) || false)) (modes_without_float pair)
    ∙ ap (λ b. b || false) (names_without_float names pair)

pub positions_without_float : (positions : List ℕ) → has_float (positions_tree positions) ≡ false
unfolding positions_tree
positions_without_float positions = items_without_float (λ position. number (unsigned position)) positions (λ position. refl)

pub trim_without_float : (trim : Option (List ℕ)) → has_float (trim_tree trim) ≡ false
trim_without_float None = refl
trim_without_float (Some removed) = positions_without_float removed

-- a report has no float
pub report_without_float : (names : NameLists) (report : Report) → has_float (report_tree names report) ≡ false
unfolding report_tree
report_without_float names report =
    ap (λ b. b || (items_have_float (items_of (map (edge_tree names) report.edges)) || (has_float (trim_tree report.trim) || false)))
    (items_without_float positions_tree report.found.cycles positions_without_float)
    ∙ ap (λ b. b || (has_float (trim_tree report.trim) || false)) (items_without_float (edge_tree names) report.edges (edge_without_float names))
    ∙ ap (λ b. b || false) (trim_without_float report.trim)

pub edge_v1_without_float : (names : NameLists) (pair : Edge × Sample) → has_float (edge_tree_v1 names pair) ≡ false
unfolding edge_tree_v1
edge_v1_without_float names pair = ap (λ b. b || false) (names_without_float names pair)

pub cycle_v1_without_float : (names : NameLists) (table : List (Edge × Sample)) (cycle : List ℕ) → has_float (cycle_tree_v1 names table cycle) ≡ false
unfolding cycle_tree_v1
cycle_v1_without_float names table cycle = items_without_float (edge_tree_v1 names) _ (edge_v1_without_float names)

-- a report of format 1 has no float
pub report_v1_without_float : (names : NameLists) (report : Report) → has_float (report_tree_v1 names report) ≡ false
unfolding report_tree_v1
report_v1_without_float names report = ap (λ b. b || false) (items_without_float (cycle_tree_v1 names report.edges) report.found.cycles (cycle_v1_without_float names report.edges))

-- nor have findings
pub findings_without_float : (names : NameLists) (asked : Asked) (table : List (Edge × Sample)) (found : Found) → has_float (findings_tree names asked table found) ≡ false
unfolding findings_tree
findings_without_float names asked table found =
    ap (λ b. b || (items_have_float (items_of (map positions_tree found.cycles)) || false)) (items_without_float (edge_tree names) table (edge_without_float names))
    ∙ ap (λ b. b || false) (items_without_float positions_tree found.cycles positions_without_float)

-- what is said of a line that holds a value is said of the value's tree
pub line_of_tree : {E : Type 0} (line : Result (Vec ℕ Global) E) (shown tree : Data) → shown ≡ tree → has_float tree ≡ false
    → IfOk line (λ t. has_float shown ≡ false → t.items ≡ compact_text shown ++ codes "\n") → IfOk line (λ t. t.items ≡ compact_text tree ++ codes "\n")
line_of_tree (Ok t) shown tree is plain said = said (ap has_float is ∙ plain) ∙ ap (λ d. compact_text d ++ codes "\n") is
line_of_tree (Err e) shown tree is plain said = tt
