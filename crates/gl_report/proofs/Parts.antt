-- A text that grows edge by edge and cycle by cycle.
use Rattle.std.proofs.Common.{◌≡◌, ℕ, ◌+◌, ◌<◌, List, [], ◌∷◌, ◌++◌, length, take, get_or, map, Option, Some, None, refl, sym, ap, ◌∙◌, arith}
use Rattle.std.specs.List.{filter_map, flat_map, cons_option}
use Rattle.std.specs.Option.{option_map, option_map_or}
use Rattle.std.specs.Prelude.{slice_get}
use Rattle.std.proofs.lemmas.Option.{slice_get-map}
use Rattle.std.proofs.lemmas.List.{append_assoc, append-nil, take_more, map_more, length-map, length-take-le}
use Rattle.gl_std.specs.Names.{NameLists}
use Rattle.gl_edges.specs.declared.edge.Edge.{Edge}
use Rattle.gl_edges.specs.declared.edge.Sample.{Sample}
use Rattle.gl_findings.specs.Counts.{counts_of}
use Rattle.gl_findings.specs.declared.listing.Listing.{Listing}
use Rattle.gl_findings.specs.declared.listing.Listing.TheVariants.{Cycles, Findings}
use Rattle.gl_report.specs.Text.{counts_line, cycle_text, cycles_text, edge_line, edge_text}
use Rattle.gl_report.specs.bodies.Counted.{listed_counts}

-- what is put for the items that are there, one item more
pub some_more : {X Y : Type 0} (f : Y → List ℕ) (g : X → Option Y) (xs : List X) (x : X) → flat_map f (filter_map g (xs ++ x ∷ [])) ≡ flat_map f (filter_map g xs) ++ option_map_or f (g x) []
some_more f g [] x = elim (g x) as (λ o. flat_map f (cons_option o []) ≡ option_map_or f o []) [ Some y ↦ append-nil (f y) | None ↦ refl ]
some_more f g (w ∷ xs) x =
    elim (g w) as (λ o. flat_map f (cons_option o (filter_map g (xs ++ x ∷ []))) ≡ flat_map f (cons_option o (filter_map g xs)) ++ option_map_or f (g x) []) [
      | Some y ↦ ap (λ l. f y ++ l) (some_more f g xs x) ∙ sym (append_assoc (f y) (flat_map f (filter_map g xs)) (option_map_or f (g x) []))
      | None ↦ some_more f g xs x
    ]

pub edges_more : {X Y : Type 0} (f : Y → List ℕ) (g : X → Option Y) (start now more : List ℕ) (xs : List X) (i : ℕ) (d : X) → i < length xs
    → now ≡ start ++ flat_map f (filter_map g (take i xs)) → more ≡ now ++ option_map_or f (g (get_or xs i d)) [] → more ≡ start ++ flat_map f (filter_map g (take (i + 1) xs))
edges_more f g start now more xs i d within before put =
    put ∙ ap (λ l. l ++ option_map_or f (g (get_or xs i d)) []) before ∙ append_assoc start _ _
    ∙ ap (λ l. start ++ l) (sym (some_more f g (take i xs) (get_or xs i d)) ∙ ap (λ l. flat_map f (filter_map g l)) (sym (take_more xs i d within)))

-- one cycle more
pub cycles_push : (listing : Listing) (names : NameLists) (table : List (Edge × Sample)) (number : ℕ) (cycles : List (List ℕ)) (cycle : List ℕ)
    → cycles_text listing names table number (cycles ++ cycle ∷ []) ≡ cycles_text listing names table number cycles ++ cycle_text listing names table (number + length cycles) cycle
cycles_push listing names table number [] cycle = let e : number ≡ number + 0 = omega arith in append-nil _ ∙ ap (λ n. cycle_text listing names table n cycle) e
cycles_push listing names table number (c ∷ cycles) cycle =
    let e : number + 1 + length cycles ≡ number + length (c ∷ cycles) = omega arith in
    ap (λ l. cycle_text listing names table number c ++ l) (cycles_push listing names table (number + 1) cycles cycle ∙ ap (λ n. cycles_text listing names table (number + 1) cycles ++ cycle_text listing names table n cycle) e)
    ∙ sym (append_assoc (cycle_text listing names table number c) (cycles_text listing names table (number + 1) cycles) (cycle_text listing names table (number + length (c ∷ cycles)) cycle))

-- the text of the first cycles, and of one more
pub cycles_more : {X : Type 0} (listing : Listing) (names : NameLists) (table : List (Edge × Sample)) (items : X → List ℕ) (cycles : List X) (i : ℕ) (d : X) (now more : List ℕ) → i < length cycles
    → now ≡ cycles_text listing names table 1 (map items (take i cycles)) → more ≡ now ++ cycle_text listing names table (i + 1) (items (get_or cycles i d)) → more ≡ cycles_text listing names table 1 (map items (take (i + 1) cycles))
cycles_more listing names table items cycles i d now more within before put =
    let first = map items (take i cycles) in
    let count : 1 + length first ≡ i + 1 = omega (arith, length-map (take i cycles) items, length-take-le i cycles (omega arith)) in
    put ∙ ap (λ l. l ++ cycle_text listing names table (i + 1) (items (get_or cycles i d))) before
    ∙ ap (λ n. cycles_text listing names table 1 first ++ cycle_text listing names table n (items (get_or cycles i d))) (sym count)
    ∙ sym (cycles_push listing names table 1 first (items (get_or cycles i d))) ∙ ap (cycles_text listing names table 1) (sym (map_more items cycles i d within))

-- two parts put one after the other
pub two_parts : (start mid end first second both : List ℕ) → mid ≡ start ++ first → end ≡ mid ++ second → first ++ second ≡ both → end ≡ start ++ both
two_parts start mid end first second both one two join = two ∙ ap (λ l. l ++ second) one ∙ append_assoc start first second ∙ ap (λ l. start ++ l) join

-- the line of an edge, and that of its counts if they are listed
pub edge_and_counts : (listing : Listing) (names : NameLists) (table : List (Edge × Sample)) (position : ℕ)
    → option_map_or (edge_line names) (slice_get table position) [] ++ option_map_or counts_line (slice_get (listed_counts listing table) position) [] ≡ option_map_or (edge_text listing names table) (slice_get table position) []
edge_and_counts Cycles names table position = append-nil (option_map_or (edge_line names) (slice_get table position) [])
edge_and_counts Findings names table position =
    ap (λ o. option_map_or (edge_line names) (slice_get table position) [] ++ option_map_or counts_line o []) (slice_get-map (counts_of table) table position) ∙ by (slice_get table position)
  where
    by : (o : Option (Edge × Sample)) → option_map_or (edge_line names) o [] ++ option_map_or counts_line (option_map (counts_of table) o) [] ≡ option_map_or (edge_text Findings names table) o []
    by (Some pair) = refl
    by None = refl
