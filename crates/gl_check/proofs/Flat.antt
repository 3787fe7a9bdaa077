-- Objects of numbers and texts: they have no float, and nest little.
use Rattle.std.proofs.Common.{◌≡◌, ℕ, ◌≤◌, Bool, true, false, ◌&&◌, ◌||◌, List, [], ◌∷◌, map, max, refl, ap, ◌∙◌, arith}
use Rattle.std.specs.Prelude.{codes, is_some}
use Rattle.std.specs.List.{list_all}
use Rattle.std.proofs.lemmas.Bool.{false≢true}
use Rattle.serde_json.specs.Data.{unsigned, negative, float, Data, null, boolean, number, string, array, object, Items, no_items, item, Members, no_members, member, depth, items_depth, members_depth}
use Rattle.serde_json.specs.Find.{as_str}
use Rattle.serde_json.specs.View.{items_of}
use Rattle.serde_json.specs.Written.{has_float, items_have_float, members_have_float}
use Rattle.gl_std.specs.Names.{NameLists}
use Rattle.gl_edges.specs.declared.edge.Edge.{Edge}
use Rattle.gl_edges.specs.declared.edge.Sample.{Sample}
use Rattle.gl_report.specs.Tree.{edge_tree, lock_mode_tree, name_tree}
use Rattle.gl_report.specs.TreeV1.{edge_tree_v1}
use Rattle.gl_check.specs.Shape.{is_edge, is_letter, is_of, have_fields, has_fields, edge_fields, edge_fields_v1, items_listed, number_under}
use Rattle.gl_check.specs.declared.fields.Kind.{Kind}
use Rattle.gl_check.specs.declared.fields.Kind.TheVariants.{Number, Exactly, Name, Names, Letter, Letters, Word, Flag, Array, Trim}

-- what is flat: it has no float and nests once at the most
pub record IsFlat (d : Data) : Type 0 where
  pub plain : has_float d ≡ false
  pub low : depth d ≤ 1

pub record AreFlat (members : Members) : Type 0 where
  pub plain : members_have_float members ≡ false
  pub low : members_depth members ≤ 1

-- both halves of a test that was passed
pub both : (a b : Bool) → (a && b) ≡ true → (a ≡ true) × (b ≡ true)
both true b is = (refl, is)
both false b is = absurd (false≢true is)

-- texts
texts : (ds : Items) → list_all (λ name. is_some (as_str name)) (items_listed ds) ≡ true → (items_have_float ds ≡ false) × (items_depth ds ≡ 0)
texts no_items is = (refl, refl)
texts (item null ds) is = absurd (false≢true is)
texts (item (boolean b) ds) is = absurd (false≢true is)
texts (item (number n) ds) is = absurd (false≢true is)
texts (item (string s) ds) is = let rest = texts ds is in (rest.0, ap (max 0) rest.1)
texts (item (array es) ds) is = absurd (false≢true is)
texts (item (object ms) ds) is = absurd (false≢true is)

-- letters for modes of locks
letters : (ds : Items) → list_all is_letter (items_listed ds) ≡ true → (items_have_float ds ≡ false) × (items_depth ds ≡ 0)
letters no_items is = (refl, refl)
letters (item null ds) is = absurd (false≢true is)
letters (item (boolean b) ds) is = absurd (false≢true is)
letters (item (number n) ds) is = absurd (false≢true is)
letters (item (string s) ds) is = let rest = letters ds (both (is_letter (string s)) _ is).1 in (rest.0, ap (max 0) rest.1)
letters (item (array es) ds) is = absurd (false≢true is)
letters (item (object ms) ds) is = absurd (false≢true is)

-- the kinds that are flat
abbrev flat_kind : Kind → Bool
flat_kind Number = true
flat_kind (Exactly n) = true
flat_kind Name = true
flat_kind Names = true
flat_kind Letter = true
flat_kind Letters = true
flat_kind Word = true
flat_kind Flag = true
flat_kind Array = false
flat_kind Trim = false

flat_value : (kind : Kind) (d : Data) → flat_kind kind ≡ true → is_of kind d ≡ true → IsFlat d
flat_value kind null flat is = record { plain = refl; low = omega arith }
flat_value kind (boolean b) flat is = record { plain = refl; low = omega arith }
flat_value kind (string s) flat is = record { plain = refl; low = omega arith }
flat_value kind (number (unsigned n)) flat is = record { plain = refl; low = omega arith }
flat_value kind (number (negative z)) flat is = record { plain = refl; low = omega arith }
flat_value Number (number (float x)) flat is = absurd (false≢true is)
flat_value (Exactly n) (number (float x)) flat is = absurd (false≢true is)
flat_value Name (number (float x)) flat is = absurd (false≢true is)
flat_value Names (number (float x)) flat is = absurd (false≢true is)
flat_value Letter (number (float x)) flat is = absurd (false≢true is)
flat_value Letters (number (float x)) flat is = absurd (false≢true is)
flat_value Word (number (float x)) flat is = absurd (false≢true is)
flat_value Flag (number (float x)) flat is = absurd (false≢true is)
flat_value Array (number (float x)) flat is = absurd (false≢true flat)
flat_value Trim (number (float x)) flat is = absurd (false≢true flat)
flat_value Number (array ds) flat is = absurd (false≢true is)
flat_value (Exactly n) (array ds) flat is = absurd (false≢true is)
flat_value Name (array ds) flat is = absurd (false≢true is)
flat_value Names (array ds) flat is = let names = texts ds is in record { plain = names.0; low = (let low = names.1 in omega arith) }
flat_value Letter (array ds) flat is = absurd (false≢true is)
flat_value Letters (array ds) flat is = let names = letters ds is in record { plain = names.0; low = (let low = names.1 in omega arith) }
flat_value Word (array ds) flat is = absurd (false≢true is)
flat_value Flag (array ds) flat is = absurd (false≢true is)
flat_value Array (array ds) flat is = absurd (false≢true flat)
flat_value Trim (array ds) flat is = absurd (false≢true flat)
flat_value Number (object ms) flat is = absurd (false≢true is)
flat_value (Exactly n) (object ms) flat is = absurd (false≢true is)
flat_value Name (object ms) flat is = absurd (false≢true is)
flat_value Names (object ms) flat is = absurd (false≢true is)
flat_value Letter (object ms) flat is = absurd (false≢true is)
flat_value Letters (object ms) flat is = absurd (false≢true is)
flat_value Word (object ms) flat is = absurd (false≢true is)
flat_value Flag (object ms) flat is = absurd (false≢true is)
flat_value Array (object ms) flat is = absurd (false≢true flat)
flat_value Trim (object ms) flat is = absurd (false≢true flat)

both_low : (m n : ℕ) → m ≤ 1 → n ≤ 1 → max m n ≤ 1
both_low m n one two = omega arith

flat_members : (fields : List (List ℕ × Kind)) (members : Members) → list_all (λ field. flat_kind field.1) fields ≡ true → have_fields fields members ≡ true → AreFlat members
flat_members [] no_members flat is = record { plain = refl; low = omega arith }
flat_members [] (member key d rest) flat is = absurd (false≢true is)
flat_members (field ∷ fields) no_members flat is = absurd (false≢true is)
flat_members (field ∷ fields) (member key d rest) flat is =
    let kinds = both (flat_kind field.1) _ flat in
    let tests = both _ _ (both _ _ is).1 in
    let here = flat_value field.1 d kinds.0 tests.0 in
    let later = flat_members fields rest kinds.1 tests.1 in
    record { plain = ap (λ b. b || members_have_float rest) here.plain ∙ later.plain; low = both_low (depth d) (members_depth rest) here.low later.low }

-- an object with keys of flat values
flat_object : (fields : List (List ℕ × Kind)) (d : Data) → list_all (λ field. flat_kind field.1) fields ≡ true → has_fields fields d ≡ true → (has_float d ≡ false) × (depth d ≤ 127)
flat_object fields null flat is = absurd (false≢true is)
flat_object fields (boolean b) flat is = absurd (false≢true is)
flat_object fields (number n) flat is = absurd (false≢true is)
flat_object fields (string s) flat is = absurd (false≢true is)
flat_object fields (array ds) flat is = absurd (false≢true is)
flat_object fields (object ms) flat is = let are = flat_members fields ms flat is in (are.plain, let low = are.low in omega arith)

-- an object with the keys of an edge
pub edge_v1_is_flat : (d : Data) → has_fields edge_fields_v1 d ≡ true → (has_float d ≡ false) × (depth d ≤ 127)
edge_v1_is_flat d is = flat_object edge_fields_v1 d refl is

pub edge_is_flat : (d : Data) → is_edge d ≡ true → (has_float d ≡ false) × (depth d ≤ 127)
edge_is_flat d is = flat_object edge_fields d refl (both (has_fields edge_fields d) _ is).0

low_items : {X : Type 0} (f : X → Data) (xs : List X) → ((x : X) → depth (f x) ≡ 0) → items_depth (items_of (map f xs)) ≡ 0
low_items f [] each = refl
low_items f (x ∷ xs) each = ap (λ n. max n (items_depth (items_of (map f xs)))) (each x) ∙ ap (max 0) (low_items f xs each)

-- what is printed of an edge
pub tree_v1_is_low : (names : NameLists) (pair : Edge × Sample) → depth (edge_tree_v1 names pair) ≤ 127
unfolding edge_tree_v1
tree_v1_is_low names pair = let low = low_items (λ guard. name_tree names.locks guard.lock) pair.0.guards (λ guard. refl) in omega arith

pub tree_is_low : (names : NameLists) (pair : Edge × Sample) → depth (edge_tree names pair) ≤ 127
unfolding edge_tree
tree_is_low names pair =
    let low = low_items (λ guard. name_tree names.locks guard.lock) pair.0.guards (λ guard. refl) in
    let modes_low = low_items (λ guard. lock_mode_tree guard.mode) pair.0.guards (λ guard. refl) in
    omega arith

-- the place in what is printed of an edge
pub place_in : (names : NameLists) (pair : Edge × Sample) → number_under (codes "place") (edge_tree_v1 names pair) ≡ pair.1.place
unfolding edge_tree_v1
place_in names pair = refl
