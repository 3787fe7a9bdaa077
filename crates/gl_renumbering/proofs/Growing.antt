-- Names that grow by first mention keep their numbers.
use Rattle.std.proofs.Common.{◌≡◌, ◌≢◌, ℕ, ◌≤◌, List, [], ◌∷◌, ◌++◌, length, map, take, drop, filter_map, fold, position, unwrap_or, All, AllPairs, Contains, Option, Some, None, refl, sym, ap, subst, ◌∙◌, arith}
use Rattle.std.specs.Prelude.{slice_get}
use Rattle.std.specs.Option.{option_map_or}
use Rattle.std.specs.Str.{bytes_eq}
use Rattle.std.specs.Cmp.Lexicographic.{nat_list_eq_equiv}
use Rattle.std.proofs.lemmas.Bool.{false≢true}
use Rattle.std.proofs.lemmas.Grind.{fold-append}
use Rattle.std.proofs.lemmas.List.{append_assoc, append-nil, length-take, take-append-drop}
use Rattle.std.proofs.lemmas.List.Elements.{All-push, filter_map-append}
use Rattle.std.proofs.lemmas.List.Folds.{list_any_at}
use Rattle.std.proofs.lemmas.List.Quantifiers.{all_pairs_push, position-Some}
use Rattle.std.proofs.lemmas.Map.Made.{length-le_from_is_member, IsDistinct-from_AllPairs, is_member-Decides}
use Rattle.std.proofs.lemmas.Slice.Eq.{bytes_eq-Decides}
use Rattle.gl_std.specs.Names.{NameLists, number_of, with_new}
use Rattle.gl_std.specs.bodies.Finding.{with_name}
use Rattle.gl_std.proofs.NameBytes.{list_any-absent}
use Rattle.gl_std.proofs.Places.{position-push, place_after, itself, number_of as stands_at}
use Rattle.gl_renumbering.specs.Tales.{Tale, lock_in, location_in, mentioned}
use Rattle.gl_renumbering.specs.bodies.Tables.{with_more}

-- ---- one list of names

-- a name that has a number keeps it
pub position-append : (names more : List (List ℕ)) (name : List ℕ) (i : ℕ) → position (bytes_eq name) names ≡ Some i → position (bytes_eq name) (names ++ more) ≡ Some i
position-append names [] name i is = ap (position (bytes_eq name)) (append-nil names) ∙ is
position-append names (next ∷ more) name i is =
    let pushed : position (bytes_eq name) (names ++ next ∷ []) ≡ Some i = position-push (bytes_eq name) names next ∙ ap (λ r. place_after r (bytes_eq name next) (length names)) is in
    ap (position (bytes_eq name)) (sym (append_assoc names (next ∷ []) more)) ∙ position-append (names ++ next ∷ []) more name i pushed

pub number_stays : (names more : List (List ℕ)) (name : List ℕ) (i : ℕ) → position (bytes_eq name) names ≡ Some i → number_of (names ++ more) name ≡ i
number_stays names more name i is = ap (λ r. unwrap_or r (length (names ++ more))) (position-append names more name i is)

-- a name that has a number changes nothing
pub known : (names : List (List ℕ)) (name : List ℕ) (i : ℕ) → position (bytes_eq name) names ≡ Some i → with_new names name ≡ names
known names name i is = ap (λ r. with_name names r name) is

-- what a name adds
abbrev added : Option ℕ → List ℕ → List (List ℕ)
added place name = option_map_or (λ _. []) place (name ∷ [])

with_new-adds : (names : List (List ℕ)) (name : List ℕ) → with_new names name ≡ names ++ added (position (bytes_eq name) names) name
with_new-adds names name = by (position (bytes_eq name) names)
  where
    by : (r : Option ℕ) → with_name names r name ≡ names ++ added r name
    by (Some i) = sym (append-nil names)
    by None = refl

-- a name that has a number keeps it where another one is mentioned
pub position_more : (names : List (List ℕ)) (next name : List ℕ) (i : ℕ) → position (bytes_eq name) names ≡ Some i → position (bytes_eq name) (with_new names next) ≡ Some i
position_more names next name i is = ap (position (bytes_eq name)) (with_new-adds names next) ∙ position-append names (added (position (bytes_eq next) names) next) name i is

-- what the mentions of names add
abbrev all_added : List (List ℕ) → List (List ℕ) → List (List ℕ)
all_added names [] = []
all_added names (name ∷ more) = added (position (bytes_eq name) names) name ++ all_added (with_new names name) more

fold-adds : (names mentions : List (List ℕ)) → fold with_new names mentions ≡ names ++ all_added names mentions
fold-adds names [] = sym (append-nil names)
fold-adds names (name ∷ more) =
    fold-adds (with_new names name) more ∙ ap (λ ns. ns ++ all_added (with_new names name) more) (with_new-adds names name) ∙ append_assoc names (added (position (bytes_eq name) names) name) (all_added (with_new names name) more)

-- ---- names of locks and of locations

pub mentioned_adds : (names : NameLists) (list : List Tale) → (more : NameLists) × (mentioned names list ≡ with_more names more)
mentioned_adds names list = (
  record { threads = []; locks = all_added names.locks (filter_map lock_in list); locs = all_added names.locs (map location_in list) },
  λ i. record { threads = names.threads; locks = fold-adds names.locks (filter_map lock_in list) i; locs = fold-adds names.locs (map location_in list) i },
)

pub map_append : {X Y : Type 0} (f : X → Y) (xs ys : List X) → map f (xs ++ ys) ≡ map f xs ++ map f ys
map_append f [] ys = refl
map_append f (x ∷ xs) ys = ap (λ zs. f x ∷ zs) (map_append f xs ys)

-- tales are mentioned one list after another
pub mentioned-append : (names : NameLists) (list other : List Tale) → mentioned names (list ++ other) ≡ mentioned (mentioned names list) other
mentioned-append names list other = λ i. record {
  threads = names.threads;
  locks = (ap (fold with_new names.locks) (filter_map-append lock_in list other) ∙ fold-append with_new names.locks (filter_map lock_in list) (filter_map lock_in other)) i;
  locs = (ap (fold with_new names.locs) (map_append location_in list other) ∙ fold-append with_new names.locs (map location_in list) (map location_in other)) i;
}

pub with_more-twice : (names some more : NameLists) → with_more (with_more names some) more ≡ with_more names (with_more some more)
with_more-twice names some more = λ i. record { threads = names.threads; locks = append_assoc names.locks some.locks more.locks i; locs = append_assoc names.locs some.locs more.locs i }

pub with_more-none : (names : NameLists) → with_more names (record { threads = []; locks = []; locs = [] }) ≡ names
with_more-none names = λ i. record { threads = names.threads; locks = append-nil names.locks i; locs = append-nil names.locs i }

-- ---- names that are some of others

pub differ_more : (names : List (List ℕ)) (name : List ℕ) → AllPairs (λ a b. a ≢ b) names → AllPairs (λ a b. a ≢ b) (with_new names name)
differ_more names name differ = by (position (bytes_eq name) names) refl
  where
    by : (r : Option ℕ) → position (bytes_eq name) names ≡ r → AllPairs (λ a b. a ≢ b) (with_name names r name)
    by (Some i) e = differ
    by None e = all_pairs_push (λ a b. a ≢ b) names name differ (λ k d within same. false≢true (sym (list_any-absent (bytes_eq name) names e) ∙ list_any_at (bytes_eq name) names k d within (ap (bytes_eq name) same ∙ itself name)))

pub among_more : (old names : List (List ℕ)) (name : List ℕ) → All (Contains old) names → Contains old name → All (Contains old) (with_new names name)
among_more old names name all here = by (position (bytes_eq name) names)
  where
    by : (r : Option ℕ) → All (Contains old) (with_name names r name)
    by (Some i) = all
    by None = All-push (Contains old) names name all here

-- different names of a list are at most as many as it has
pub no_more : (old names : List (List ℕ)) → AllPairs (λ a b. a ≢ b) names → All (Contains old) names → length names ≤ length old
no_more old names differ among =
    length-le_from_is_member nat_list_eq_equiv names old (IsDistinct-from_AllPairs bytes_eq-Decides names differ)
    (λ name here. let at = (is_member-Decides bytes_eq-Decides names name).0 here in (is_member-Decides bytes_eq-Decides old name).1 (subst (Contains old) at.2 (among at.0 name at.1)))

-- the name of a thread isn't among those before it
pub new_after : (names : List (List ℕ)) (i : ℕ) (name : List ℕ) → AllPairs (λ a b. a ≢ b) names → slice_get names i ≡ Some name → position (bytes_eq name) (take i names) ≡ None
new_after names i name differ at = by (position (bytes_eq name) (take i names)) refl
  where
    by : (r : Option ℕ) → position (bytes_eq name) (take i names) ≡ r → r ≡ None
    by None e = refl
    by (Some j) e =
        let whole : position (bytes_eq name) names ≡ Some j = ap (position (bytes_eq name)) (sym (take-append-drop i names)) ∙ position-append (take i names) (drop i names) name j e in
        let here : Some i ≡ Some j = sym (stands_at names name name i differ at (itself name)) ∙ whole in
        let same : i ≡ j = cc in
        let low = (position-Some (bytes_eq name) (take i names) j [] e).0 in
        absurd (omega (arith, same, low, length-take i names))
