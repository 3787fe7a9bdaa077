-- The edges of a path by its positions.
use Rattle.std.proofs.Common.{◌≡◌, ℕ, zero, suc, ◌+◌, ◌-◌, ◌<◌, Bool, true, false, eqb, inl, inr, List, [], ◌∷◌, ◌++◌, length, take, drop, get_or, Some, None, refl, sym, ap, ◌∙◌, arith}
use Rattle.std.specs.Prelude.{slice_get, All}
use Rattle.std.specs.List.{list_all, cons_option}
use Rattle.std.proofs.lemmas.Option.{slice_get-get_or, same_Some}
use Rattle.std.proofs.lemmas.Bool.{and_from, and_left, and_right, cases_eq, eq-eqb, eqb-true, false≢true}
use Rattle.std.proofs.lemmas.List.Folds.{list_all-append}
use Rattle.std.proofs.lemmas.List.{length-map, take_more, get_or-map, take-append-drop}
use Rattle.gl_edges.specs.declared.edge.Edge.{Edge}
use Rattle.gl_edges.specs.declared.edge.Sample.{Sample}
use Rattle.gl_filters.specs.Test.{last_of}
use Rattle.gl_filters.proofs.Paths.{list_all_push}
use Rattle.gl_filters.specs.Picked.{edges_of_table, picked}

-- what a place of the table holds, without its sample
pub edge_at : (table : List (Edge × Sample)) (i : ℕ) (d : Edge × Sample) → i < length table → slice_get (edges_of_table table) i ≡ Some (get_or table i d).0
edge_at table i d within =
    slice_get-get_or (edges_of_table table) i d.0 (omega (arith, length-map table (λ pair. pair.0), within)) ∙ ap Some (get_or-map (λ pair. pair.0) table i d d.0 within)

-- a place within a list has an element
pub element_at : {X : Type 0} (xs : List X) (k : ℕ) → k < length xs → (x : X) × (slice_get xs k ≡ Some x)
element_at [] k within = absurd (omega arith)
element_at (x ∷ xs) zero within = (x, refl)
element_at (x ∷ xs) (suc k) within = element_at xs k (omega arith)

-- what stands behind a front
pub at_behind : {X : Type 0} (front : List X) (x : X) (rest : List X) → slice_get (front ++ x ∷ rest) (length front) ≡ Some x
at_behind [] x rest = refl
at_behind (y ∷ front) x rest = at_behind front x rest

pub picked-append : (edges : List Edge) (xs ys : List ℕ) → picked edges (xs ++ ys) ≡ picked edges xs ++ picked edges ys
picked-append edges [] ys = refl
picked-append edges (x ∷ xs) ys =
    elim (slice_get edges x) as (λ o. cons_option o (picked edges (xs ++ ys)) ≡ cons_option o (picked edges xs) ++ picked edges ys) [
      | Some e ↦ ap (λ l. e ∷ l) (picked-append edges xs ys)
      | None ↦ picked-append edges xs ys
    ]

pub picked-push : (edges : List Edge) (front : List ℕ) (i : ℕ) (f : Edge) → slice_get edges i ≡ Some f → picked edges (front ++ i ∷ []) ≡ picked edges front ++ f ∷ []
picked-push edges front i f at = picked-append edges front (i ∷ []) ∙ ap (λ o. picked edges front ++ cons_option o []) at

-- the first position's edge comes first
pub picked-cons : (edges : List Edge) (i : ℕ) (path : List ℕ) (e : Edge) → slice_get edges i ≡ Some e → picked edges (i ∷ path) ≡ e ∷ picked edges path
picked-cons edges i path e at = ap (λ o. cons_option o (picked edges path)) at

-- each position of the path is one of the edges'
abbrev pub AreWithin : List Edge → List ℕ → Type 0
AreWithin edges path = All (λ i. i < length edges) path

-- as many edges as positions
pub length-picked : (edges : List Edge) (path : List ℕ) → AreWithin edges path → length (picked edges path) ≡ length path
length-picked edges [] within = refl
length-picked edges (i ∷ path) within =
    let here = element_at edges i (within 0 0 (omega arith)) in
    ap (λ o. length (cons_option o (picked edges path))) here.1 ∙ ap suc (length-picked edges path (λ k d lt. within (suc k) d (omega arith)))

-- the last position's edge comes last
pub last_of_picked : (edges : List Edge) (i : ℕ) (path : List ℕ) (e g : Edge) → AreWithin edges path → slice_get edges i ≡ Some e → slice_get edges (get_or (i ∷ path) (length path) 0) ≡ Some g → last_of e (picked edges path) ≡ g
last_of_picked edges i [] e g within at last = same_Some e g (sym at ∙ last)
last_of_picked edges i (j ∷ path) e g within at last =
    let h = get_or edges j e in
    let here : slice_get edges j ≡ Some h = slice_get-get_or edges j e (within 0 0 (omega arith)) in
    ap (last_of e) (picked-cons edges j path h here) ∙ last_of_picked edges j path h g (λ k d lt. within (suc k) d (omega arith)) here last

-- the edges of a path are these: the first one, and others after which the last one stands
pub record AreEnds (edges : List Edge) (path : List ℕ) (first last : Edge) : Type 0 where
  pub others : List Edge
  pub are : picked edges path ≡ first ∷ others
  pub ends : last_of first others ≡ last

pub ends_of : (edges : List Edge) (path : List ℕ) (e g : Edge) → AreWithin edges path → 0 < length path → slice_get edges (get_or path 0 0) ≡ Some e → slice_get edges (get_or path (length path - 1) 0) ≡ Some g → AreEnds edges path e g
ends_of edges [] e g within some first last = absurd (omega arith)
ends_of edges (i ∷ path) e g within some first last =
    let end : length (i ∷ path) - 1 ≡ length path = omega arith in
    let last_at : slice_get edges (get_or (i ∷ path) (length path) 0) ≡ Some g = sym (ap (λ k. slice_get edges (get_or (i ∷ path) k 0)) end) ∙ last in
    record {
      others = picked edges path;
      are = picked-cons edges i path e first;
      ends = last_of_picked edges i path e g (λ k d lt. within (suc k) d (omega arith)) first last_at;
    }

module _ (table : List (Edge × Sample)) (path : List ℕ) (within : AreWithin (edges_of_table table) path) where
  -- a position of the path is one of the table's
  pub in_table : (k : ℕ) → k < length path → get_or path k 0 < length table
  in_table k lt = let w = within k 0 lt in omega (arith, length-map table (λ pair. pair.0))

  -- what stands at a position of the path
  at_path : (k : ℕ) (d : Edge × Sample) → k < length path → slice_get (edges_of_table table) (get_or path k 0) ≡ Some (get_or table (get_or path k 0) d).0
  at_path k d lt = edge_at table (get_or path k 0) d (in_table k lt)

  pub ends_by_table : (first last : Edge × Sample) → 0 < length path → AreEnds (edges_of_table table) path (get_or table (get_or path 0 0) first).0 (get_or table (get_or path (length path - 1) 0) last).0
  ends_by_table first last some = ends_of (edges_of_table table) path _ _ within some (at_path 0 first some) (at_path (length path - 1) last (omega arith))

  more_by_table : (k : ℕ) (d : Edge × Sample) → k < length path → picked (edges_of_table table) (take (k + 1) path) ≡ picked (edges_of_table table) (take k path) ++ (get_or table (get_or path k 0) d).0 ∷ []
  more_by_table k d lt = ap (picked (edges_of_table table)) (take_more path k 0 lt) ∙ picked-push (edges_of_table table) (take k path) (get_or path k 0) _ (at_path k d lt)

  -- each of a front passes, and one more
  pub all_more : (p : Edge → Bool) (k : ℕ) (d : Edge × Sample) → k < length path → list_all p (picked (edges_of_table table) (take k path)) ≡ true → p (get_or table (get_or path k 0) d).0 ≡ true → list_all p (picked (edges_of_table table) (take (k + 1) path)) ≡ true
  all_more p k d lt before here = ap (list_all p) (more_by_table k d lt) ∙ list_all_push p _ _ ∙ and_from _ _ before here

  -- one doesn't pass
  pub all_not : (p : Edge → Bool) (k : ℕ) (d : Edge × Sample) → k < length path → p (get_or table (get_or path k 0) d).0 ≡ false → list_all p (picked (edges_of_table table) path) ≡ false
  all_not p k d lt fails =
      ap (λ l. list_all p (picked (edges_of_table table) l)) (sym (take-append-drop (k + 1) path)) ∙ ap (list_all p) (picked-append (edges_of_table table) (take (k + 1) path) (drop (k + 1) path))
      ∙ list_all-append p _ _ ∙ and_left _ _ (ap (list_all p) (more_by_table k d lt) ∙ list_all_push p _ _ ∙ and_right _ _ fails)

-- what a test of emptiness tells
pub none_from_test : {X : Type 0} (xs : List X) → true ≡ eqb (length xs) 0 → length xs ≡ 0
none_from_test xs is = eqb-true (length xs) 0 (sym is)

pub some_from_test : {X : Type 0} (xs : List X) → false ≡ eqb (length xs) 0 → 0 < length xs
some_from_test xs is =
    elim (cases_eq (length xs) 0) [
      | inl none ↦ absurd (false≢true (is ∙ eq-eqb (length xs) 0 none))
      | inr some ↦ omega arith
    ]
