-- The edges of a path by its positions.
use Rattle.std.proofs.Common.{◌≡◌, ◌≢◌, ℕ, suc, ◌+◌, ◌-◌, ◌<◌, Bool, true, false, ◌&&◌, eqb, ltb, leb, cond, Less, Equal, Greater, List, [], ◌∷◌, ◌++◌, length, take, drop, get_or, Some, refl, sym, ap, ◌∙◌, arith}
use Rattle.std.specs.Prelude.{slice_get, All}
use Rattle.std.specs.Ordering.{is_lt, nat_cmp}
use Rattle.std.specs.List.{list_all, cons_option}
use Rattle.std.proofs.lemmas.Option.{slice_get-get_or, same_Some}
use Rattle.std.proofs.lemmas.Bool.{and_from, and_left, and_right}
use Rattle.std.proofs.lemmas.List.Folds.{list_all-append}
use Rattle.std.proofs.lemmas.List.{take_more, take-append-drop}
use Rattle.gl_event.specs.declared.events.Segment.{Segment}
use Rattle.gl_edges.specs.declared.edge.Edge.{Edge}
use Rattle.gl_edges.specs.declared.edge.Sample.{Sample}
use Rattle.gl_filters.specs.declared.query.Mode.{Mode}
use Rattle.gl_filters.specs.Test.{leads_to, goes_with, can_follow, leads_back, last_of}
use Rattle.gl_filters.proofs.Cycling.{leads_not}
use Rattle.gl_filters.proofs.Paths.{list_all_push, last_of_push}
use Rattle.gl_filters.specs.Picked.{edges_of_table, picked}
use Rattle.gl_index.proofs.Lists.{element_at}
use Rattle.gl_index.proofs.Tables.{edge_at, AreWithin, within_edges}
use Rattle.gl_cycles.proofs.BelowFronts.{picked-append, picked-push}

-- the first position's edge comes first
pub picked-cons : (edges : List Edge) (i : ℕ) (path : List ℕ) (e : Edge) → slice_get edges i ≡ Some e → picked edges (i ∷ path) ≡ e ∷ picked edges path
picked-cons edges i path e at = ap (λ o. cons_option o (picked edges path)) at

-- as many edges as positions
pub length-picked : (edges : List Edge) (path : List ℕ) → AreWithin edges path → length (picked edges path) ≡ length path
length-picked edges [] within = refl
length-picked edges (i ∷ path) within =
    let here = element_at edges i (within 0 0 (omega arith)) in
    ap (λ o. length (cons_option o (picked edges path))) here.1 ∙ ap suc (length-picked edges path (λ k d lt. within (suc k) d (omega arith)))

-- the last position's edge comes last
pub last_of_picked : (edges : List Edge) (i : ℕ) (path : List ℕ) (e g : Edge) → AreWithin edges path → slice_get edges i ≡ Some e → slice_get edges (get_or (i ∷ path) (length path) 0) ≡ Some g → last_of e (picked edges path) ≡ g
last_of_picked edges i [] e g within at last = same_Some e g (sym at ∙ last)
last_of_picked edges i (j ∷ path) e g within at last =
    let h = get_or edges j e in
    let here : slice_get edges j ≡ Some h = slice_get-get_or edges j e (within 0 0 (omega arith)) in
    ap (last_of e) (picked-cons edges j path h here) ∙ last_of_picked edges j path h g (λ k d lt. within (suc k) d (omega arith)) here last

-- the lock that the last of these edges wants
abbrev pub wanted_after : List Edge → ℕ
wanted_after [] = 0
wanted_after (e ∷ es) = (last_of e es).wanted

-- the lock that the last edge of a path wants
pub wanted_last : (edges : List Edge) (path : List ℕ) (g : Edge) → AreWithin edges path → 0 < length path → slice_get edges (get_or path (length path - 1) 0) ≡ Some g → g.wanted ≡ wanted_after (picked edges path)
wanted_last edges [] g within some last = absurd (omega arith)
wanted_last edges (i ∷ path) g within some last =
    let end : length (i ∷ path) - 1 ≡ length path = omega arith in
    let first = element_at edges i (within 0 0 (omega arith)) in
    let last_at : slice_get edges (get_or (i ∷ path) (length path) 0) ≡ Some g = sym (ap (λ k. slice_get edges (get_or (i ∷ path) k 0)) end) ∙ last in
    sym (ap wanted_after (picked-cons edges i path first.0 first.1) ∙ ap (λ h. h.wanted) (last_of_picked edges i path first.0 g (λ k d lt. within (suc k) d (omega arith)) first.1 last_at))

-- the lock that the first of these edges holds
abbrev pub held_first : List Edge → ℕ
held_first [] = 0
held_first (e ∷ es) = e.held

-- an edge that wants another lock than the first one holds doesn't close a path
pub unclosed-push : (es : List Edge) (f : Edge) → 0 < length es → f.wanted ≢ held_first es → leads_back (es ++ f ∷ []) ≡ false
unclosed-push [] f some other = absurd (omega arith)
unclosed-push (e ∷ es) f some other = ap (λ h. leads_to h e) (last_of_push e es f) ∙ leads_not f e other

first_held : (edges : List Edge) (path : List ℕ) (e : Edge) → 0 < length path → slice_get edges (get_or path 0 0) ≡ Some e → e.held ≡ held_first (picked edges path)
first_held edges [] e some first = absurd (omega arith)
first_held edges (i ∷ path) e some first = sym (ap held_first (picked-cons edges i path e first))

-- whether a path is closed, by its first and its last edge
pub leads_back-picked : (edges : List Edge) (path : List ℕ) (e g : Edge) → AreWithin edges path → 0 < length path
    → slice_get edges (get_or path 0 0) ≡ Some e → slice_get edges (get_or path (length path - 1) 0) ≡ Some g → leads_back (picked edges path) ≡ leads_to g e
leads_back-picked edges [] e g within some first last = absurd (omega arith)
leads_back-picked edges (i ∷ path) e g within some first last =
    let end : length (i ∷ path) - 1 ≡ length path = omega arith in
    let last_at : slice_get edges (get_or (i ∷ path) (length path) 0) ≡ Some g = sym (ap (λ k. slice_get edges (get_or (i ∷ path) k 0)) end) ∙ last in
    ap leads_back (picked-cons edges i path e first) ∙ ap (λ h. leads_to h e) (last_of_picked edges i path e g (λ k d lt. within (suc k) d (omega arith)) first last_at)

-- what may follow a path, by its first and its last edge
pub can_follow-picked : (before : Segment → Segment → Bool) (mode : Mode) (edges : List Edge) (path : List ℕ) (e g f : Edge) → AreWithin edges path → 0 < length path
    → slice_get edges (get_or path 0 0) ≡ Some e → slice_get edges (get_or path (length path - 1) 0) ≡ Some g
    → can_follow before mode (picked edges path) f ≡ (leads_to g f && (list_all (λ d. goes_with before mode d f) (picked edges path) && leb e.thread f.thread))
unfolding can_follow
can_follow-picked before mode edges [] e g f within some first last = absurd (omega arith)
can_follow-picked before mode edges (i ∷ path) e g f within some first last =
    let end : length (i ∷ path) - 1 ≡ length path = omega arith in
    let last_at : slice_get edges (get_or (i ∷ path) (length path) 0) ≡ Some g = sym (ap (λ k. slice_get edges (get_or (i ∷ path) k 0)) end) ∙ last in
    let es = picked-cons edges i path e first in
    ap (λ l. can_follow before mode l f) es
    ∙ ap (λ h. leads_to h f && (list_all (λ d. goes_with before mode d f) (e ∷ picked edges path) && leb e.thread f.thread)) (last_of_picked edges i path e g (λ k d lt. within (suc k) d (omega arith)) first last_at)
    ∙ ap (λ l. leads_to g f && (list_all (λ d. goes_with before mode d f) l && leb e.thread f.thread)) (sym es)

-- one more position of the path
pub picked-more : (edges : List Edge) (path : List ℕ) (k : ℕ) (e : Edge) → k < length path → slice_get edges (get_or path k 0) ≡ Some e → picked edges (take (k + 1) path) ≡ picked edges (take k path) ++ e ∷ []
picked-more edges path k e within at = ap (picked edges) (take_more path k 0 within) ∙ picked-push edges (take k path) (get_or path k 0) e at

module _ (table : List (Edge × Sample)) (path : List ℕ) (within : All (λ i. i < length table) path) where
  -- what stands at a position of the path
  at_path : (k : ℕ) (d : Edge × Sample) → k < length path → slice_get (edges_of_table table) (get_or path k 0) ≡ Some (get_or table (get_or path k 0) d).0
  at_path k d lt = edge_at table (get_or path k 0) d (within k 0 lt)

  pub closed_by_table : (first last : Edge × Sample) → 0 < length path
      → leads_back (picked (edges_of_table table) path) ≡ leads_to (get_or table (get_or path (length path - 1) 0) last).0 (get_or table (get_or path 0 0) first).0
  closed_by_table first last some = leads_back-picked (edges_of_table table) path _ _ (within_edges table path within) some (at_path 0 first some) (at_path (length path - 1) last (omega arith))

  pub follow_by_table : (before : Segment → Segment → Bool) (mode : Mode) (f : Edge) (first last : Edge × Sample) → 0 < length path
      → can_follow before mode (picked (edges_of_table table) path) f
      ≡ (leads_to (get_or table (get_or path (length path - 1) 0) last).0 f && (list_all (λ d. goes_with before mode d f) (picked (edges_of_table table) path) && leb (get_or table (get_or path 0 0) first).0.thread f.thread))
  follow_by_table before mode f first last some = can_follow-picked before mode (edges_of_table table) path _ _ f (within_edges table path within) some (at_path 0 first some) (at_path (length path - 1) last (omega arith))

  pub more_by_table : (k : ℕ) (d : Edge × Sample) → k < length path → picked (edges_of_table table) (take (k + 1) path) ≡ picked (edges_of_table table) (take k path) ++ (get_or table (get_or path k 0) d).0 ∷ []
  more_by_table k d lt = picked-more (edges_of_table table) path k _ lt (at_path k d lt)

  -- each of a front passes, and one more
  pub all_more : (p : Edge → Bool) (k : ℕ) (d : Edge × Sample) → k < length path → list_all p (picked (edges_of_table table) (take k path)) ≡ true → p (get_or table (get_or path k 0) d).0 ≡ true → list_all p (picked (edges_of_table table) (take (k + 1) path)) ≡ true
  all_more p k d lt before here = ap (list_all p) (more_by_table k d lt) ∙ list_all_push p _ _ ∙ and_from _ _ before here

  -- one doesn't pass
  pub all_not : (p : Edge → Bool) (k : ℕ) (d : Edge × Sample) → k < length path → p (get_or table (get_or path k 0) d).0 ≡ false → list_all p (picked (edges_of_table table) path) ≡ false
  all_not p k d lt fails =
      ap (λ l. list_all p (picked (edges_of_table table) l)) (sym (take-append-drop (k + 1) path)) ∙ ap (list_all p) (picked-append (edges_of_table table) (take (k + 1) path) (drop (k + 1) path))
      ∙ list_all-append p _ _ ∙ and_left _ _ (ap (list_all p) (more_by_table k d lt) ∙ list_all_push p _ _ ∙ and_right _ _ fails)

  -- the lock that the last edge of the path wants
  pub wanted_by_table : (d : Edge × Sample) → 0 < length path → (get_or table (get_or path (length path - 1) 0) d).0.wanted ≡ wanted_after (picked (edges_of_table table) path)
  wanted_by_table d some = wanted_last (edges_of_table table) path _ (within_edges table path within) some (at_path (length path - 1) d (omega arith))

  -- the lock that its first one holds
  pub held_by_table : (d : Edge × Sample) → 0 < length path → (get_or table (get_or path 0 0) d).0.held ≡ held_first (picked (edges_of_table table) path)
  held_by_table d some = first_held (edges_of_table table) path _ some (at_path 0 d some)

  pub some_picked : 0 < length path → 0 < length (picked (edges_of_table table) path)
  some_picked some = let l = length-picked (edges_of_table table) path (within_edges table path within) in omega arith

-- the edge at a position of a table
pub is_there : (table : List (Edge × Sample)) (i : ℕ) (d : Edge × Sample) (f : Edge) → i < length table → slice_get (edges_of_table table) i ≡ Some f → f ≡ (get_or table i d).0
is_there table i d f within at = same_Some _ _ (sym at ∙ edge_at table i d within)

by_tests : (b c : Bool) → is_lt (cond b Less (cond c Equal Greater)) ≡ b
by_tests true c = refl
by_tests false true = refl
by_tests false false = refl

-- a lesser thread, by the test that the code makes
pub lesser_thread : (a b : ℕ) → is_lt (nat_cmp a b) ≡ ltb a b
lesser_thread a b = by_tests (ltb a b) (eqb a b)
