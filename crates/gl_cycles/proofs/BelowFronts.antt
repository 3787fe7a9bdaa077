-- What lies below a front, by what the front is.
use Rattle.std.proofs.Common.{◌≡◌, ◌≢◌, ℕ, suc, ◌<◌, Bool, true, false, cond, List, [], ◌∷◌, ◌++◌, length, map, filter, Some, None, refl, sym, ap, ◌∙◌, arith, inl, inr}
use Rattle.std.specs.Prelude.{slice_get}
use Rattle.std.specs.List.{flat_map, range_with_len, cons_option, list_all}
use Rattle.std.proofs.lemmas.Bool.{and_left, and_right, eq-eqb, cases_eq, not_from_true}
use Rattle.std.proofs.lemmas.List.{append-nil}
use Rattle.gl_event.specs.declared.events.Segment.{Segment}
use Rattle.gl_edges.specs.declared.edge.Edge.{Edge}
use Rattle.gl_filters.specs.declared.query.Mode.{Mode}
use Rattle.gl_filters.proofs.Cycling.{leads_not, leads_same}
use Rattle.gl_filters.specs.Test.{goes_with, leads_to, is_path, is_cycle, can_follow, leads_back, last_of}
use Rattle.gl_filters.proofs.Paths.{is_path_push, is_path-cut, last_of_push, list_all_push}
use Rattle.gl_filters.specs.Picked.{picked}
use Rattle.gl_cycles.specs.AllCycles.{lists_below, all_cycles}
use Rattle.gl_cycles.specs.bodies.Blocks.{block, blocks_below}
use Rattle.gl_cycles.proofs.ListsOfPositions.{filter-flat_map, map-flat_map, same_flat_map, map-one_more, map-nothing, filter-none}

pub picked-append : (edges : List Edge) (xs ys : List ℕ) → picked edges (xs ++ ys) ≡ picked edges xs ++ picked edges ys
picked-append edges [] ys = refl
picked-append edges (x ∷ xs) ys =
    elim (slice_get edges x) as (λ o. cons_option o (picked edges (xs ++ ys)) ≡ cons_option o (picked edges xs) ++ picked edges ys) [
      | Some e ↦ ap (λ l. e ∷ l) (picked-append edges xs ys)
      | None ↦ picked-append edges xs ys
    ]

pub picked-push : (edges : List Edge) (front : List ℕ) (i : ℕ) (f : Edge) → slice_get edges i ≡ Some f → picked edges (front ++ i ∷ []) ≡ picked edges front ++ f ∷ []
picked-push edges front i f at = picked-append edges front (i ∷ []) ∙ ap (λ o. picked edges front ++ cons_option o []) at

one_before : (b : Bool) (front : List ℕ) (ls : List (List ℕ)) → cond b (front ∷ ls) ls ≡ cond b (front ∷ []) [] ++ ls
one_before true front ls = refl
one_before false front ls = refl

module _ (before : Segment → Segment → Bool) (mode : Mode) (edges : List Edge) where
  -- all cycles are those that begin with nothing
  pub all_cycles-block : (len : ℕ) → all_cycles before mode len edges ≡ block before mode edges len []
  unfolding all_cycles block
  all_cycles-block len = ap (filter (λ positions. is_cycle before mode (picked edges positions))) (sym (map-nothing (lists_below (length edges) len)))

  abbrev this_one : List ℕ → List (List ℕ)
  this_one front = cond (is_cycle before mode (picked edges front)) (front ∷ []) []

  pub block-zero : (front : List ℕ) → block before mode edges 0 front ≡ cond (is_cycle before mode (picked edges front)) (front ∷ []) []
  unfolding block
  block-zero front = rw append-nil

  pub block-suc : (n : ℕ) (front : List ℕ) → block before mode edges (suc n) front ≡ cond (is_cycle before mode (picked edges front)) (front ∷ []) [] ++ blocks_below before mode edges n front (length edges)
  unfolding block
  block-suc n front =
      let p = λ (positions : List ℕ). is_cycle before mode (picked edges positions) in
      let below : filter p (map (λ rest. front ++ rest) (flat_map (λ i. map (λ rest. i ∷ rest) (lists_below (length edges) n)) (range_with_len 0 (length edges)))) ≡ flat_map (λ i. filter p (map (λ rest. (front ++ i ∷ []) ++ rest) (lists_below (length edges) n))) (range_with_len 0 (length edges)) =
      ap (filter p) (map-flat_map (λ rest. front ++ rest) (λ i. map (λ rest. i ∷ rest) (lists_below (length edges) n)) (range_with_len 0 (length edges)))
      ∙ filter-flat_map p (λ i. map (λ rest. front ++ rest) (map (λ rest. i ∷ rest) (lists_below (length edges) n))) (range_with_len 0 (length edges))
      ∙ same_flat_map _ _ (range_with_len 0 (length edges)) (λ i. ap (filter p) (map-one_more front i (lists_below (length edges) n))) in
      rw (append-nil, below) (one_before (is_cycle before mode (picked edges front)) front _)

  -- no cycle begins as no path does
  pub block-cut : (n : ℕ) (front : List ℕ) → is_path before mode (picked edges front) ≡ false → block before mode edges n front ≡ []
  unfolding block is_cycle
  block-cut n front cut =
      filter-none (λ positions. is_cycle before mode (picked edges positions)) front (lists_below (length edges) n)
      (λ rest. and_right _ _ (and_left _ _ (ap (is_path before mode) (picked-append edges front rest) ∙ is_path-cut before mode (picked edges front) (picked edges rest) cut)))

  -- what can't follow leads to no cycle
  pub block-stray : (n : ℕ) (front : List ℕ) (i : ℕ) (f : Edge) → slice_get edges i ≡ Some f → can_follow before mode (picked edges front) f ≡ false → block before mode edges n (front ++ i ∷ []) ≡ []
  block-stray n front i f at stray =
      block-cut n (front ++ i ∷ []) (ap (is_path before mode) (picked-push edges front i f at) ∙ is_path_push before mode (picked edges front) f ∙ and_right _ _ stray)

  -- an edge that the last edge doesn't lead on to can't follow
  pub not_led_on : (e : Edge) (es : List Edge) (f : Edge) → (last_of e es).wanted ≢ f.held → can_follow before mode (e ∷ es) f ≡ false
  unfolding can_follow
  not_led_on e es f other = and_left _ _ (leads_not (last_of e es) f other)

  -- two edges that hold one lock don't go together
  pub same_held : (e f : Edge) → e.held ≡ f.held → goes_with before mode e f ≡ false
  unfolding goes_with
  same_held e f same = and_left _ _ (and_left _ _ (not_from_true _ (eq-eqb _ _ same)))

  -- nothing follows an edge that leads on only to what doesn't go with all before it
  pub none_after_astray : (es : List Edge) (f g : Edge) → 0 < length es → (f.wanted ≡ g.held → list_all (λ d. goes_with before mode d g) es ≡ false) → can_follow before mode (es ++ f ∷ []) g ≡ false
  unfolding can_follow
  none_after_astray [] f g some apart = absurd (omega arith)
  none_after_astray (e ∷ es) f g some apart =
      elim (cases_eq f.wanted g.held) [
        | inl same ↦ and_right _ _ (and_left _ _ (list_all_push (λ d. goes_with before mode d g) (e ∷ es) f ∙ and_left _ _ (apart same)))
        | inr other ↦ and_left _ _ (ap (λ d. leads_to d g) (last_of_push e es f) ∙ leads_not f g other)
      ]

  -- nothing follows a last edge that leads back to the first
  pub none_after_closed : (e : Edge) (es : List Edge) (f : Edge) → leads_back (e ∷ es) ≡ true → can_follow before mode (e ∷ es) f ≡ false
  unfolding can_follow
  none_after_closed e es f closed =
      elim (cases_eq (last_of e es).wanted f.held) [
        | inl same ↦ and_right _ _ (and_left _ _ (and_left _ _ (same_held e f (sym (leads_same (last_of e es) e closed) ∙ same))))
        | inr other ↦ and_left _ _ (leads_not (last_of e es) f other)
      ]
