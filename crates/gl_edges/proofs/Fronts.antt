-- The edges of a list's first events don't depend on what comes after them.
use Rattle.std.proofs.Common.{◌≡◌, ℕ, zero, suc, ◌+◌, ◌<◌, ◌≤◌, List, [], ◌∷◌, ◌++◌, length, refl, sym, ap, ◌∙◌, arith}
use Rattle.std.specs.Prelude.{take, slice_get}
use Rattle.std.specs.List.{flat_map, range_with_len}
use Rattle.std.specs.Option.{option_map_or}
use Rattle.std.proofs.lemmas.List.{append-nil, take-append-le, length_push}
use Rattle.std.proofs.lemmas.List.Concat.{flat_map-append}
use Rattle.gl_event.specs.declared.events.Event.{Event}
use Rattle.gl_event.proofs.Depths.{slice_get_before}
use Rattle.gl_edges.specs.Edges.{edges_after, edges_at, edges_below, edges_of_list}
use Rattle.gl_edges.proofs.Gathering.{range_push}

-- the edges that an event makes are those that it makes in the list up to it
pub edges_at_front : (thread : ℕ) (front more : List Event) (place : ℕ) → place < length front → edges_at thread (front ++ more) place ≡ edges_at thread front place
unfolding edges_at
edges_at_front thread front more place within =
    let past : take place (front ++ more) ≡ take place front = take-append-le place front more (omega arith) in
    let here : slice_get (front ++ more) place ≡ slice_get front place = slice_get_before front more place within in
    λ i. option_map_or (edges_after thread (past i)) (here i) []

-- the edges of the events at the first places
edges_below_front : (thread : ℕ) (front more : List Event) (n : ℕ) → n ≤ length front → edges_below thread (front ++ more) n ≡ edges_below thread front n
edges_below_front thread front more zero within = refl
edges_below_front thread front more (suc n) within =
    one_more (front ++ more)
    ∙ (λ i. edges_below_front thread front more n (omega arith) i ++ edges_at_front thread front more n (omega arith) i)
    ∙ sym (one_more front)
  where
    one_more : (es : List Event) → edges_below thread es (suc n) ≡ edges_below thread es n ++ edges_at thread es n
    one_more es =
        ap (flat_map (edges_at thread es)) (range_push 0 n)
        ∙ flat_map-append (edges_at thread es) (range_with_len 0 n) ((0 + n) ∷ [])
        ∙ ap (λ xs. edges_below thread es n ++ xs) (append-nil (edges_at thread es (0 + n)) ∙ ap (edges_at thread es) from_zero)
      where
        from_zero : 0 + n ≡ n
        from_zero = omega arith

-- a list with one more event has the edges of the event beside those it had
pub edges_of_more : (thread : ℕ) (es : List Event) (e : Event) → edges_of_list thread (es ++ e ∷ []) ≡ edges_of_list thread es ++ edges_at thread (es ++ e ∷ []) (length es)
edges_of_more thread es e =
    ap (edges_below thread (es ++ e ∷ [])) (length_push es e ∙ add_one)
    ∙ ap (flat_map (edges_at thread (es ++ e ∷ []))) (range_push 0 (length es))
    ∙ flat_map-append (edges_at thread (es ++ e ∷ [])) (range_with_len 0 (length es)) ((0 + length es) ∷ [])
    ∙ (λ i. edges_below_front thread es (e ∷ []) (length es) (omega arith) i ++ last i)
  where
    add_one : length es + 1 ≡ suc (length es)
    add_one = omega arith

    from_zero : 0 + length es ≡ length es
    from_zero = omega arith

    last : edges_at thread (es ++ e ∷ []) (0 + length es) ++ [] ≡ edges_at thread (es ++ e ∷ []) (length es)
    last = append-nil (edges_at thread (es ++ e ∷ []) (0 + length es)) ∙ ap (edges_at thread (es ++ e ∷ [])) from_zero
