-- The edges at the positions of a list.
use Rattle.std.proofs.Common.{◌≡◌, ℕ, zero, suc, ◌<◌, List, [], ◌∷◌, length, get_or, map, Some, refl, sym, ap, ◌∙◌, inl, inr, arith}
use Rattle.std.specs.Prelude.{slice_get, All}
use Rattle.std.specs.List.{filter_map, cons_option}
use Rattle.std.specs.Option.{option_map}
use Rattle.std.proofs.lemmas.List.{length-map}
use Rattle.std.proofs.lemmas.Option.{slice_get_cases, slice_get-map}
use Rattle.gl_edges.specs.declared.edge.Edge.{Edge}
use Rattle.gl_edges.specs.declared.edge.Sample.{Sample}
use Rattle.gl_filters.specs.Picked.{edges_of_table, picked}

picked_at_place : (edges : List Edge) (ps : List ℕ) → All (λ p. p < length edges) ps → (k : ℕ) → k < length ps → slice_get (filter_map (slice_get edges) ps) k ≡ slice_get edges (get_or ps k 0)
picked_at_place edges [] within k below = absurd (omega arith)
picked_at_place edges (p ∷ ps) within zero below =
    elim ((slice_get_cases edges p).1) [
      | inl there ↦ ap (λ o. slice_get (cons_option o (filter_map (slice_get edges) ps)) 0) there.2 ∙ sym there.2
      | inr past ↦ absurd (omega (arith, past.0, within 0 p (omega arith)))
    ]
picked_at_place edges (p ∷ ps) within (suc k) below =
    elim ((slice_get_cases edges p).1) [
      | inl there ↦
          ap (λ o. slice_get (cons_option o (filter_map (slice_get edges) ps)) (suc k)) there.2
          ∙ picked_at_place edges ps (λ i d lower. within (suc i) d (omega arith)) k (omega arith)
      | inr past ↦ absurd (omega (arith, past.0, within 0 p (omega arith)))
    ]

picked_length_of : (edges : List Edge) (ps : List ℕ) → All (λ p. p < length edges) ps → length (filter_map (slice_get edges) ps) ≡ length ps
picked_length_of edges [] within = refl
picked_length_of edges (p ∷ ps) within =
    elim ((slice_get_cases edges p).1) [
      | inl there ↦
          ap (λ o. length (cons_option o (filter_map (slice_get edges) ps))) there.2
          ∙ ap suc (picked_length_of edges ps (λ i d lower. within (suc i) d (omega arith)))
      | inr past ↦ absurd (omega (arith, past.0, within 0 p (omega arith)))
    ]

edges_within : (table : List (Edge × Sample)) (ps : List ℕ) → All (λ p. p < length table) ps → All (λ p. p < length (map (λ (pair : Edge × Sample). pair.0) table)) ps
edges_within table ps within = λ k d lower. omega (arith, within k d lower, length-map table (λ (pair : Edge × Sample). pair.0))

-- the edge at a place is that of the pair at its position
pub picked_at : (table : List (Edge × Sample)) (ps : List ℕ) → All (λ p. p < length table) ps → (k : ℕ) → k < length ps → (pair : Edge × Sample) → slice_get table (get_or ps k 0) ≡ Some pair → slice_get (picked (edges_of_table table) ps) k ≡ Some (pair.0)
picked_at table ps within k below pair here =
    picked_at_place (map (λ (pair : Edge × Sample). pair.0) table) ps (edges_within table ps within) k below
    ∙ (slice_get-map (λ (pair : Edge × Sample). pair.0) table (get_or ps k 0) ∙ ap (λ o. option_map (λ (pair : Edge × Sample). pair.0) o) here)

-- there are as many edges as positions
pub picked_length : (table : List (Edge × Sample)) (ps : List ℕ) → All (λ p. p < length table) ps → length (picked (edges_of_table table) ps) ≡ length ps
picked_length table ps within = picked_length_of (map (λ (pair : Edge × Sample). pair.0) table) ps (edges_within table ps within)
