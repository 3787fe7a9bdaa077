-- The edges at two positions, and the numbers of their guard sets.
use Rattle.std.proofs.Common.{◌≡◌, ℕ, ◌<◌, List, length, map, get_or, Some, sym, ap, ◌∙◌, arith}
use Rattle.std.specs.Prelude.{slice_get}
use Rattle.std.proofs.lemmas.List.{length-map, get_or-map}
use Rattle.std.proofs.lemmas.Option.{slice_get-get_or, same_Some}
use Rattle.gl_edges.specs.Numbered.{Numbering, AreNumbered, guards_in}
use Rattle.gl_edges.specs.declared.edge.Edge.{Edge}
use Rattle.gl_edges.specs.declared.edge.Sample.{Sample}

-- the guard set of the edge at a position has its number
pub set_at : (pairs : List (Edge × Sample)) (by : Numbering) (i n : ℕ) (d : Edge × Sample) → AreNumbered (guards_in pairs) by → i < length pairs → slice_get by.ids i ≡ Some n → slice_get by.sets n ≡ Some (get_or pairs i d).0.guards
set_at pairs by i n d numbered within at =
    numbered.stands i n at ∙ slice_get-get_or (guards_in pairs) i d.0.guards (omega (arith, within, length-map pairs (λ pair. pair.0.guards)))
    ∙ ap Some (get_or-map (λ pair. pair.0.guards) pairs i d d.0.guards within)

-- the edge at a position
pub edge_at : (pairs : List (Edge × Sample)) (i : ℕ) (d : Edge × Sample) (e : Edge) → i < length pairs → slice_get (map (λ pair. pair.0) pairs) i ≡ Some e → (get_or pairs i d).0 ≡ e
edge_at pairs i d e within at =
    same_Some (get_or pairs i d).0 e
    (ap Some (sym (get_or-map (λ pair. pair.0) pairs i d d.0 within)) ∙ sym (slice_get-get_or (map (λ pair. pair.0) pairs) i d.0 (omega (arith, within, length-map pairs (λ pair. pair.0)))) ∙ at)
