-- No cycle goes through an edge that is in none.
use Rattle.std.proofs.Common.{◌≡◌, ℕ, suc, ◌+◌, ◌≤◌, Bool, true, false, List, [], ◌∷◌, ◌++◌, length, map, filter, Option, Some, None, refl, sym, ap, subst, ◌∙◌, arith}
use Rattle.std.specs.Prelude.{slice_get, Contains}
use Rattle.std.specs.List.{cons_option}
use Rattle.std.proofs.lemmas.List.{length-append}
use Rattle.std.proofs.lemmas.List.Elements.{Contains-append_left, Contains-push}
use Rattle.gl_event.specs.declared.events.Segment.{Segment}
use Rattle.gl_edges.specs.declared.edge.Edge.{Edge}
use Rattle.gl_edges.proofs.Membership.{contains_here, contains_later}
use Rattle.gl_filters.specs.declared.query.Mode.{Mode}
use Rattle.gl_filters.specs.Test.{is_cycle}
use Rattle.gl_filters.proofs.Cycling.{cycle_from_test}
use Rattle.gl_filters.specs.Picked.{picked}
use Rattle.gl_cycles.specs.AllCycles.{lists_below}
use Rattle.gl_cycles.specs.bodies.Blocks.{block}
use Rattle.gl_sought.specs.OffCycles.{IsOffCycles}
use Rattle.gl_cycles.proofs.BelowFronts.{picked-append, picked-push}
use Rattle.gl_cycles.proofs.CyclesAreLevel.{picked_among}
use Rattle.gl_cycles.proofs.AmongAllCycles.{lists_from}

-- nothing passes where none of the lists that begin so does
pub filter-none_of : (p : List ℕ → Bool) (front : List ℕ) (ls : List (List ℕ)) → ((rest : List ℕ) → Contains ls rest → p (front ++ rest) ≡ false) → filter p (map (λ rest. front ++ rest) ls) ≡ []
filter-none_of p front [] none = refl
filter-none_of p front (l ∷ ls) none = rw (none l (contains_here l ls)) (filter-none_of p front ls (λ rest at. none rest (contains_later l rest ls at)))

-- no more edges than positions
at_most : (edges : List Edge) (positions : List ℕ) → length (picked edges positions) ≤ length positions
at_most edges [] = omega arith
at_most edges (i ∷ positions) = by (slice_get edges i) (at_most edges positions)
  where
    by : (o : Option Edge) → length (picked edges positions) ≤ length positions → length (cons_option o (picked edges positions)) ≤ length (i ∷ positions)
    by (Some e) rest = omega arith
    by None rest = omega arith

module _ (before : Segment → Segment → Bool) (mode : Mode) (edges : List Edge) (len : ℕ) where
  -- no cycle goes through an edge that is in none
  pub block-off : (n : ℕ) (front : List ℕ) (i : ℕ) (f : Edge) → length front + suc n ≤ len → slice_get edges i ≡ Some f → IsOffCycles before mode len edges f → block before mode edges n (front ++ i ∷ []) ≡ []
  unfolding block
  block-off n front i f short at off =
      filter-none_of (λ positions. is_cycle before mode (picked edges positions)) (front ++ i ∷ []) (lists_below (length edges) n)
      (λ rest there. by rest (lists_from (length edges) n rest there).0 (is_cycle before mode (picked edges ((front ++ i ∷ []) ++ rest))) refl)
    where
      among : (rest : List ℕ) → Contains (picked edges ((front ++ i ∷ []) ++ rest)) f
      among rest =
          subst (λ es. Contains es f) (sym (picked-append edges (front ++ i ∷ []) rest ∙ ap (λ es. es ++ picked edges rest) (picked-push edges front i f at)))
          (Contains-append_left (picked edges front ++ f ∷ []) (picked edges rest) f (Contains-push (picked edges front) f))

      fits : (rest : List ℕ) → length rest ≤ n → length (picked edges ((front ++ i ∷ []) ++ rest)) ≤ len
      fits rest below = omega (arith, short, below, at_most edges ((front ++ i ∷ []) ++ rest), length-append (front ++ i ∷ []) rest, length-append front (i ∷ []))

      by : (rest : List ℕ) → length rest ≤ n → (b : Bool) → is_cycle before mode (picked edges ((front ++ i ∷ []) ++ rest)) ≡ b → is_cycle before mode (picked edges ((front ++ i ∷ []) ++ rest)) ≡ false
      by rest below true is =
          absurd (off (picked edges ((front ++ i ∷ []) ++ rest)) (picked_among edges ((front ++ i ∷ []) ++ rest)) (cycle_from_test before mode len (picked edges ((front ++ i ∷ []) ++ rest)) (fits rest below) is) (among rest))
      by rest below false is = is
