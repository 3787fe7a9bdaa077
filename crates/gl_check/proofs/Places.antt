-- Which edge stands at a position.
use Rattle.std.proofs.Common.{◌≡◌, ℕ, zero, suc, ◌+◌, ◌<◌, ◌≤◌, List, [], ◌∷◌, length, Some, sym, ap, subst, ◌∙◌, arith, inl, inr}
use Rattle.std.specs.Prelude.{slice_get, All}
use Rattle.std.proofs.lemmas.Bool.{cases_lt}
use Rattle.std.proofs.lemmas.List.{length-map}
use Rattle.std.proofs.lemmas.Option.{slice_get_within, same_Some}
use Rattle.serde_json.specs.Data.{Data}
use Rattle.gl_std.specs.Names.{NameLists}
use Rattle.gl_edges.specs.declared.edge.Edge.{Edge}
use Rattle.gl_edges.specs.declared.edge.Sample.{Sample}
use Rattle.gl_grounds.specs.Classes.{class_of}
use Rattle.gl_findings.specs.declared.listing.Listing.{Listing}
use Rattle.gl_findings.specs.declared.listing.Listing.TheVariants.{Cycles, Findings}
use Rattle.gl_check.specs.Signatures.{AreClassesFor}
use Rattle.gl_check.specs.Edges.{IsPrintOf, IsEdgeAt, NamesEdge, IsNoEdge, NameEdges}
use Rattle.gl_check.specs.declared.fields.Format.{Format}
use Rattle.gl_check.specs.declared.fields.Format.TheVariants.{One, Two, Three}

module _ (names : NameLists) (table : List (Edge × Sample)) (d : Data) where
  -- no edge below a position has this JSON, nor the one there
  pub none_more : (i : ℕ) (pair : Edge × Sample) → slice_get table i ≡ Some pair → ¬ IsPrintOf names d pair → ((position : ℕ) → position < i → ¬ IsEdgeAt names table d position)
      → (position : ℕ) → position < i + 1 → ¬ IsEdgeAt names table d position
  none_more i pair there not before position below at = elim (cases_lt position i) [
    | inl earlier ↦ before position earlier at
    | inr later ↦
        let same : position ≡ i = omega arith in
        not (subst (IsPrintOf names d) (same_Some at.pair pair (sym at.there ∙ ap (slice_get table) same ∙ there)) at.prints)
  ]

  -- none below the end is none at all
  pub none_at_all : (n : ℕ) → length table ≤ n → ((position : ℕ) → position < n → ¬ IsEdgeAt names table d position) → IsNoEdge names table d
  none_at_all n whole before position at = before position (let within = slice_get_within table position at.pair at.there in omega arith) at

-- the positions of edges are those of the table
named_within : (format : Format) (names : NameLists) (table : List (Edge × Sample)) (d : Data) (p : ℕ) → NamesEdge format names table d p → p < length table
named_within One names table d p is = slice_get_within table p is.pair is.there
named_within Two names table d p is = is.1
named_within Three names table d p is = is.1

pub all_within : (format : Format) (names : NameLists) (table : List (Edge × Sample)) (ds : List Data) (positions : List ℕ) → NameEdges format names table ds positions → All (λ p. p < length table) positions
all_within format names table [] [] named k d within = absurd (omega arith)
all_within format names table [] (p ∷ positions) named k d within = absurd named
all_within format names table (d ∷ ds) [] named k x within = absurd named
all_within format names table (d ∷ ds) (p ∷ positions) named zero x within = named_within format names table d p named.0
all_within format names table (d ∷ ds) (p ∷ positions) named (suc k) x within = all_within format names table ds positions named.1 k x (omega arith)

-- positions of the table are those of its classes
pub classes_within : (listing : Listing) (table : List (Edge × Sample)) (classes positions : List ℕ) → AreClassesFor listing table classes → All (λ p. p < length table) positions → listing ≡ Findings → All (λ p. p < length classes) positions
classes_within Cycles table classes positions known within is = cc
classes_within Findings table classes positions known within is = subst (λ n. All (λ p. p < n) positions) (sym (ap length known ∙ length-map table (class_of table))) within
