-- Flags of models, one edge after the other.
use Rattle.std.proofs.Common.{◌≡◌, ℕ, ◌+◌, ◌<◌, ◌≤◌, Bool, true, List, length, set, Some, sym, ap, subst, ◌∙◌, arith, inl, inr}
use Rattle.std.specs.Prelude.{slice_get}
use Rattle.std.proofs.lemmas.Bool.{cases_eq}
use Rattle.std.proofs.lemmas.List.{length-map}
use Rattle.std.proofs.lemmas.Option.{slice_get_within}
use Rattle.gl_edges.specs.declared.edge.Edge.{Edge}
use Rattle.gl_edges.specs.declared.edge.Sample.{Sample}
use Rattle.gl_filters.specs.Picked.{edges_of_table}
use Rattle.gl_index.proofs.Lists.{element_at, set_here}
use Rattle.gl_kinds.specs.Kinds.{AreOfOneKind}
use Rattle.gl_grounds.specs.Models.{AreModels, HasModel}

-- an edge that is alike and of the same class is a model once it is flagged
pub model_here : (table : List (Edge × Sample)) (classes : List ℕ) (flags : List Bool) (model i : ℕ) → i < length table → length flags ≡ length table → model < length table → slice_get classes model ≡ slice_get classes i
    → ((d e : Edge) → slice_get (edges_of_table table) model ≡ Some d → slice_get (edges_of_table table) i ≡ Some e → AreOfOneKind d e) → HasModel (edges_of_table table) classes (set flags model true) i
model_here table classes flags model i there long within same alike =
    let size = length-map table (λ pair. pair.0) in
    let one = element_at (edges_of_table table) model (omega (arith, within, size)) in
    let edge = element_at (edges_of_table table) i (omega (arith, there, size)) in
    record {
      place = model;
      edge = edge.0;
      model = one.0;
      at_edge = edge.1;
      at_model = one.1;
      flagged = set_here flags model true (omega (arith, long, within));
      same_class = same;
      alike = alike one.0 edge.0 one.1 edge.1;
    }

-- the models of the edges that are kept, before a position
abbrev pub AreModelsBefore : ℕ → List Edge → List ℕ → List Bool → List Bool → Type 0
AreModelsBefore n edges classes kept flags = (i : ℕ) → i < n → slice_get kept i ≡ Some true → HasModel edges classes flags i

-- an edge more has a model
pub models_more : (edges : List Edge) (classes : List ℕ) (kept flags more : List Bool) (n : ℕ) → AreModelsBefore n edges classes kept flags → ((j : ℕ) → slice_get flags j ≡ Some true → slice_get more j ≡ Some true)
    → (slice_get kept n ≡ Some true → HasModel edges classes more n) → AreModelsBefore (n + 1) edges classes kept more
models_more edges classes kept flags more n had stay here i below keep =
    elim (cases_eq i n) [
      | inl same ↦ subst (HasModel edges classes more) (sym same) (here (ap (slice_get kept) (sym same) ∙ keep))
      | inr other ↦
          let h = had i (omega arith) keep in
          record { place = h.place; edge = h.edge; model = h.model; at_edge = h.at_edge; at_model = h.at_model; flagged = stay h.place h.flagged; same_class = h.same_class; alike = h.alike }
    ]

-- and so all have
pub models_of_all : (edges : List Edge) (classes : List ℕ) (kept flags : List Bool) (n : ℕ) → length kept ≤ n → AreModelsBefore n edges classes kept flags → AreModels edges classes kept flags
models_of_all edges classes kept flags n whole each i keep = each i (omega (arith, slice_get_within kept i true keep, whole)) keep
