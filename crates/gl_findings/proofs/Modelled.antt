-- Edges and their models: what kinds tell of the ones they tell of the others.
use Rattle.std.proofs.Common.{◌≡◌, ℕ, Bool, true, not, ◌&&◌, eqb, List, [], ◌∷◌, map, Some, refl, sym, ap, subst, arith}
use Rattle.std.specs.Prelude.{slice_get, All}
use Rattle.std.specs.List.{list_all, cons_option}
use Rattle.std.proofs.lemmas.List.Elements.{All-cons, All-head, All-tail}
use Rattle.gl_edges.specs.Clashes.{guards_clash}
use Rattle.gl_edges.specs.declared.edge.Edge.{Edge}
use Rattle.gl_filters.specs.declared.query.Mode.{Mode}
use Rattle.gl_filters.specs.Cycle.{asks_guards}
use Rattle.gl_filters.specs.Picked.{picked}
use Rattle.gl_filters.specs.Test.{waits_for, leads_to, lead_on, leads_back, last_of, kinds_go_together}
use Rattle.gl_kinds.specs.Kinds.{AreOfOneKind}
use Rattle.gl_grounds.specs.Models.{AreModels}
use Rattle.gl_walks.specs.Walks.{kinds_together, is_front}

-- each edge is alike with the one at its place
abbrev pub AllAlike : List Edge → List Edge → Type 0
AllAlike [] [] = Unit {0}
AllAlike [] (f ∷ fs) = ⊥
AllAlike (e ∷ es) [] = ⊥
AllAlike (e ∷ es) (f ∷ fs) = AreOfOneKind e f × AllAlike es fs

module _ (mode : Mode) where
  alike_goes : (a b c d : Edge) → AreOfOneKind a b → AreOfOneKind c d → kinds_go_together mode a c ≡ kinds_go_together mode b d
  unfolding kinds_go_together
  alike_goes a b c d one other = λ i. not (eqb (one.held i) (other.held i)) && not (asks_guards mode && guards_clash (one.guards i) (other.guards i))

  alike_leads : (a b c d : Edge) → AreOfOneKind a b → AreOfOneKind c d → leads_to a c ≡ leads_to b d
  alike_leads a b c d one other = λ i. waits_for (one.wanted i) (one.wanted_mode i) (other.held i) (other.held_mode i)

  alike_goes_all : (a b : Edge) → AreOfOneKind a b → (es fs : List Edge) → AllAlike es fs → list_all (kinds_go_together mode a) es ≡ list_all (kinds_go_together mode b) fs
  alike_goes_all a b one [] [] all = refl
  alike_goes_all a b one [] (f ∷ fs) all = absurd all
  alike_goes_all a b one (e ∷ es) [] all = absurd all
  alike_goes_all a b one (e ∷ es) (f ∷ fs) all = λ i. alike_goes a b e f one all.0 i && alike_goes_all a b one es fs all.1 i

  alike_together : (es fs : List Edge) → AllAlike es fs → kinds_together mode es ≡ kinds_together mode fs
  alike_together [] [] all = refl
  alike_together [] (f ∷ fs) all = absurd all
  alike_together (e ∷ es) [] all = absurd all
  alike_together (e ∷ es) (f ∷ fs) all = λ i. alike_goes_all e f all.0 es fs all.1 i && alike_together es fs all.1 i

  alike_led : (es fs : List Edge) → AllAlike es fs → lead_on es ≡ lead_on fs
  alike_led [] [] all = refl
  alike_led [] (f ∷ fs) all = absurd all
  alike_led (e ∷ es) [] all = absurd all
  alike_led (e ∷ []) (f ∷ []) all = refl
  alike_led (e ∷ []) (f ∷ g ∷ fs) all = absurd all.1
  alike_led (e ∷ d ∷ es) (f ∷ []) all = absurd all.1
  alike_led (e ∷ d ∷ es) (f ∷ g ∷ fs) all = λ i. alike_leads e f d g all.0 all.1.0 i && alike_led (d ∷ es) (g ∷ fs) all.1 i

  -- alike edges are a front or not, all the same
  pub alike_front : (es fs : List Edge) → AllAlike es fs → is_front mode es ≡ is_front mode fs
  unfolding is_front
  alike_front es fs all = λ i. alike_led es fs all i && alike_together es fs all i

  alike_last : (e f : Edge) (es fs : List Edge) → AreOfOneKind e f → AllAlike es fs → AreOfOneKind (last_of e es) (last_of f fs)
  alike_last e f [] [] one all = one
  alike_last e f [] (g ∷ fs) one all = absurd all
  alike_last e f (d ∷ es) [] one all = absurd all
  alike_last e f (d ∷ es) (g ∷ fs) one all = alike_last d g es fs all.0 all.1

  -- and lead round or not
  pub alike_round : (es fs : List Edge) → AllAlike es fs → leads_back es ≡ leads_back fs
  alike_round [] [] all = refl
  alike_round [] (f ∷ fs) all = absurd all
  alike_round (e ∷ es) [] all = absurd all
  alike_round (e ∷ es) (f ∷ fs) all = alike_leads (last_of e es) (last_of f fs) e f (alike_last e f es fs all.0 all.1) all.0

-- flagged edges, one for each of these, alike and of the same class
pub record HasModels (edges : List Edge) (classes : List ℕ) (models : List Bool) (positions : List ℕ) : Type 0 where
  pub places : List ℕ
  pub flagged : All (λ i. slice_get models i ≡ Some true) places
  pub same_classes : map (slice_get classes) places ≡ map (slice_get classes) positions
  pub alike : AllAlike (picked edges places) (picked edges positions)

first_picked : (edges : List Edge) (i : ℕ) (is : List ℕ) (e : Edge) → slice_get edges i ≡ Some e → picked edges (i ∷ is) ≡ e ∷ picked edges is
first_picked edges i is e at = ap (λ o. cons_option o (picked edges is)) at

-- the models of kept edges
pub models_of : (edges : List Edge) (classes : List ℕ) (kept models : List Bool) → AreModels edges classes kept models → (positions : List ℕ) → All (λ i. slice_get kept i ≡ Some true) positions → HasModels edges classes models positions
models_of edges classes kept models have [] all = record { places = []; flagged = λ k d below. absurd (omega arith); same_classes = refl; alike = tt }
models_of edges classes kept models have (i ∷ is) all =
    let one = have i (All-head (λ i. slice_get kept i ≡ Some true) i is all) in
    let rest = models_of edges classes kept models have is (All-tail (λ i. slice_get kept i ≡ Some true) i is all) in
    record {
      places = one.place ∷ rest.places;
      flagged = All-cons (λ i. slice_get models i ≡ Some true) one.place rest.places one.flagged rest.flagged;
      same_classes = λ j. one.same_class j ∷ rest.same_classes j;
      alike =
          subst (λ es. AllAlike es (picked edges (i ∷ is))) (sym (first_picked edges one.place rest.places one.model one.at_model))
          (subst (AllAlike (one.model ∷ picked edges rest.places)) (sym (first_picked edges i is one.edge one.at_edge)) (one.alike, rest.alike));
    }
