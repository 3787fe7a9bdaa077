-- Between which ends chains of models lead.
use Rattle.std.specs.Prelude.{◌≡◌, ℕ, ◌<◌, Bool, true, List, [], ◌∷◌, ◌++◌, length, slice_get, Some, Contains}
use Rattle.std.specs.List.Sorted.{IsNonDecreasingBy}
use Rattle.gl_edges.specs.declared.edge.Edge.{Edge}
use Rattle.gl_filters.specs.declared.query.Mode.{Mode}
use Rattle.gl_filters.specs.Test.{kinds_go_together, leads_to, waits_for}
use Rattle.gl_grounds.specs.declared.spans.Span.{Span}
use Rattle.gl_grounds.specs.declared.spans.Spans.{Spans}

-- the span of a chain that begins with the one edge and ends with the other, which is of this class: where they stand, and what they hold and want
abbrev pub span_of : ℕ → ℕ → Edge → Edge → ℕ → Span
span_of i j e f class = record {
  first = i;
  last = j;
  held = e.held;
  held_mode = e.held_mode;
  wanted = f.wanted;
  wanted_mode = f.wanted_mode;
  class = class;
}

-- and that of the chain with one edge more
abbrev pub longer_span : Span → ℕ → Edge → ℕ → Span
longer_span span j f class = record span {
  last = j;
  wanted = f.wanted;
  wanted_mode = f.wanted_mode;
  class = class;
}

-- the last edge of the chain leads on to this one
abbrev pub goes_on : Span → Edge → Bool
goes_on span f = waits_for span.wanted span.wanted_mode f.held f.held_mode

-- the last edge of the chain leads on to its first
abbrev pub is_round : Span → Bool
is_round span = waits_for span.wanted span.wanted_mode span.held span.held_mode

-- none is lost
abbrev pub StayIn : List Span → List Span → Type 0
StayIn old new = (span : Span) → Contains old span → Contains new span

-- none is lost, and they aren't all where they weren't before
pub record KeepSpans (old new : Spans) : Type 0 where
  pub all : new.are_all ≡ true → old.are_all ≡ true
  pub stay : StayIn old.list.items new.list.items

-- they stand in order of their classes
abbrev pub AreInOrder : Spans → Type 0
AreInOrder spans = IsNonDecreasingBy (λ span. span.class) spans.list.items

-- where the front is as long as a cycle may be, the chain goes round
abbrev pub IsDue : ℕ → List ℕ → Edge → Edge → Type 0
IsDue len front e f = length front ≡ len → leads_to f e ≡ true

-- an edge may come next in a chain that begins with the one edge and ends with the other: that leads on to it, and it goes with both
pub record MayFollow (mode : Mode) (e d f : Edge) : Type 0 where
  pub leads : leads_to d f ≡ true
  pub by_first : kinds_go_together mode e f ≡ true
  pub by_last : kinds_go_together mode d f ≡ true

-- the edge at a place, if there is one, goes with this one
abbrev pub GoesWithAt : Mode → List Edge → ℕ → Edge → Type 0
GoesWithAt mode edges place f =
    (e : Edge) → slice_get edges place ≡ Some e → kinds_go_together mode e f ≡ true

-- so do those at both ends of a chain
pub record GoesWith (mode : Mode) (edges : List Edge) (span : Span) (f : Edge) : Type 0 where
  pub by_first : GoesWithAt mode edges span.first f
  pub by_last : GoesWithAt mode edges span.last f

module _ (edges : List Edge) (classes : List ℕ) (flags : List Bool) where
  -- a flagged edge of this class stands at this place
  pub record IsOne (class place : ℕ) (e : Edge) : Type 0 where
    pub flagged : slice_get flags place ≡ Some true
    pub of_class : slice_get classes place ≡ Some class
    pub at : slice_get edges place ≡ Some e

  -- each edge before a place that is flagged has its span
  abbrev pub HasModelsBefore : ℕ → List Span → Type 0
  HasModelsBefore n list =
      (class place : ℕ) (e : Edge) → place < n → IsOne class place e
      → Contains list (span_of place place e e class)

module _ (mode : Mode) (edges : List Edge) (classes : List ℕ) (flags : List Bool) where
  -- in a chain that begins with the first edge, flagged edges of these classes lead from the one at place i to that at place j
  abbrev pub Leads : Edge → List ℕ → ℕ → ℕ → Edge → Edge → Type 0
  Leads e [] i j d f = (i ≡ j) × (d ≡ f)
  Leads e (class ∷ rest) i j d f =
      (place : ℕ) × (next : Edge) × IsOne edges classes flags class place next
      × MayFollow mode e d next × Leads e rest place j next f

  -- a chain of flagged edges of these classes, by its first edge and its last one
  abbrev pub IsChain : List ℕ → ℕ → ℕ → Edge → Edge → Type 0
  IsChain [] i j e f = ⊥
  IsChain (class ∷ rest) i j e f = IsOne edges classes flags class i e × Leads e rest i j e f

  -- each chain through the classes of a front has its span, where these spans are all
  pub record HaveSpans (len : ℕ) (front : List ℕ) (spans : Spans) : Type 0 where
    pub each : spans.are_all ≡ true → (i j : ℕ) (e f : Edge) → IsChain front i j e f
        → IsDue len front e f → (class : ℕ) × Contains spans.list.items (span_of i j e f class)

  -- and so each one through one class more
  pub record AreReached (len : ℕ) (front : List ℕ) (reached : Spans) : Type 0 where
    pub ordered : AreInOrder reached
    pub each : reached.are_all ≡ true → (class i j : ℕ) (e f : Edge)
        → IsChain (front ++ class ∷ []) i j e f → IsDue len (front ++ class ∷ []) e f
        → Contains reached.list.items (span_of i j e f class)

  -- the chain with this span that goes on with the edge at a place has its own, where it may: only if it is round, where these are the last
  abbrev pub GoesOnAt : Bool → Span → Spans → ℕ → Edge → Type 0
  GoesOnAt is_last span reached place f =
      (class : ℕ) → IsOne edges classes flags class place f
      → goes_on span f ≡ true → GoesWith mode edges span f
      → (is_last ≡ true → is_round (longer_span span place f class) ≡ true)
      → Contains reached.list.items (longer_span span place f class)

  -- and so with each one, where these are all
  abbrev pub GoesOn : Bool → Span → Spans → Type 0
  GoesOn is_last span reached =
      reached.are_all ≡ true → (place : ℕ) (f : Edge) → GoesOnAt is_last span reached place f
