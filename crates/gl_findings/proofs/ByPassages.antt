-- Classes that don't lead on to each other begin no finding, and close none.
use Rattle.std.proofs.Common.{◌≡◌, ℕ, Bool, true, false, List, [], ◌∷◌, ◌++◌, length, map, take, get_or, Option, Some, None, refl, sym, ap, ◌∙◌, arith}
use Rattle.std.specs.Prelude.{slice_get, All}
use Rattle.std.specs.List.{cons_option}
use Rattle.std.proofs.lemmas.Bool.{and_parts, false≢true}
use Rattle.std.proofs.lemmas.List.Elements.{All-head, All-tail}
use Rattle.std.proofs.lemmas.Option.{slice_get_within}
use Rattle.gl_event.specs.declared.events.Segment.{Segment}
use Rattle.gl_edges.specs.declared.edge.Edge.{Edge}
use Rattle.gl_filters.specs.declared.query.Mode.{Mode}
use Rattle.gl_filters.specs.Picked.{picked}
use Rattle.gl_filters.specs.Test.{lead_on}
use Rattle.gl_index.proofs.Lists.{element_at}
use Rattle.gl_walks.specs.declared.purpose.Purpose.TheVariants.{Front}
use Rattle.gl_walks.specs.Walks.{is_front, kinds_together, NoWalk}
use Rattle.gl_grounds.specs.Passing.{may_pass, ArePassages}
use Rattle.gl_grounds.specs.declared.passages.Passages.{Passages}

-- what is behind the first of some classes
abbrev pub tail : List (Option ℕ) → List (Option ℕ)
tail [] = []
tail (x ∷ xs) = xs

abbrev pub head : List (Option ℕ) → Option ℕ
head [] = None
head (x ∷ xs) = x

-- edges of which each leads on to the next one do so without the first one
lead_rest : (e : Edge) (es : List Edge) → lead_on (e ∷ es) ≡ true → lead_on es ≡ true
lead_rest e [] leads = refl
lead_rest e (f ∷ es) leads = (and_parts _ _ leads).1

lead_behind : (o : Option Edge) (es : List Edge) → lead_on (cons_option o es) ≡ true → lead_on es ≡ true
lead_behind None es leads = leads
lead_behind (Some e) es leads = lead_rest e es leads

-- the edges of a front lead on
pub front_leads : (mode : Mode) (es : List Edge) → is_front mode es ≡ true → lead_on es ≡ true
unfolding is_front
front_leads mode es front = (and_parts (lead_on es) (kinds_together mode es) front).0

-- and go together by their kinds
pub front_together : (mode : Mode) (es : List Edge) → is_front mode es ≡ true → kinds_together mode es ≡ true
unfolding is_front
front_together mode es front = (and_parts (lead_on es) (kinds_together mode es) front).1

module _ (edges : List Edge) (classes : List ℕ) (flags : List Bool) (passages : Passages) (long : length classes ≡ length edges) (pass : ArePassages edges classes flags passages) where
  -- two edges of such classes
  no_pair : (c d i j : ℕ) → may_pass passages c d ≡ false → slice_get flags i ≡ Some true → slice_get flags j ≡ Some true → slice_get classes i ≡ Some c → slice_get classes j ≡ Some d
      → lead_on (picked edges (i ∷ j ∷ [])) ≡ true → ⊥
  no_pair c d i j not flag_i flag_j class_i class_j leads =
      let e = element_at edges i (omega (arith, long, slice_get_within classes i c class_i)) in
      let f = element_at edges j (omega (arith, long, slice_get_within classes j d class_j)) in
      let two : lead_on (e.0 ∷ f.0 ∷ []) ≡ true = ap (λ o. lead_on (cons_option o (cons_option (Some f.0) []))) (sym e.1) ∙ ap (λ o. lead_on (cons_option (slice_get edges i) (cons_option o []))) (sym f.1) ∙ leads in
      false≢true (sym not ∙ pass.each i flag_i j c d e.0 f.0 (omega (arith, long, slice_get_within classes j d class_j)) flag_j e.1 f.1 class_i class_j (and_parts _ _ two).0)

  -- through such classes goes no walk
  none_along : (front : List ℕ) (c d : ℕ) → may_pass passages c d ≡ false → (positions : List ℕ) → All (λ i. slice_get flags i ≡ Some true) positions
      → map (slice_get classes) positions ≡ map Some (front ++ c ∷ d ∷ []) → lead_on (picked edges positions) ≡ true → ⊥
  none_along [] c d not [] flagged told leads = absurd (omega (arith, ap length told))
  none_along (x ∷ front) c d not [] flagged told leads = absurd (omega (arith, ap length told))
  none_along [] c d not (i ∷ []) flagged told leads = absurd (omega (arith, ap length told))
  none_along [] c d not (i ∷ j ∷ k ∷ is) flagged told leads = absurd (omega (arith, ap length told))
  none_along [] c d not (i ∷ j ∷ []) flagged told leads =
      let behind = All-tail (λ i. slice_get flags i ≡ Some true) i (j ∷ []) flagged in
      no_pair c d i j not (All-head (λ i. slice_get flags i ≡ Some true) i (j ∷ []) flagged) (All-head (λ i. slice_get flags i ≡ Some true) j [] behind) (ap head told) (ap (λ l. head (tail l)) told) leads
  none_along (x ∷ front) c d not (i ∷ is) flagged told leads =
      none_along front c d not is (All-tail (λ i. slice_get flags i ≡ Some true) i is flagged) (ap tail told) (lead_behind (slice_get edges i) (picked edges is) leads)

  pub no_walk_by : (before : Segment → Segment → Bool) (mode : Mode) (front : List ℕ) (c d : ℕ) → may_pass passages c d ≡ false → NoWalk Front before mode edges classes flags (front ++ c ∷ d ∷ [])
  no_walk_by before mode front c d not = λ positions walk. none_along front c d not positions walk.flagged walk.of_classes (front_leads mode (picked edges positions) walk.fitting)

-- a list that isn't empty has a last member
pub last_one : (x : ℕ) (l : List ℕ) → x ∷ l ≡ take (length l) (x ∷ l) ++ get_or (x ∷ l) (length l) 0 ∷ []
last_one x [] = refl
last_one x (y ∷ l) = ap (λ l. x ∷ l) (last_one y l)
