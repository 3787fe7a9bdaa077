-- Which edges may follow others in a walk, for each purpose.
use Rattle.std.proofs.Common.{◌≡◌, Bool, true, false, ◌&&◌, List, [], ◌∷◌, ◌++◌, length, refl, sym, ap, ◌∙◌}
use Rattle.std.specs.List.{list_all}
use Rattle.std.specs.Prelude.{nat_le}
use Rattle.std.proofs.lemmas.Bool.{and_parts, and_from, eq-eqb, not_from_true, false≢true}
use Rattle.std.proofs.lemmas.List.{append_assoc, append-nil}
use Rattle.gl_event.specs.declared.events.Segment.{Segment}
use Rattle.gl_edges.specs.declared.edge.Edge.{Edge}
use Rattle.gl_filters.specs.declared.query.Mode.{Mode}
use Rattle.gl_filters.specs.Test.{leads_to, lead_on, leads_back, last_of, goes_with, go_together, kinds_go_together, is_path, is_cycle, can_follow}
use Rattle.gl_filters.proofs.Cycling.{leads_same}
use Rattle.gl_filters.proofs.Paths.{list_all_push, is_path_push}
use Rattle.gl_walks.specs.declared.purpose.Purpose.{Purpose}
use Rattle.gl_walks.specs.declared.purpose.Purpose.TheVariants.{Cycle, Front, Round, Turned}
use Rattle.gl_walks.specs.Walks.{kinds_together, is_front, is_chain, fits}
use Rattle.gl_walks.specs.bodies.Fronts.{goes_by, may_follow, passes, may_end}

and_four : (a b c d : Bool) → ((a && b) && (c && d)) ≡ ((a && c) && (b && d))
and_four true b true d = refl
and_four true true false d = refl
and_four true false false d = refl
and_four false b c d = refl

and_assoc : (a b c : Bool) → ((a && b) && c) ≡ (a && (b && c))
and_assoc true b c = refl
and_assoc false b c = refl

and_true : (a : Bool) → (a && true) ≡ a
and_true true = refl
and_true false = refl

-- one more edge that is led on to
lead_on_push : (e : Edge) (es : List Edge) (f : Edge) → lead_on ((e ∷ es) ++ f ∷ []) ≡ (lead_on (e ∷ es) && leads_to (last_of e es) f)
lead_on_push e [] f = and_true (leads_to e f)
lead_on_push e (d ∷ es) f = ap (λ b. leads_to e d && b) (lead_on_push d es f) ∙ sym (and_assoc (leads_to e d) (lead_on (d ∷ es)) (leads_to (last_of d es) f))

-- each edge goes with each later one
abbrev pub together : (Edge → Edge → Bool) → List Edge → Bool
together goes [] = true
together goes (e ∷ es) = list_all (goes e) es && together goes es

-- so it is by the edges themselves, and by their kinds
pub edges_together : (before : Segment → Segment → Bool) (mode : Mode) (es : List Edge) → together (goes_with before mode) es ≡ go_together before mode es
edges_together before mode [] = refl
edges_together before mode (e ∷ es) = ap (λ b. list_all (goes_with before mode e) es && b) (edges_together before mode es)

pub all_kinds_together : (mode : Mode) (es : List Edge) → together (kinds_go_together mode) es ≡ kinds_together mode es
all_kinds_together mode [] = refl
all_kinds_together mode (e ∷ es) = ap (λ b. list_all (kinds_go_together mode e) es && b) (all_kinds_together mode es)

-- one more edge that goes with the others
together_push : (goes : Edge → Edge → Bool) (es : List Edge) (f : Edge) → together goes (es ++ f ∷ []) ≡ (together goes es && list_all (λ d. goes d f) es)
together_push goes [] f = refl
together_push goes (e ∷ es) f =
    (λ i. list_all_push (goes e) es f i && together_push goes es f i)
    ∙ and_four (list_all (goes e) es) (goes e f) (together goes es) (list_all (λ d. goes d f) es)

-- an edge may come next: that the last one leads on to, and that goes with all
abbrev follows : (Edge → Edge → Bool) → List Edge → Edge → Bool
follows goes [] f = true
follows goes (e ∷ es) f = leads_to (last_of e es) f && (list_all (λ d. goes d f) (e ∷ es) && true)

-- edges that lead on to each other and go together do so with one more exactly where it may come next
led_push : (goes : Edge → Edge → Bool) (es : List Edge) (f : Edge) → (lead_on (es ++ f ∷ []) && together goes (es ++ f ∷ [])) ≡ ((lead_on es && together goes es) && follows goes es f)
led_push goes [] f = refl
led_push goes (e ∷ es) f =
    (λ i. lead_on_push e es f i && together_push goes (e ∷ es) f i)
    ∙ and_four (lead_on (e ∷ es)) (leads_to (last_of e es) f) (together goes (e ∷ es)) (list_all (λ d. goes d f) (e ∷ es))
    ∙ ap (λ b. (lead_on (e ∷ es) && together goes (e ∷ es)) && (leads_to (last_of e es) f && b)) (sym (and_true (list_all (λ d. goes d f) (e ∷ es))))

module _ (before : Segment → Segment → Bool) (mode : Mode) where
  -- one more edge makes a front of a front exactly where it may come next
  front_push : (es : List Edge) (f : Edge) → is_front mode (es ++ f ∷ []) ≡ (is_front mode es && follows (kinds_go_together mode) es f)
  unfolding is_front
  front_push es f =
      (λ i. lead_on (es ++ f ∷ []) && sym (all_kinds_together mode (es ++ f ∷ [])) i) ∙ led_push (kinds_go_together mode) es f
      ∙ (λ i. (lead_on es && all_kinds_together mode es i) && follows (kinds_go_together mode) es f)

  follows_front : (es : List Edge) (f : Edge) → follows (kinds_go_together mode) es f ≡ may_follow Front before mode es f
  follows_front [] f = refl
  follows_front (e ∷ es) f = refl

  follows_round : (es : List Edge) (f : Edge) → follows (kinds_go_together mode) es f ≡ may_follow Round before mode es f
  follows_round [] f = refl
  follows_round (e ∷ es) f = refl

  follows_ring : (es : List Edge) (f : Edge) → follows (goes_with before mode) es f ≡ may_follow Turned before mode es f
  follows_ring [] f = refl
  follows_ring (e ∷ es) f = refl

  follows_path : (es : List Edge) (f : Edge) → can_follow before mode es f ≡ may_follow Cycle before mode es f
  unfolding can_follow
  follows_path [] f = refl
  follows_path (e ∷ es) f = refl

  pub passes_push : (purpose : Purpose) (es : List Edge) (f : Edge) → passes purpose before mode (es ++ f ∷ []) ≡ (passes purpose before mode es && may_follow purpose before mode es f)
  unfolding is_front is_chain
  passes_push Cycle es f = is_path_push before mode es f ∙ ap (λ b. is_path before mode es && b) (follows_path es f)
  passes_push Front es f = front_push es f ∙ ap (λ b. is_front mode es && b) (follows_front es f)
  passes_push Round es f = front_push es f ∙ ap (λ b. is_front mode es && b) (follows_round es f)
  passes_push Turned es f =
      (λ i. lead_on (es ++ f ∷ []) && sym (edges_together before mode (es ++ f ∷ [])) i) ∙ led_push (goes_with before mode) es f
      ∙ (λ i. (lead_on es && edges_together before mode es i) && follows_ring es f i)

  -- a front of what passes does
  pub passes-front : (purpose : Purpose) (es fs : List Edge) → passes purpose before mode (es ++ fs) ≡ true → passes purpose before mode es ≡ true
  passes-front purpose es [] passing = subst_passes (append-nil es) passing
    where
      subst_passes : {xs ys : List Edge} → xs ≡ ys → passes purpose before mode xs ≡ true → passes purpose before mode ys ≡ true
      subst_passes same passing = sym (ap (passes purpose before mode) same) ∙ passing
  passes-front purpose es (f ∷ fs) passing =
      let longer : passes purpose before mode ((es ++ f ∷ []) ++ fs) ≡ true = ap (passes purpose before mode) (append_assoc es (f ∷ []) fs) ∙ passing in
      (and_parts _ _ (sym (passes_push purpose es f) ∙ passes-front purpose (es ++ f ∷ []) fs longer)).0

  -- nothing passes no less
  pub passes_none : (purpose : Purpose) → passes purpose before mode [] ≡ true
  unfolding is_path is_front is_chain
  passes_none Cycle = refl
  passes_none Front = refl
  passes_none Round = refl
  passes_none Turned = refl

  -- what fits passes and may end
  pub fits_parts : (purpose : Purpose) (es : List Edge) → fits purpose before mode es ≡ true → (passes purpose before mode es ≡ true) × (may_end purpose es ≡ true)
  unfolding is_cycle
  fits_parts Cycle es fitting =
      let long = and_parts (nat_le 2 (length es)) (is_path before mode es && leads_back es) fitting in
      let round = and_parts (is_path before mode es) (leads_back es) long.1 in
      (round.0, and_from _ _ long.0 round.1)
  fits_parts Front es fitting = (fitting, refl)
  fits_parts Round es fitting = and_parts (is_front mode es) (leads_back es) fitting
  fits_parts Turned es fitting = and_parts (is_chain before mode es) (leads_back es) fitting

  -- and the other way round
  pub fits_from : (purpose : Purpose) (es : List Edge) → passes purpose before mode es ≡ true → may_end purpose es ≡ true → fits purpose before mode es ≡ true
  unfolding is_cycle
  fits_from Cycle es passing ends =
      let parts = and_parts (nat_le 2 (length es)) (leads_back es) ends in
      and_from _ _ parts.0 (and_from _ _ passing parts.1)
  fits_from Front es passing ends = passing
  fits_from Round es passing ends = and_from _ _ passing ends
  fits_from Turned es passing ends = and_from _ _ passing ends

  -- an edge that follows holds the lock which the last one wants
  pub led_on : (purpose : Purpose) (e : Edge) (es : List Edge) (f : Edge) → may_follow purpose before mode (e ∷ es) f ≡ true → (last_of e es).wanted ≡ f.held
  led_on purpose e es f follows = leads_same (last_of e es) f (and_parts _ _ follows).0

  held_differ : (purpose : Purpose) (e f : Edge) → goes_by purpose before mode e f ≡ true → e.held ≡ f.held → ⊥
  unfolding goes_with kinds_go_together
  held_differ Cycle e f goes same = false≢true (sym (not_from_true _ (eq-eqb _ _ same)) ∙ (and_parts _ _ (and_parts _ _ goes).0).0)
  held_differ Front e f goes same = false≢true (sym (not_from_true _ (eq-eqb _ _ same)) ∙ (and_parts _ _ goes).0)
  held_differ Round e f goes same = false≢true (sym (not_from_true _ (eq-eqb _ _ same)) ∙ (and_parts _ _ goes).0)
  held_differ Turned e f goes same = false≢true (sym (not_from_true _ (eq-eqb _ _ same)) ∙ (and_parts _ _ (and_parts _ _ goes).0).0)

  -- nothing follows where the last edge leads back to the first
  pub none_behind_closed : (purpose : Purpose) (es : List Edge) (f : Edge) → leads_back es ≡ true → may_follow purpose before mode es f ≡ true → ⊥
  none_behind_closed purpose [] f closed follows = false≢true closed
  none_behind_closed purpose (e ∷ es) f closed follows =
      let all = (and_parts _ _ (and_parts (leads_to (last_of e es) f) _ follows).1).0 in
      held_differ purpose e f (and_parts _ _ all).0 (sym (leads_same (last_of e es) e closed) ∙ led_on purpose e es f follows)
