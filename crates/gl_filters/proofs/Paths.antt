-- A path grows edge by edge, and each front of a path is a path.
use Rattle.std.proofs.Common.{◌≡◌, Bool, true, false, ◌&&◌, leb, List, [], ◌∷◌, ◌++◌, refl, sym, ap, ◌∙◌}
use Rattle.std.specs.List.{list_all}
use Rattle.std.proofs.lemmas.List.{append_assoc, append-nil}
use Rattle.std.proofs.lemmas.Bool.{false≢true, and_parts, false_from_ne_true}
use Rattle.gl_event.specs.declared.events.Segment.{Segment}
use Rattle.gl_edges.specs.declared.edge.Edge.{Edge}
use Rattle.gl_filters.specs.declared.query.Mode.{Mode}
use Rattle.gl_filters.specs.Test.{leads_to, goes_with, go_together, lead_on, is_path, last_of, can_follow}

-- conjunctions in another grouping
and_four : (a b c d : Bool) → ((a && b) && (c && d)) ≡ ((a && c) && (b && d))
and_four true b true d = refl
and_four true true false d = refl
and_four true false false d = refl
and_four false b c d = refl

and_assoc : (a b c : Bool) → ((a && b) && c) ≡ (a && (b && c))
and_assoc true b c = refl
and_assoc false b c = refl

and_true : (a : Bool) → (a && true) ≡ a
and_true true = refl
and_true false = refl

pub list_all_push : {X : Type 0} (p : X → Bool) (xs : List X) (x : X) → list_all p (xs ++ x ∷ []) ≡ (list_all p xs && p x)
list_all_push p [] x = and_true (p x)
list_all_push p (y ∷ xs) x = ap (λ b. p y && b) (list_all_push p xs x) ∙ sym (and_assoc (p y) (list_all p xs) (p x))

pub last_of_push : (e : Edge) (es : List Edge) (f : Edge) → last_of e (es ++ f ∷ []) ≡ f
last_of_push e [] f = refl
last_of_push e (d ∷ es) f = last_of_push d es f

module _ (before : Segment → Segment → Bool) (mode : Mode) where
  go_together_push : (es : List Edge) (f : Edge) → go_together before mode (es ++ f ∷ []) ≡ (go_together before mode es && list_all (λ d. goes_with before mode d f) es)
  go_together_push [] f = refl
  go_together_push (e ∷ es) f =
      (λ i. list_all_push (goes_with before mode e) es f i && go_together_push es f i)
      ∙ and_four (list_all (goes_with before mode e) es) (goes_with before mode e f) (go_together before mode es) (list_all (λ d. goes_with before mode d f) es)

lead_on_push : (e : Edge) (es : List Edge) (f : Edge) → lead_on ((e ∷ es) ++ f ∷ []) ≡ (lead_on (e ∷ es) && leads_to (last_of e es) f)
lead_on_push e [] f = and_true (leads_to e f)
lead_on_push e (d ∷ es) f = ap (λ b. leads_to e d && b) (lead_on_push d es f) ∙ sym (and_assoc (leads_to e d) (lead_on (d ∷ es)) (leads_to (last_of d es) f))

-- three conjunctions, each with one more part
and_three : (a b c x y z : Bool) → ((a && x) && ((b && y) && (c && z))) ≡ ((a && (b && c)) && (x && (y && z)))
and_three true true true x y z = refl
and_three true true false true true z = refl
and_three true true false true false z = refl
and_three true true false false y z = refl
and_three true false c true y z = refl
and_three true false c false y z = refl
and_three false b c x y z = refl

-- one more edge makes a path of a path exactly where it can follow
pub is_path_push : (before : Segment → Segment → Bool) (mode : Mode) (es : List Edge) (f : Edge) → is_path before mode (es ++ f ∷ []) ≡ (is_path before mode es && can_follow before mode es f)
unfolding is_path can_follow
is_path_push before mode [] f = refl
is_path_push before mode (e ∷ es) f =
    (λ i. lead_on_push e es f i && (go_together_push before mode (e ∷ es) f i && list_all_push (λ d. leb e.thread d.thread) es f i))
    ∙ and_three (lead_on (e ∷ es)) (go_together before mode (e ∷ es)) (list_all (λ d. leb e.thread d.thread) es) (leads_to (last_of e es) f) (list_all (λ d. goes_with before mode d f) (e ∷ es)) (leb e.thread f.thread)

-- a front of a path is a path
pub is_path-front : (before : Segment → Segment → Bool) (mode : Mode) (es fs : List Edge) → is_path before mode (es ++ fs) ≡ true → is_path before mode es ≡ true
is_path-front before mode es [] path = rw append-nil at path
is_path-front before mode es (f ∷ fs) path =
    let longer : is_path before mode ((es ++ f ∷ []) ++ fs) ≡ true = rw append_assoc path in
    (and_parts _ _ (sym (is_path_push before mode es f) ∙ is_path-front before mode (es ++ f ∷ []) fs longer)).0

-- what begins as no path does is no path
pub is_path-cut : (before : Segment → Segment → Bool) (mode : Mode) (es fs : List Edge) → is_path before mode es ≡ false → is_path before mode (es ++ fs) ≡ false
is_path-cut before mode es fs cut = false_from_ne_true _ (λ path. false≢true (sym cut ∙ is_path-front before mode es fs path))
