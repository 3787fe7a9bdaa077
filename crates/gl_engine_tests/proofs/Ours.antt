-- Lists whose items all have a property, and receipts that a session can be settled with.
use Rattle.std.proofs.Common.{◌≡◌, ℕ, zero, suc, List, [], ◌∷◌, ◌++◌, length, map, take, Option, None, Some, refl, sym, ap, ◌∙◌, subst}
use Rattle.std.proofs.lemmas.List.{append-nil}
use Rattle.std.proofs.Math.Seq.{take-append_seam}
use Rattle.std.specs.Option.{option_to_list}
use Rattle.std.specs.Prelude.{slice_get}
use Rattle.gl_event.specs.Bounds.{Bounds}
use Rattle.gl_event.proofs.Depths.{slice_get_last}
use Rattle.gl_engine.specs.Collecting.{Collecting, IsOpened, Pulling, fresh_input, lanes_of}
use Rattle.gl_engine.specs.Recording.{Closed, Identity, Recording, IsFresh, identity_of, left_by}
use Rattle.gl_engine_tests.specs.Sessions.{AreOursOf}

same_some : {X : Type 0} (x y : X) → Some x ≡ Some y → x ≡ y
same_some x y h = cc

-- a list that was lent and came back as it was
pub lent_back : {X : Type 0} (len : ℕ) (old new rest : List X) → new ≡ old → length old ≡ len → take len (new ++ rest) ≡ old
lent_back len old new rest same count = ap (λ n. take n (new ++ rest)) (sym count ∙ ap length (sym same)) ∙ take-append_seam new rest ∙ same

module _ {X : Type 0} (P : X → Type 0) where
  -- of each, and of one more
  pub each_push : (xs : List X) (y : X) → ((at : ℕ) (x : X) → slice_get xs at ≡ Some x → P x) → P y → (at : ℕ) (x : X) → slice_get (xs ++ y ∷ []) at ≡ Some x → P x
  each_push [] y each last zero x here = subst P (same_some y x here) last
  each_push [] y each last (suc at) x here = absurd (cc)
  each_push (z ∷ xs) y each last zero x here = each zero x here
  each_push (z ∷ xs) y each last (suc at) x here = each_push xs y (λ i w is. each (suc i) w is) last at x here

  -- of all but the last
  pub each_front : (xs : List X) (y : X) → ((at : ℕ) (x : X) → slice_get (xs ++ y ∷ []) at ≡ Some x → P x) → (at : ℕ) (x : X) → slice_get xs at ≡ Some x → P x
  each_front [] y each at x here = absurd (cc)
  each_front (z ∷ xs) y each zero x here = each zero x here
  each_front (z ∷ xs) y each (suc at) x here = each_front xs y (λ i w is. each (suc i) w is) at x here

  -- of all that are left where the last one was taken, if there was one
  pub each_left : (xs ys : List X) (y : Option X) → xs ≡ ys ++ option_to_list y → ((at : ℕ) (x : X) → slice_get xs at ≡ Some x → P x) → (at : ℕ) (x : X) → slice_get ys at ≡ Some x → P x
  each_left xs ys None is each = λ at x here. each at x (ap (λ zs. slice_get zs at) (is ∙ append-nil ys) ∙ here)
  each_left xs ys (Some y) is each = each_front ys y (λ at x here. each at x (ap (λ zs. slice_get zs at) is ∙ here))

  -- of the last, if there was one
  pub of_last : (xs ys : List X) (y : X) → xs ≡ ys ++ y ∷ [] → ((at : ℕ) (x : X) → slice_get xs at ≡ Some x → P x) → P y
  of_last xs ys y is each = each (length ys) y (ap (λ zs. slice_get zs (length ys)) is ∙ slice_get_last ys y)

-- where two lists are alike seen by two functions, an item of one has an item of the other in its place
alike_at : {X Y Z : Type 0} (f : X → Z) (g : Y → Z) (xs : List X) (ys : List Y) → map f xs ≡ map g ys → (at : ℕ) (x : X) → slice_get xs at ≡ Some x → (y : Y) × (slice_get ys at ≡ Some y) × (f x ≡ g y)
alike_at f g [] ys same at x here = absurd (cc)
alike_at f g (w ∷ xs) [] same at x here = absurd (cc)
alike_at f g (w ∷ xs) (y ∷ ys) same zero x here =
    let first : f w ≡ g y = cc in
    (y, refl, ap f (sym (same_some w x here)) ∙ first)
alike_at f g (w ∷ xs) (y ∷ ys) same (suc at) x here =
    let rest : map f xs ≡ map g ys = cc in
    alike_at f g xs ys rest at x here

-- the lane in a place of these lanes
lane_at : (recorders : List Recording) (at : ℕ) (q : Recording) → slice_get recorders at ≡ Some q → slice_get (map (λ (input : Pulling). input.lane) (map fresh_input (map (λ (r : Recording). r.lane) recorders))) at ≡ Some q.lane
lane_at [] at q here = absurd (cc)
lane_at (r ∷ recorders) zero q here = ap (λ (x : Recording). Some x.lane) (same_some r q here)
lane_at (r ∷ recorders) (suc at) q here = lane_at recorders at q here

-- the receipts that the recorders of a session leave behind, in their order
pub all_ours : (session : ℕ) (limits : Bounds) (recorders : List Recording) (c : Collecting) (receipts : List Closed) → IsOpened session limits recorders c → map left_by receipts ≡ map identity_of recorders → AreOursOf c receipts
all_ours session limits recorders c receipts opened same at r here own lane found =
    let other = alike_at left_by identity_of receipts recorders same at r here in
    let q = other.0 in
    let fresh : IsFresh session limits at q = opened.fresh at q other.1 in
    let thread : r.thread ≡ at = ap (λ (o : Identity). o.thread) other.2 ∙ ap (λ (x : Recording). x.thread) fresh in
    let lanes = ap (λ (x : Collecting). map (λ (input : Pulling). input.lane) x.inputs) opened.collects in
    let its : Some lane ≡ Some q.lane = sym found ∙ ap (slice_get (lanes_of c)) thread ∙ ap (λ ls. slice_get ls at) lanes ∙ lane_at recorders at q other.1 in
    let bounds : r.limits ≡ limits = ap (λ (o : Identity). o.limits) other.2 ∙ ap (λ (x : Recording). x.limits) fresh in
    (ap (λ (o : Identity). o.lane) other.2 ∙ sym (same_some lane q.lane its), bounds ∙ sym (ap (λ (x : Collecting). x.limits) opened.collects))
