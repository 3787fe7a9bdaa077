-- How the table of steps is built.
use Rattle.std.proofs.Common.{◌≡◌, ℕ, ◌+◌, ◌<◌, ◌≤◌, List, [], ◌∷◌, ◌++◌, length, get_or, take, map, Option, Some, None, refl, sym, ap, subst, ◌∙◌, ◌⊎◌, inl, inr, arith}
use Rattle.std.specs.Prelude.{◌↔◌, Contains, filter, slice_get, slice_index_or, option_and_then}
use Rattle.std.specs.Option.{option_map, option_map_or}
use Rattle.std.specs.Global.{Vec}
use Rattle.std.proofs.lemmas.List.{map_push, map_more, length-map, length_push, get_or_append_left, get_or_push}
use Rattle.std.proofs.lemmas.Option.{same_Some, slice_get_within, slice_get_read, slice_get-map, slice_get_past}
use Rattle.gl_event.specs.Events.{closes}
use Rattle.gl_event.specs.declared.events.Event.{Event}
use Rattle.gl_event.specs.declared.events.Event.TheVariants.{Acquire, Release, TryAcquire, Fork, Join}
use Rattle.gl_event.specs.declared.events.Segment.{Segment}
use Rattle.gl_event.specs.Lawful.{lists_of}
use Rattle.gl_segments.specs.bodies.Tables.{steps_of_thread, Forks, cut_at, joined_last, AreStepsOfThread}

-- a place below i + 1 is below i, or is i
pub place_cases : (n k : ℕ) → k < n + 1 → (k < n) ⊎ (k ≡ n)
place_cases n k h = grind arith

-- what was read from the vectors is among their lists
pub items_at : (vecs : List (Vec Event)) (i : ℕ) (v : Vec Event) → i < length vecs → v ≡ get_or vecs i v → slice_get (lists_of vecs) i ≡ Some v.items
items_at vecs i v within is = slice_get-map (λ (w : Vec Event). w.items) vecs i ∙ ap (option_map (λ (w : Vec Event). w.items)) (slice_get_read vecs (length vecs) i v refl within is)

-- one map after another
pub map_compose : {X Y Z : Type 0} (f : Y → Z) (g : X → Y) (xs : List X) → map f (map g xs) ≡ map (λ x. f (g x)) xs
map_compose f g [] = refl
map_compose f g (x ∷ xs) = ap (λ ys. f (g x) ∷ ys) (map_compose f g xs)

-- one more list of forks and joins
pub cuts_more : (lists built : List (Vec Event)) (i : ℕ) (v w : Vec Event) → i < length lists → v ≡ get_or lists i v → w.items ≡ filter closes v.items
    → lists_of built ≡ map (λ (u : Vec Event). filter closes u.items) (take i lists) → lists_of (built ++ w ∷ []) ≡ map (λ (u : Vec Event). filter closes u.items) (take (i + 1) lists)
cuts_more lists built i v w within is kept so_far =
    let pushed = map_push (λ (u : Vec Event). u.items) built w in
    let more = map_more (λ (u : Vec Event). filter closes u.items) lists i v within in
    let here : w.items ≡ filter closes (get_or lists i v).items = kept ∙ ap (λ (u : Vec Event). filter closes u.items) is in
    cc

-- the fork or join at a segment of a thread's list
pub cut_at_is : (cuts : List (List Event)) (es : List Event) (a : Segment) → slice_get cuts a.thread ≡ Some es → cut_at cuts a ≡ slice_get es a.index
cut_at_is cuts es a at = ap (option_and_then (λ xs. slice_get xs a.index)) at

-- a thread with a fork or join has a list
pub cut_within : (o : Option (List Event)) (i : ℕ) (e : Event) → option_and_then (λ xs. slice_get xs i) o ≡ Some e → (es : List Event) × (o ≡ Some es)
cut_within (Some es) i e h = (es, refl)
cut_within None i e h = cc

-- the steps of a thread, for the first n of its forks and joins
pub record AreStepsBelow (cuts : List (List Event)) (thread : ℕ) (es : List Event) (built : List (List Segment)) (n : ℕ) : Type 0 where
  -- one more than forks and joins
  pub size : length built ≡ n + 1
  -- those of the first segment
  pub first : (a : Segment) → Contains (slice_index_or built 0 []) a ↔ Forks cuts thread a
  -- those of the later ones
  pub later : (i : ℕ) (e : Event) → i < n → slice_get es i ≡ Some e → slice_index_or built (i + 1) [] ≡ record { thread = thread; index = i } ∷ joined_last cuts e

-- those to the first segment
pub steps_begin : (cuts : List (List Event)) (thread : ℕ) (es : List Event) (none : List (List Segment)) (w : List Segment) → none ≡ [] → ((a : Segment) → Contains w a ↔ Forks cuts thread a) → AreStepsBelow cuts thread es (none ++ w ∷ []) 0
steps_begin cuts thread es none w empty forks = rw empty (record {
  size = omega arith;
  first = forks;
  later = λ i e below. absurd (omega arith);
})

-- one more segment's
pub steps_more : (cuts : List (List Event)) (thread : ℕ) (es : List Event) (built : List (List Segment)) (n : ℕ) (w : List Segment) (e : Event) → slice_get es n ≡ Some e → w ≡ record { thread = thread; index = n } ∷ joined_last cuts e
    → AreStepsBelow cuts thread es built n → AreStepsBelow cuts thread es (built ++ w ∷ []) (n + 1)
steps_more cuts thread es built n w e at is so_far =
    record {
      size = length_push built w ∙ ap (λ k. k + 1) so_far.size;
      first = λ a.
          let same : slice_index_or (built ++ w ∷ []) 0 [] ≡ slice_index_or built 0 [] = get_or_append_left built (w ∷ []) [] 0 (let size = so_far.size in omega arith) in
          subst (λ xs. Contains xs a ↔ Forks cuts thread a) (sym same) (so_far.first a);
      later = λ i d below here.
          elim (place_cases n i below) [
            | inl lower ↦
                let same : slice_index_or (built ++ w ∷ []) (i + 1) [] ≡ slice_index_or built (i + 1) [] = get_or_append_left built (w ∷ []) [] (i + 1) (let size = so_far.size in omega arith) in
                same ∙ so_far.later i d lower here
            | inr last ↦
                let there : slice_index_or (built ++ w ∷ []) (i + 1) [] ≡ w = get_or_push built w [] (i + 1) (let size = so_far.size in omega arith) in
                let event : e ≡ d = same_Some e d (sym at ∙ ap (slice_get es) (sym last) ∙ here) in
                there ∙ is ∙ ap (λ k. record { thread = thread; index = k } ∷ joined_last cuts e) (sym last) ∙ ap (λ y. record { thread = thread; index = i } ∷ joined_last cuts y) event
          ];
    }

-- all steps of the thread
pub steps_all : (cuts : List (List Event)) (thread : ℕ) (es : List Event) (built : List (List Segment)) (n : ℕ) → n ≡ length es → AreStepsBelow cuts thread es built n → AreStepsOfThread cuts thread es built
steps_all cuts thread es built n all so_far = record {
  size = so_far.size ∙ ap (λ k. k + 1) all;
  first = so_far.first;
  later = λ i e here. let w = slice_get_within es i e here in so_far.later i e (omega arith) here;
}

-- those of one thread more
pub threads_more : (cuts : List (List Event)) (built : List (List (List Segment))) (n : ℕ) (r : List (List Segment)) → length built ≡ n → ((es : List Event) → slice_get cuts n ≡ Some es → AreStepsOfThread cuts n es r)
    → ((t : ℕ) (es : List Event) → t < n → slice_get cuts t ≡ Some es → AreStepsOfThread cuts t es (steps_of_thread built t))
    → (t : ℕ) (es : List Event) → t < n + 1 → slice_get cuts t ≡ Some es → AreStepsOfThread cuts t es (steps_of_thread (built ++ r ∷ []) t)
threads_more cuts built n r size last before t es below at =
    elim (place_cases n t below) [
      | inl lower ↦ subst (AreStepsOfThread cuts t es) (sym (get_or_append_left built (r ∷ []) [] t (omega arith))) (before t es lower at)
      | inr is ↦
          let here : steps_of_thread (built ++ r ∷ []) t ≡ r = get_or_push built r [] t (omega arith) in
          subst (AreStepsOfThread cuts t es) (sym here) (subst (λ k. AreStepsOfThread cuts k es r) (sym is) (last es (ap (slice_get cuts) (sym is) ∙ at)))
    ]

-- the last segment of a joined thread, where it has a list and where it has none
pub joined_here : (vecs : List (Vec Event)) (thread loc : ℕ) (v : Vec Event) → thread < length vecs → v ≡ get_or vecs thread v
    → joined_last (lists_of vecs) (Join thread loc) ≡ record { thread = thread; index = length v.items } ∷ []
joined_here vecs thread loc v within is = ap (λ o. option_map_or (λ (es : List Event). let s : Segment = record { thread = thread; index = length es } in s ∷ []) o []) (items_at vecs thread v within is)

-- a thread that has no list
pub joined_none : (vecs : List (Vec Event)) (thread loc : ℕ) → length vecs ≤ thread → joined_last (lists_of vecs) (Join thread loc) ≡ []
joined_none vecs thread loc past =
    let none : slice_get (lists_of vecs) thread ≡ None = slice_get_past (lists_of vecs) thread (let e = length-map vecs (λ (u : Vec Event). u.items) in omega arith) in
    ap (λ o. option_map_or (λ (es : List Event). let s : Segment = record { thread = thread; index = length es } in s ∷ []) o []) none

-- an event that is no join
pub joined_other : (cuts : List (List Event)) (e : Event) → ((thread loc : ℕ) → e ≡ Join thread loc → ⊥) → joined_last cuts e ≡ []
joined_other cuts (Acquire mode lock loc) other = refl
joined_other cuts (Release mode lock loc) other = refl
joined_other cuts (TryAcquire mode lock loc) other = refl
joined_other cuts (Fork thread loc) other = refl
joined_other cuts (Join thread loc) other = absurd (other thread loc refl)
