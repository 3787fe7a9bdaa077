-- The lists by mention tell what the lists tell, and are lawful where the lists are.
use Rattle.std.proofs.Common.{◌≡◌, ◌≢◌, ℕ, zero, suc, Bool, true, false, ◌&&◌, cond, eqb, ltb, List, [], ◌∷◌, ◌++◌, length, map, take, get_or, position, unwrap_or, AllPairs, Option, Some, None, refl, sym, ap, subst, ◌∙◌}
use Rattle.std.specs.Prelude.{slice_get, nat_le}
use Rattle.std.specs.List.{AllZip, flat_map, list_all}
use Rattle.std.specs.Option.{option_map, option_map_or}
use Rattle.std.specs.Str.{bytes_eq}
use Rattle.std.proofs.lemmas.Bool.{false≢true, eqb-false, eqb-true, ltb-true}
use Rattle.std.proofs.lemmas.List.{length-map, take-map}
use Rattle.std.proofs.lemmas.List.Quantifiers.{position-Some}
use Rattle.std.proofs.lemmas.Option.{slice_get-get_or, slice_get-map, unwrap_or-slice_get}
use Rattle.gl_event.specs.Bounds.{Bounds}
use Rattle.gl_event.specs.Events.{partner}
use Rattle.gl_event.specs.Lawful.{IsLawful, refusal}
use Rattle.gl_event.specs.declared.events.Event.{Event}
use Rattle.gl_event.specs.declared.events.Event.TheVariants.{Acquire, Release, TryAcquire, Fork, Join}
use Rattle.gl_event.specs.declared.events.Refusal.TheVariants.{PlaceFull, NoSuchThread, OnItself}
use Rattle.gl_std.specs.Names.{NameLists, number_of, with_new}
use Rattle.gl_std.proofs.FoundNames.{placed}
use Rattle.gl_std.proofs.Places.{itself, same_name, number_of as stands_at}
use Rattle.gl_writing.specs.Written.{name_at}
use Rattle.gl_writing.proofs.Renumbering.{Renumbered, same_refusal}
use Rattle.gl_writing.proofs.Renumbering.Renumbered.{acquire, release, try_acquire, fork, join}
use Rattle.gl_renumbering.specs.Tales.{Tale, told, event_by, tales, mentioned, names_by_mention, lists_by_mention, has_names, have_names, StayLawful, ListsByMentionTellTheSame, SameTalesSameLists}
use Rattle.gl_renumbering.specs.Tales.Tale.{Acquires, Releases, TryAcquires, Forks, Joins}
use Rattle.gl_renumbering.specs.bodies.Tables.{with_more}
use Rattle.gl_renumbering.proofs.Growing.{position-append, mentioned_adds, mentioned-append}
use Rattle.gl_renumbering.proofs.Telling.{one_passes}

-- ---- what holds of each of a list

abbrev Each : {X : Type 0} → (X → Type 0) → List X → Type 0
Each P [] = Unit {0}
Each P (x ∷ xs) = P x × Each P xs

each_by : {X : Type 0} (P Q : X → Type 0) → ((x : X) → P x → Q x) → (xs : List X) → Each P xs → Each Q xs
each_by P Q by [] each = tt
each_by P Q by (x ∷ xs) each = (by x each.0, each_by P Q by xs each.1)

each_first : {X : Type 0} (P : X → Type 0) (xs ys : List X) → Each P (xs ++ ys) → Each P xs
each_first P [] ys each = tt
each_first P (x ∷ xs) ys each = (each.0, each_first P xs ys each.1)

each_rest : {X : Type 0} (P : X → Type 0) (xs ys : List X) → Each P (xs ++ ys) → Each P ys
each_rest P [] ys each = each
each_rest P (x ∷ xs) ys each = each_rest P xs ys each.1

each_list : {X : Type 0} (P : X → Type 0) (lists : List (List X)) → Each P (flat_map (λ list. list) lists) → Each (Each P) lists
each_list P [] each = tt
each_list P (list ∷ lists) each =
    (each_first P list (flat_map (λ list. list) lists) each, each_list P lists (each_rest P list (flat_map (λ list. list) lists) each))

each_at : {X : Type 0} (P : X → Type 0) (xs : List X) (i : ℕ) (x : X) → slice_get xs i ≡ Some x → Each P xs → P x
each_at P [] i x at each = absurd cc
each_at P (y ∷ xs) zero x at each = let same : y ≡ x = cc in subst P same each.0
each_at P (y ∷ xs) (suc i) x at each = each_at P xs i x at each.1

map_back : {X Y : Type 0} (f : X → Y) (g : Y → X) (xs : List X) → Each (λ x. g (f x) ≡ x) xs → map g (map f xs) ≡ xs
map_back f g [] each = refl
map_back f g (x ∷ xs) each = λ i. each.0 i ∷ map_back f g xs each.1 i

map_twice : {X Y Z : Type 0} (f : X → Y) (g : Y → Z) (xs : List X) → map (λ x. g (f x)) xs ≡ map g (map f xs)
map_twice f g [] = refl
map_twice f g (x ∷ xs) = ap (λ zs. g (f x) ∷ zs) (map_twice f g xs)

fronts : {X Y : Type 0} (R : X → Y → Type 0) (n : ℕ) (xs : List X) (ys : List Y) → AllZip R xs ys → AllZip R (take n xs) (take n ys)
fronts R zero xs ys all = tt
fronts R (suc n) [] [] all = tt
fronts R (suc n) [] (y ∷ ys) all = absurd all
fronts R (suc n) (x ∷ xs) [] all = absurd all
fronts R (suc n) (x ∷ xs) (y ∷ ys) all = (all.0, fronts R n xs ys all.1)

-- ---- the names of tales that were mentioned

-- the name has a number
abbrev IsPlaced : List (List ℕ) → List ℕ → Type 0
IsPlaced names name = (i : ℕ) × (position (bytes_eq name) names ≡ Some i)

-- so have the lock and the location of the tale
abbrev AreIn : NameLists → Tale → Type 0
AreIn names (Acquires lock mode location) = IsPlaced names.locks lock × IsPlaced names.locs location
AreIn names (Releases lock mode location) = IsPlaced names.locks lock × IsPlaced names.locs location
AreIn names (TryAcquires lock mode location) = IsPlaced names.locks lock × IsPlaced names.locs location
AreIn names (Forks thread location) = IsPlaced names.locs location
AreIn names (Joins thread location) = IsPlaced names.locs location

placed_more : (names more : List (List ℕ)) (name : List ℕ) → IsPlaced names name → IsPlaced (names ++ more) name
placed_more names more name is = (is.0, position-append names more name is.0 is.1)

in_more : (names more : NameLists) (tale : Tale) → AreIn names tale → AreIn (with_more names more) tale
in_more names more (Acquires lock mode location) are = (placed_more names.locks more.locks lock are.0, placed_more names.locs more.locs location are.1)
in_more names more (Releases lock mode location) are = (placed_more names.locks more.locks lock are.0, placed_more names.locs more.locs location are.1)
in_more names more (TryAcquires lock mode location) are = (placed_more names.locks more.locks lock are.0, placed_more names.locs more.locs location are.1)
in_more names more (Forks thread location) are = placed_more names.locs more.locs location are
in_more names more (Joins thread location) are = placed_more names.locs more.locs location are

new_placed : (names : List (List ℕ)) (name : List ℕ) → IsPlaced (with_new names name) name
new_placed names name = (number_of names name, placed names name)

one_in : (names : NameLists) (tale : Tale) → AreIn (mentioned names (tale ∷ [])) tale
one_in names (Acquires lock mode location) = (new_placed names.locks lock, new_placed names.locs location)
one_in names (Releases lock mode location) = (new_placed names.locks lock, new_placed names.locs location)
one_in names (TryAcquires lock mode location) = (new_placed names.locks lock, new_placed names.locs location)
one_in names (Forks thread location) = new_placed names.locs location
one_in names (Joins thread location) = new_placed names.locs location

all_in : (names : NameLists) (list : List Tale) → Each (AreIn (mentioned names list)) list
all_in names [] = tt
all_in names (tale ∷ list) =
    let adds = mentioned_adds (mentioned names (tale ∷ [])) list in
    let whole : mentioned names (tale ∷ list) ≡ mentioned (mentioned names (tale ∷ [])) list = mentioned-append names (tale ∷ []) list in (
      subst (λ ns. AreIn ns tale) (sym (whole ∙ adds.1)) (in_more (mentioned names (tale ∷ [])) adds.0 tale (one_in names tale)),
      subst (λ ns. Each (AreIn ns) list) (sym whole) (all_in (mentioned names (tale ∷ [])) list),
    )

-- each tale's names have numbers by mention
tales_in : (names : NameLists) (lists : List (List Event)) → Each (Each (AreIn (names_by_mention names lists))) (tales names lists)
tales_in names lists =
    each_list (AreIn (names_by_mention names lists)) (tales names lists) (all_in (record names { locks = []; locs = [] }) (flat_map (λ list. list) (tales names lists)))

-- ---- what is told again

name_back : (names : List (List ℕ)) (name : List ℕ) → IsPlaced names name → name_at names (number_of names name) ≡ name
name_back names name is =
    let here = position-Some (bytes_eq name) names is.0 [] is.1 in
    let there : slice_get names is.0 ≡ Some name = slice_get-get_or names is.0 [] here.0 ∙ ap Some (sym (same_name name (get_or names is.0 []) here.1)) in
    ap (λ r. name_at names (unwrap_or r (length names))) is.1 ∙ ap (λ o. unwrap_or o []) there

told_back : (names : NameLists) (tale : Tale) → AreIn names tale → told names (event_by names tale) ≡ tale
told_back names (Acquires lock mode location) are = λ i. Acquires (name_back names.locks lock are.0 i) mode (name_back names.locs location are.1 i)
told_back names (Releases lock mode location) are = λ i. Releases (name_back names.locks lock are.0 i) mode (name_back names.locs location are.1 i)
told_back names (TryAcquires lock mode location) are = λ i. TryAcquires (name_back names.locks lock are.0 i) mode (name_back names.locs location are.1 i)
told_back names (Forks thread location) are = ap (Forks thread) (name_back names.locs location are)
told_back names (Joins thread location) are = ap (Joins thread) (name_back names.locs location are)

pub told_again : ListsByMentionTellTheSame
told_again names lists =
    let new = names_by_mention names lists in
    let each : Each (λ list. map (told new) (map (event_by new) list) ≡ list) (tales names lists) =
    each_by (Each (AreIn new)) (λ list. map (told new) (map (event_by new) list) ≡ list)
    (λ list are. map_back (event_by new) (told new) list (each_by (AreIn new) (λ t. told new (event_by new t) ≡ t) (told_back new) list are)) (tales names lists) (tales_in names lists) in
    (refl, map_back (map (event_by new)) (map (told new)) (tales names lists) each)

-- ---- lawful lists

-- the numbers are of the same name
abbrev IsSame : List (List ℕ) → List (List ℕ) → ℕ → ℕ → Type 0
IsSame old new a b = (name : List ℕ) × (slice_get old a ≡ Some name) × (position (bytes_eq name) new ≡ Some b)

-- different names have different numbers in both
one_to_one : (old new : List (List ℕ)) → AllPairs (λ a b. a ≢ b) old → (a b k l : ℕ) → IsSame old new a b → IsSame old new k l → eqb a k ≡ eqb b l
one_to_one old new differ a b k l one other = by (eqb a k) refl (eqb b l) refl
  where
    forth : a ≡ k → b ≡ l
    forth same =
        let names : Some one.0 ≡ Some other.0 = sym one.1 ∙ ap (slice_get old) same ∙ other.1 in
        let name : one.0 ≡ other.0 = cc in
        let numbers : Some b ≡ Some l = sym one.2 ∙ ap (λ n. position (bytes_eq n) new) name ∙ other.2 in
        cc

    back : b ≡ l → a ≡ k
    back same =
        let first = position-Some (bytes_eq one.0) new b [] one.2 in
        let second = position-Some (bytes_eq other.0) new l [] other.2 in
        let name : one.0 ≡ other.0 = same_name one.0 (get_or new b []) first.1 ∙ ap (λ n. get_or new n []) same ∙ sym (same_name other.0 (get_or new l []) second.1) in
        let places : Some a ≡ Some k =
        sym (stands_at old one.0 one.0 a differ one.1 (itself one.0)) ∙ ap (λ n. position (bytes_eq n) old) name ∙ stands_at old other.0 other.0 k differ other.1 (itself other.0) in
        cc

    by : (p : Bool) → eqb a k ≡ p → (q : Bool) → eqb b l ≡ q → p ≡ q
    by true e true f = refl
    by false e false f = refl
    by true e false f = absurd (eqb-false b l f (forth (eqb-true a k e)))
    by false e true f = absurd (eqb-false a k e (back (eqb-true b l f)))

left_of : (a b : Bool) → (a && b) ≡ true → a ≡ true
left_of true b e = refl
left_of false b e = e

right_of : (a b : Bool) → (a && b) ≡ true → b ≡ true
right_of true b e = e
right_of false b e = absurd (false≢true e)

same_lock : (old new : List (List ℕ)) (a : ℕ) → ltb a (length old) ≡ true → IsPlaced new (name_at old a) → IsSame old new a (number_of new (name_at old a))
same_lock old new a within is =
    (name_at old a, slice_get-get_or old a [] (ltb-true a (length old) within) ∙ ap Some (sym (unwrap_or-slice_get old a [])), is.1 ∙ ap Some (sym (ap (λ r. unwrap_or r (length new)) is.1)))

module _ (names new : NameLists) (differ : AllPairs (λ a b. a ≢ b) names.locks) where
  -- the event by the new numbers
  abbrev again : Event → Event
  again e = event_by new (told names e)

  abbrev Same : ℕ → ℕ → Type 0
  Same = IsSame names.locks new.locks

  renumbered : (e : Event) → has_names names e ≡ true → AreIn new (told names e) → Renumbered Same e (again e)
  renumbered (Acquire mode lock loc) has are = acquire lock _ mode loc _ (same_lock names.locks new.locks lock (left_of _ _ has) are.0)
  renumbered (Release mode lock loc) has are = release lock _ mode loc _ (same_lock names.locks new.locks lock (left_of _ _ has) are.0)
  renumbered (TryAcquire mode lock loc) has are = try_acquire lock _ mode loc _ (same_lock names.locks new.locks lock (left_of _ _ has) are.0)
  renumbered (Fork thread loc) has are = fork thread thread loc _
  renumbered (Join thread loc) has are = join thread thread loc _

  all_renumbered : (es : List Event) → list_all (has_names names) es ≡ true → Each (AreIn new) (map (told names) es) → AllZip (Renumbered Same) es (map again es)
  all_renumbered [] has are = tt
  all_renumbered (e ∷ es) has are = (renumbered e (left_of _ _ has) are.0, all_renumbered es (right_of _ _ has) are.1)

  same_partner : (e : Event) → partner (again e) ≡ partner e
  same_partner (Acquire mode lock loc) = refl
  same_partner (Release mode lock loc) = refl
  same_partner (TryAcquire mode lock loc) = refl
  same_partner (Fork thread loc) = refl
  same_partner (Join thread loc) = refl

  -- the same event may come next
  same_refusal_again : (limits : Bounds) (thread : ℕ) (es : List Event) (e : Event) → AllZip (Renumbered Same) es (map again es) → Renumbered Same e (again e) → refusal limits thread (map again es) (again e) ≡ refusal limits thread es e
  unfolding refusal
  same_refusal_again limits thread es e all one =
      let size = length-map es again in
      let other = same_partner e in
      let locks = same_refusal Same (one_to_one names.locks new.locks differ) es (map again es) e (again e) all one in
      λ i. cond (nat_le limits.events (size i)) (Some PlaceFull) (cond (option_map_or (nat_le limits.threads) (other i) false) (Some NoSuchThread) (cond (option_map_or (λ t. eqb t thread) (other i) false) (Some OnItself) (sym locks i)))

  lawful_again : (limits : Bounds) (thread : ℕ) (es : List Event) → list_all (has_names names) es ≡ true → Each (AreIn new) (map (told names) es) → IsLawful limits thread es → IsLawful limits thread (map again es)
  lawful_again limits thread es has are lawful = record { each = λ place f at. by place f (slice_get es place) refl (sym (slice_get-map again es place) ∙ at) }
    where
      by : (place : ℕ) (f : Event) (r : Option Event) → slice_get es place ≡ r → option_map again r ≡ Some f → refusal limits thread (take place (map again es)) f ≡ None
      by place f None stands at = absurd cc
      by place f (Some e) stands at =
          let same : again e ≡ f = cc in
          let front : AllZip (Renumbered Same) (take place es) (map again (take place es)) = subst (AllZip (Renumbered Same) (take place es)) (take-map again place es) (fronts (Renumbered Same) place es (map again es) (all_renumbered es has are)) in
          let one = renumbered e (one_passes (has_names names) es place e stands has) (each_at (AreIn new) (map (told names) es) place (told names e) (slice_get-map (told names) es place ∙ ap (option_map (told names)) stands) are) in
          ap (λ g. refusal limits thread (take place (map again es)) g) (sym same)
          ∙ ap (λ fs. refusal limits thread fs (again e)) (take-map again place es)
          ∙ same_refusal_again limits thread (take place es) e front one
          ∙ lawful.each place e stands

pub stay_lawful : (names : NameLists) (lists : List (List Event)) → AllPairs (λ a b. a ≢ b) names.locks → have_names names lists ≡ true → StayLawful lists (lists_by_mention names lists)
stay_lawful names lists differ has limits lawful thread fs at = by (slice_get lists thread) refl stands
  where
    new : NameLists
    new = names_by_mention names lists

    stands : option_map (map (event_by new)) (option_map (map (told names)) (slice_get lists thread)) ≡ Some fs
    stands = ap (option_map (map (event_by new))) (sym (slice_get-map (map (told names)) lists thread)) ∙ sym (slice_get-map (map (event_by new)) (tales names lists) thread) ∙ at

    by : (r : Option (List Event)) → slice_get lists thread ≡ r → option_map (map (event_by new)) (option_map (map (told names)) r) ≡ Some fs → IsLawful limits thread fs
    by None here is = absurd cc
    by (Some es) here is =
        let same : map (event_by new) (map (told names) es) ≡ fs = cc in
        let are = each_at (Each (AreIn new)) (tales names lists) thread (map (told names) es) (slice_get-map (map (told names)) lists thread ∙ ap (option_map (map (told names))) here) (tales_in names lists) in
        subst (IsLawful limits thread) (map_twice (told names) (event_by new) es ∙ same)
        (lawful_again names new differ limits thread es (one_passes (list_all (has_names names)) lists thread es here has) are (lawful thread es here))

-- ---- lists that tell the same

pub same_lists : SameTalesSameLists
same_lists names others lists other_lists same =
    let own : names_by_mention names lists ≡ names_by_mention others other_lists = λ i. mentioned (record { threads = same.0 i; locks = []; locs = [] }) (flat_map (λ list. list) (same.1 i)) in
    (own, λ i. map (map (event_by (own i))) (same.1 i))
